-- OA, OP, OW, OH and OE keep the core valid, and so is the reply that each hands on: none of its numbers is larger than a location. A number that is remembered keeps it, too.
use Rattle.std.specs.Prelude.{◌≡◌, refl, Bool, true, false, cond, ◌||◌, ℕ, ◌≤◌, eqb, ℤ, pos}
use Rattle.std.proofs.Common.{sym, true≢false, arith, eqb-true}
use Rattle.exact.specs.Fit.{Bd, bd-lit, bd-le}
use Rattle.clip.specs.declared.Rect.{Rect}
use Rattle.clip.specs.Reach.{reach, SmallRect}
use Rattle.turns.proofs.BoxLaws.{back-box-small}
use Rattle.hpgl.specs.declared.Core.{Core}
use Rattle.hpgl.specs.declared.Reply.{Reply}
use Rattle.hpgl.specs.declared.Action.TheVariants.{Answer}
use Rattle.hpgl.specs.declared.Acted.{Acted}
use Rattle.hpgl.specs.Replies.{place_told, corners_told, box_told, window_shown, window_told, limits_told, refusal_told, remembered, remembering}
use Rattle.hpgl.specs.Rules.{oa_rule, op_rule, ow_rule, oh_rule, oe_rule, noting, noted}
use Rattle.hpgl.specs.Machine.{waiting, queued}
use Rattle.hpgl.specs.Valid.{ShortRect, Recalled, clear, given, ValidCore, one, three, four, ValidReply, ValidActed}
use Rattle.hpgl.proofs.Cases.{pick, whether}
use Rattle.hpgl.proofs.KeptCases.{Inks, valid-core, acts}

-- a reply is no segment
answers : (d : Core) (r : Reply) → Inks d (Answer r)
unfolding queued waiting
answers d r t es k = record { pen = λ h e. omega (arith, h) }

bit : (b : Bool) → Bd (cond b (pos 1) (pos 0)) reach
bit b = pick (λ (z : ℤ). Bd z reach) b (bd-lit tt) (bd-lit tt)

box-valid : {r : Rect} → SmallRect r → ValidReply (box_told r)
unfolding box_told
box-valid h = record { count = four; first = h.left; second = h.bottom; third = h.right; fourth = h.top }

hard-small : {r : Rect} → ShortRect r → SmallRect r
hard-small h = record { left = bd-le h.left tt; bottom = bd-le h.bottom tt; right = bd-le h.right tt; top = bd-le h.top tt }

-- what is remembered is at most 7
seven : (k : ℕ) → remembered k ≡ true → k ≤ 7
unfolding remembered
seven k = go (eqb k 1) refl (eqb k 2) refl (eqb k 3) refl (eqb k 6) refl (eqb k 7) refl
  where
    go : (a : Bool) → eqb k 1 ≡ a → (b : Bool) → eqb k 2 ≡ b → (c : Bool) → eqb k 3 ≡ c → (d : Bool) → eqb k 6 ≡ d → (e : Bool) → eqb k 7 ≡ e → (a || b || c || d || e) ≡ true → k ≤ 7
    go true i b j c l d m e n t = omega (arith, eqb-true k 1 i)
    go false i true j c l d m e n t = omega (arith, eqb-true k 2 j)
    go false i false j true l d m e n t = omega (arith, eqb-true k 3 l)
    go false i false j false l true m e n t = omega (arith, eqb-true k 6 m)
    go false i false j false l false m true n t = omega (arith, eqb-true k 7 n)
    go false i false j false l false m false n t = absurd (true≢false (sym t))

pub recalled-least : {k : ℕ} → Recalled k → k ≤ 7
recalled-least clear = omega arith
recalled-least {k} (given h) = seven k h

module _ {c : Core} (w : ValidCore c) where
  pub place-valid : ValidReply (place_told c)
  unfolding place_told
  place-valid = record { count = three; first = w.position.near.x; second = w.position.near.y; third = bit c.carriage.pen.down; fourth = bd-lit tt }

  pub corners-valid : ValidReply (corners_told c)
  unfolding corners_told
  corners-valid =
      let s = w.settings in
      record { count = four; first = bd-le s.p1.x tt; second = bd-le s.p1.y tt; third = bd-le s.p2.x tt; fourth = bd-le s.p2.y tt }

  pub window-valid : ValidReply (window_told c)
  unfolding window_told window_shown
  window-valid = box-valid (pick SmallRect c.settings.window.set w.settings.window (back-box-small (hard-small w.settings.hard) w.settings.turn))

  pub limits-valid : ValidReply (limits_told c)
  unfolding limits_told
  limits-valid = box-valid (hard-small w.settings.hard)

  pub refusal-valid : ValidReply (refusal_told c)
  unfolding refusal_told
  refusal-valid = record { count = one; first = record { bd = omega (arith, recalled-least w.memory) }; second = bd-lit tt; third = bd-lit tt; fourth = bd-lit tt }

  pub valid-oa : ValidActed c (oa_rule c)
  unfolding oa_rule
  valid-oa = acts c c _ place-valid w (answers c _)

  pub valid-op : ValidActed c (op_rule c)
  unfolding op_rule
  valid-op = acts c c _ corners-valid w (answers c _)

  pub valid-ow : ValidActed c (ow_rule c)
  unfolding ow_rule
  valid-ow = acts c c _ window-valid w (answers c _)

  pub valid-oh : ValidActed c (oh_rule c)
  unfolding oh_rule
  valid-oh = acts c c _ limits-valid w (answers c _)

  pub valid-oe : ValidActed c (oe_rule c)
  unfolding oe_rule
  valid-oe = acts c _ _ refusal-valid (valid-core w.settings w.position w.pen w.polygon clear) (answers _ _)

-- after every rule
pub valid-noted : {c : Core} {t : Acted} → ValidActed c t → ValidActed c (noted t)
unfolding noted noting remembering
valid-noted {c} {t} h = record {
  core = record {
    settings = h.core.settings;
    position = h.core.position;
    pen = h.core.pen;
    polygon = h.core.polygon;
    memory = whether Recalled (remembered t.number) (λ e. given e) (λ e. h.core.memory);
  };
  action = h.action;
  number = h.number;
  inked = λ turn es k. record { pen = (h.inked turn es k).pen };
}
