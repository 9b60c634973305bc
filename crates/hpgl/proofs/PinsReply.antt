-- OA, OP, OW, OH and OE, in document 02's words and not by the rules: of every machine that the calls make, the byte that ends one of them is not refused, and the reply that then
-- waits has these numbers, of the machine before that byte. What each leaves else stands in Effects.antt (nothing; OE forgets what it tells).
use Rattle.std.specs.Prelude.{◌≡◌, true, false, cond, ℕ, pos}
use Rattle.std.proofs.Math.Path.{refl}
use Rattle.std.proofs.Common.{ap, ◌∙◌}
use Rattle.clip.specs.declared.Rect.{Rect}
use Rattle.reader.specs.declared.Numbers.{Numbers}
use Rattle.reader.specs.declared.Event.{Event}
use Rattle.reader.specs.declared.Event.TheVariants.{Ended}
use Rattle.reader.specs.Step.{step_of}
use Rattle.mnemonics.specs.Table.{OA, OP, OW, OH, OE}
use Rattle.turns.specs.Turn.{turned_box_of}
use Rattle.hpgl.specs.declared.Reply.{Reply}
use Rattle.hpgl.specs.declared.State.{State}
use Rattle.hpgl.proofs.Cases.{cond-true}
use Rattle.hpgl.specs.Replies.{place_told, corners_told, box_told, window_shown, window_told, limits_told, refusal_told}
use Rattle.hpgl.specs.Rules.{done, oa_rule, op_rule, ow_rule, oh_rule, oe_rule, noted, end_rule, act_on}
use Rattle.hpgl.specs.Machine.{replied, queued, applied, acted, take_state, take_number, look_at}
use Rattle.hpgl.specs.Valid.{ValidSettings}
use Rattle.hpgl.proofs.Free.{Free, free-is}
use Rattle.hpgl.proofs.ReplyLaws.{ow-turns-back}

-- carried out, and so many numbers wait
pub record Told (m : State) (b : ℕ) (r : Reply) : Type 0 where
  pub number : take_number m b ≡ 0
  pub reply : replied (take_state m b).work ≡ r

-- "each left, bottom, right, top"
abbrev pub four_of : Rect → Reply
four_of r = record { count = 4; first = r.left; second = r.bottom; third = r.right; fourth = r.top }

-- "window"; "OW without a window gives the hard limits turned back"
pub record Window (m : State) (b : ℕ) : Type 0 where
  pub box : Rect
  pub told : Told m b (four_of box)
  pub set : m.core.settings.window.set ≡ true → box ≡ m.core.settings.window.area
  pub unset : m.core.settings.window.set ≡ false → turned_box_of box m.core.settings.turn ≡ m.core.settings.hard

module _ (m : State) (b : ℕ) (free : Free m) where
  by-event : (e : Event) → (step_of m.reader b).event ≡ e → (r : Reply) → (noted (act_on m.core e)).number ≡ 0 →
      replied (applied m (step_of m.reader b).reader (noted (act_on m.core e))).work ≡ r → Told m b r
  unfolding take_number take_state acted
  by-event e is r n w = record {
    number = rw (free-is free) (ap (λ (x : Event). (noted (act_on m.core x)).number) is ∙ n);
    reply = rw (free-is free) (ap (λ (x : Event). replied (applied m (step_of m.reader b).reader (noted (act_on m.core x))).work) is ∙ w);
  }

  -- "Give the location and 1 for pen down or 0 for up": look's location
  pub take-oa : (n : Numbers) → (step_of m.reader b).event ≡ Ended OA n →
      Told m b (record { count = 3; first = (look_at m).location.x; second = (look_at m).location.y; third = cond (look_at m).down (pos 1) (pos 0); fourth = pos 0 })
  unfolding act_on end_rule oa_rule done noted applied queued replied place_told look_at
  take-oa n is = by-event (Ended OA n) is _ refl refl

  -- "P1 and P2"
  pub take-op : (n : Numbers) → (step_of m.reader b).event ≡ Ended OP n → let s = m.core.settings in
      Told m b (record { count = 4; first = s.p1.x; second = s.p1.y; third = s.p2.x; fourth = s.p2.y })
  unfolding act_on end_rule op_rule done noted applied queued replied corners_told
  take-op n is = by-event (Ended OP n) is _ refl refl

  -- "the machine's hard limits"
  pub take-oh : (n : Numbers) → (step_of m.reader b).event ≡ Ended OH n → Told m b (four_of m.core.settings.hard)
  unfolding act_on end_rule oh_rule done noted applied queued replied limits_told box_told
  take-oh n is = by-event (Ended OH n) is _ refl refl

  -- the number that is remembered: LastRefusal.antt says which that is
  pub take-oe : (n : Numbers) → (step_of m.reader b).event ≡ Ended OE n →
      Told m b (record { count = 1; first = pos m.core.carriage.memory.refusal; second = pos 0; third = pos 0; fourth = pos 0 })
  unfolding act_on end_rule oe_rule done noted applied queued replied refusal_told
  take-oe n is = by-event (Ended OE n) is _ refl refl

  -- the settings are valid, as those of every machine that the calls make are (`made-usable`)
  pub take-ow : ValidSettings m.core.settings → (n : Numbers) → (step_of m.reader b).event ≡ Ended OW n → Window m b
  unfolding act_on end_rule ow_rule done noted applied queued replied window_told box_told window_shown
  take-ow valid n is =
      let s = m.core.settings in
      record {
        box = window_shown s;
        told = by-event (Ended OW n) is _ refl refl;
        set = λ e. cond-true s.window.set _ _ e;
        unset = λ e. ow-turns-back s valid e;
      }
