-- What document 01 says of the settings, said apart from the rules that machine and exact model share: the pen stays where it is when they change, and which box the
-- window is. The first holds because a turn is undone by its table's transpose, and an offset of 0 adds nothing whatever the width is.
use Rattle.std.specs.Prelude.{◌≡◌, true, false, ◌&&◌, ℕ, zero, suc, ◌+◌, ◌*◌, ◌/◌, ◌<◌, ltb, eqb, ℤ, pos, negsuc, ◌+ℤ◌, ◌*ℤ◌}
use Rattle.std.proofs.Math.Path.{refl, ap}
use Rattle.std.proofs.Common.{sym, ◌∙◌, arith, eq-eqb, ne_eqb, ltb-true}
use Rattle.std.proofs.Math.Nat.{div-eq_of_lt}
use Rattle.exact.specs.Whole.{◌≡?◌, is, Z}
use Rattle.exact.specs.Divide.{nearest_div}
use Rattle.clip.specs.Line.{Exact, nearest}
use Rattle.clip.specs.declared.Point.{Point}
use Rattle.clip.specs.declared.Rect.{Rect}
use Rattle.reader.specs.declared.Numbers.{Numbers}
use Rattle.mnemonics.specs.Table.{IN, DF, IP, SC, RO}
use Rattle.plane.specs.declared.position.Axis.{Axis}
use Rattle.plane.specs.Position.{location_of}
use Rattle.turns.specs.Turn.{turn_count, find_turn, turned_of, turned_back_of, ordered_of, turned_box_of}
use Rattle.turns.proofs.TurnLaws.{back-forth, forth-back}
use Rattle.turns.proofs.TurnsSaid.{turned_none}
use Rattle.turns.specs.Limits.{intersection_of, limits_of}
use Rattle.hpgl.proofs.Cases.{pick, whether}
use Rattle.hpgl.specs.declared.Position.{Position}
use Rattle.hpgl.specs.declared.Settings.{Settings}
use Rattle.hpgl.specs.declared.Core.{Core}
use Rattle.hpgl.specs.declared.Acted.{Acted}
use Rattle.hpgl.specs.Place.{point, axis_x, axis_y, exact_position, location, in_range, absolute_position, rest_at, page_point, limits}
use Rattle.hpgl.specs.Change.{with_relative, with_carriage}
use Rattle.hpgl.specs.Rules.{done, refuse, fresh_settings, fresh_carriage, rebased, in_rule, df_rule, good_corners, set_corners, ip_rule, sc_rule, set_turn, turn_to, ro_rule, set_window, iw_rule, end_rule}
use Rattle.hpgl.specs.Related.{Sound}
use Rattle.hpgl.proofs.PolygonLinked.{location-nearest}
use Rattle.hpgl.proofs.PinsPosition.{StandsFor, placed}

-- ---- "When IN, DF, IP, SC or RO is carried out, B becomes the location and O 0."

pub data Rebasing : ℕ → Type 0 where
  initialize : Rebasing IN
  defaults : Rebasing DF
  corners : Rebasing IP
  scale : Rebasing SC
  turn : Rebasing RO

-- DF, IP and SC leave the location; IN: "page point and pen number stay"; RO: "The page point stays"
abbrev pub SameLocation : Core → Core → Type 0
SameLocation c d = location d.settings d.carriage.position ≡ location c.settings c.carriage.position

abbrev pub SamePage : Core → Core → Type 0
SamePage c d = page_point d.settings d.carriage.position ≡ page_point c.settings c.carriage.position

abbrev pub Stays : {op : ℕ} → Rebasing op → Core → Core → Type 0
Stays initialize c d = SamePage c d
Stays defaults c d = SameLocation c d
Stays corners c d = SameLocation c d
Stays scale c d = SameLocation c d
Stays turn c d = SamePage c d

pub record Rested (Same : Core → Core → Type 0) (c d : Core) : Type 0 where
  -- B is the location and O 0
  pub rests : d.carriage.position ≡ rest_at (location d.settings d.carriage.position)
  pub stays : Same c d

-- ---- an offset of 0 adds nothing

half : (w : ℕ) → (0 + suc w) / (2 * suc w) ≡ 0
half w = div-eq_of_lt (omega arith)

nothing-more : (W : ℤ) → nearest_div (pos 0) W ≡ pos 0
unfolding nearest_div
nothing-more (pos zero) = refl
nothing-more (pos (suc w)) = ap pos (half w)
nothing-more (negsuc w) = ap pos (half w)

rest-axis : (a : Axis) (b : ℤ) → location_of a (record { base = b; offset = pos 0 }) ≡ b
unfolding location_of
rest-axis a b = ap (λ (n : ℤ). b +ℤ nearest_div n a.width) (none a.span) ∙ ap (λ (n : ℤ). b +ℤ n) (nothing-more a.width) ∙ same b
  where
    none : (d : ℤ) → pos 0 *ℤ d ≡ pos 0
    none d = rw (is d) (simp Z (omega arith))

    same : (b : ℤ) → b +ℤ pos 0 ≡ b
    same b = rw (is b) (simp Z (omega arith))

rest-located : (s : Settings) (p : Point) → location s (rest_at p) ≡ p
unfolding location rest_at
rest-located s p = λ i. point (rest-axis (axis_x s) p.x i) (rest-axis (axis_y s) p.y i)

-- ---- the rules

-- new settings with the turn as it was
unturned : (c : Core) → c.settings.turn < turn_count → (s : Settings) → s.turn ≡ c.settings.turn → Rested SameLocation c (rebased c s)
unfolding rebased page_point
unturned c h s e = record {
  rests = ap rest_at (sym (rest-located s _));
  stays = rest-located s _ ∙ ap (turned_back_of (turned_of (location c.settings c.carriage.position) c.settings.turn)) e ∙ back-forth _ c.settings.turn h;
}

turned : (c : Core) (s : Settings) → s.turn < turn_count → Rested SamePage c (rebased c s)
unfolding rebased page_point
turned c s l = record {
  rests = ap rest_at (sym (rest-located s _));
  stays = ap (λ (p : Point). turned_of p s.turn) (rest-located s _) ∙ forth-back _ s.turn l;
}

module _ (c : Core) (h : c.settings.turn < turn_count) where
  abbrev Settles : (Core → Core → Type 0) → Acted → Type 0
  Settles Same t = t.number ≡ 0 → Rested Same c t.core

  refuses : (Same : Core → Core → Type 0) (d : Core) (k : ℕ) → Settles Same (refuse d (suc k))
  unfolding refuse
  refuses Same d k e = absurd (omega arith)

  settles-in : Settles SamePage (in_rule c)
  unfolding in_rule done fresh_settings fresh_carriage page_point
  settles-in e =
      let s : Settings = fresh_settings c.settings.hard in
      let q : Point = turned_of (location c.settings c.carriage.position) c.settings.turn in
      record { rests = ap rest_at (sym (rest-located s q)); stays = ap (λ (p : Point). turned_of p 0) (rest-located s q) ∙ turned_none q }

  settles-df : Settles SameLocation (df_rule c)
  unfolding df_rule done rebased
  settles-df e = let u = unturned (with_carriage c (with_relative c.carriage false)) h _ refl in record { rests = u.rests; stays = u.stays }

  settles-corners : (p q : Point) → Settles SameLocation (set_corners c p q)
  unfolding set_corners done
  settles-corners p q = pick (Settles SameLocation) (good_corners p q) (λ e. unturned c h _ refl) (refuses SameLocation _ _)

  settles-ip : (n : Numbers) → Settles SameLocation (ip_rule c n)
  unfolding ip_rule
  settles-ip n = pick (Settles SameLocation) (eqb n.count 0) (settles-corners _ _) (pick (Settles SameLocation) (eqb n.count 2) (settles-corners _ _) (settles-corners _ _))

  settles-sc : (n : Numbers) → Settles SameLocation (sc_rule c n)
  unfolding sc_rule done
  settles-sc n =
      pick (Settles SameLocation) (eqb n.count 0) (λ e. unturned c h _ refl)
      (pick (Settles SameLocation) (n.first ≡? n.second) (refuses SameLocation _ _)
      (pick (Settles SameLocation) (n.third ≡? n.fourth) (refuses SameLocation _ _) (λ e. unturned c h _ refl)))

  settles-turn : (z : ℤ) → Settles SamePage (turn_to c z)
  unfolding turn_to set_turn done
  settles-turn z = whether (Settles SamePage) (ltb (find_turn z) turn_count) (λ t e. turned c _ (ltb-true (find_turn z) turn_count t)) (λ t. refuses SamePage _ _)

  settles-ro : (n : Numbers) → Settles SamePage (ro_rule c n)
  unfolding ro_rule
  settles-ro n = pick (Settles SamePage) (eqb n.count 0) (settles-turn _) (settles-turn _)

  -- IN, DF, IP, SC and RO, carried out
  pub settled : {op : ℕ} (k : Rebasing op) (n : Numbers) → (end_rule c op n).number ≡ 0 → Rested (Stays k) c (end_rule c op n).core
  unfolding end_rule
  settled initialize n = settles-in
  settled defaults n = settles-df
  settled corners n = settles-ip n
  settled scale n = settles-sc n
  settled turn n = settles-ro n

-- ---- the window

-- "IW: two corners in current units, in absolute sense, rounded, .. and put in order": whatever the mode is
pub record Windowed (c : Core) (n : Numbers) (d : Core) : Type 0 where
  pub corner : Exact
  pub opposite : Exact
  pub first : StandsFor c.settings corner (record { x = n.first; y = n.second })
  pub second : StandsFor c.settings opposite (record { x = n.third; y = n.fourth })
  pub set : d.settings.window.set ≡ true
  pub area : d.settings.window.area ≡ ordered_of (nearest corner) (nearest opposite)
  -- "the limits: hard limits and, if set, the turned window"
  pub limits : limits d.settings ≡ intersection_of c.settings.hard (turned_box_of (ordered_of (nearest corner) (nearest opposite)) c.settings.turn)

pub window-set : (c : Core) (n : Numbers) → Sound c.settings → (n.count ≡ 0 → ⊥) → (iw_rule c n).number ≡ 0 → Windowed c n (iw_rule c n).core
unfolding iw_rule set_window limits limits_of done refuse
window-set c n w k = rw (ne_eqb n.count 0 k) (pick (λ (t : Acted). t.number ≡ 0 → Windowed c n t.core) (in_range p && in_range q)
    (λ z. record {
      corner = corner;
      opposite = opposite;
      first = placed c.settings _ w;
      second = placed c.settings _ w;
      set = refl;
      area = box;
      limits = ap (λ (r : Rect). intersection_of c.settings.hard (turned_box_of r c.settings.turn)) box;
    })
    (λ z. absurd (omega arith)))
  where
    u : Position
    u = absolute_position c.settings (record { x = n.first; y = n.second })

    v : Position
    v = absolute_position c.settings (record { x = n.third; y = n.fourth })

    p : Point
    p = location c.settings u

    q : Point
    q = location c.settings v

    corner : Exact
    corner = exact_position c.settings u

    opposite : Exact
    opposite = exact_position c.settings v

    box : ordered_of p q ≡ ordered_of (nearest corner) (nearest opposite)
    box = λ i. ordered_of (location-nearest c.settings u w i) (location-nearest c.settings v w i)

-- "none removes it"
pub window-removed : (c : Core) (n : Numbers) → n.count ≡ 0 → ((iw_rule c n).number ≡ 0) × (limits (iw_rule c n).core.settings ≡ c.settings.hard)
unfolding iw_rule limits limits_of done
window-removed c n k = rw (eq-eqb n.count 0 k) (refl, refl)

-- RO: "the window turns along". The hard limits do not
pub record TurnedAlong (c d : Core) : Type 0 where
  pub hard : d.settings.hard ≡ c.settings.hard
  pub window : d.settings.window ≡ c.settings.window
  pub limits : c.settings.window.set ≡ true → limits d.settings ≡ intersection_of c.settings.hard (turned_box_of c.settings.window.area d.settings.turn)

pub turned-along : (c : Core) (n : Numbers) → (ro_rule c n).number ≡ 0 → TurnedAlong c (ro_rule c n).core
unfolding ro_rule turn_to set_turn rebased done refuse limits limits_of
turned-along c n = pick P (eqb n.count 0) (along _) (along _)
  where
    P : Acted → Type 0
    P t = t.number ≡ 0 → TurnedAlong c t.core

    along : (z : ℤ) → P (turn_to c z)
    along z = pick P (ltb (find_turn z) turn_count) (λ e. record { hard = refl; window = refl; limits = λ s. rw s refl }) (λ e. absurd (omega arith))
