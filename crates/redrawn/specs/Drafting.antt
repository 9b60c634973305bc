-- What the instructions of the text do to the core: of a machine after IN, which has its fresh settings, is in absolute mode and outside polygon mode.
-- Why: PU and PD go to the number that is written, since nothing is scaled or turned; and a line between two points in the hard limits is clipped nowhere.
use Rattle.std.specs.Prelude.{Bool, not, ◌≡◌, ℕ, ◌≤◌, ℤ, ◌+ℤ◌, ◌-ℤ◌, ◌*ℤ◌}
use Rattle.std.proofs.Math.Bool.{true, false}
use Rattle.std.proofs.Math.Path.{refl, ap}
use Rattle.std.proofs.Common.{◌∙◌, arith, ne_eqb}
use Rattle.std.proofs.Math.IntN.{pos}
use Rattle.exact.specs.Whole.{is, Z, ord, le-≤?}
use Rattle.exact.specs.Fit.{bd-le}
use Rattle.exact.specs.Divide.{nearest_div}
use Rattle.exact.specs.Int16.{int16, int16-size}
use Rattle.clip.specs.declared.Point.{Point}
use Rattle.clip.specs.declared.Rect.{Rect}
use Rattle.clip.specs.Clip.{clip, inside}
use Rattle.clip.proofs.Unclipped.{unclipped}
use Rattle.mnemonics.specs.Table.{IN, SP, PU, PD}
use Rattle.reader.specs.declared.Event.TheVariants.{Named, Pair, Ended}
use Rattle.reader.specs.Reader.{none_of, stored_of}
use Rattle.plane.specs.Position.{axis_of, absolute_of, location_of}
use Rattle.plane.proofs.PositionLaws.{in-range-of}
use Rattle.turns.specs.Turn.{turns, turn_of, turned_of}
use Rattle.turns.proofs.TurnLaws.{east, north, coord-is}
use Rattle.turns.specs.Limits.{limits_of}
use Rattle.hpgl.specs.declared.Action.TheVariants.{Keep, Line}
use Rattle.hpgl.specs.declared.Core.{Core}
use Rattle.hpgl.specs.declared.Position.{Position}
use Rattle.hpgl.specs.declared.Stroke.{Stroke}
use Rattle.hpgl.specs.declared.Drawn.TheVariants as drawn
use Rattle.hpgl.specs.Numbers.{most_pen}
use Rattle.hpgl.specs.Place.{point, axis_x, axis_y, location, in_range, absolute_position, rest_at, page_point, limits}
use Rattle.hpgl.specs.Replies.{no_memory}
use Rattle.hpgl.specs.Rules.{fresh_settings, no_polygon, fresh_carriage, letters, name_rule, in_rule, set_pen, sp_rule, inked, move_to, aimed, go_to, pair_rule, end_rule, act_on, done}
use Rattle.hpgl.specs.Machine.{stroke_of, shown}
use Rattle.redrawn.specs.Numerals.{kept, rounded-kept}
use Rattle.redrawn.specs.Reading.{pair}
use Rattle.redrawn.specs.FeedMeans.{does}

module _ (h : Rect) where
  -- after IN: a pen, at a position, up or down, and no refusal since
  abbrev pub drafting : ℕ → Position → Bool → Bool → Core
  drafting p at down changed = record {
    settings = fresh_settings h;
    carriage = record { position = at; pen = record { number = p; down = down; changed = changed }; relative = false; polygon = no_polygon; memory = no_memory };
  }

  -- where PU and PD go to
  abbrev pub to : ℤ → ℤ → Position
  to x y = absolute_position (fresh_settings h) (pair x y)

  -- ---- places

  axis-place : (x : ℤ) → pos 0 +ℤ nearest_div ((kept x -ℤ pos 0) *ℤ pos 1) (pos 10000) ≡ x
  axis-place x = plus (nearest_div ((kept x -ℤ pos 0) *ℤ pos 1) (pos 10000)) ∙ ap (λ (y : ℤ). nearest_div y (pos 10000)) (once (kept x)) ∙ rounded-kept x
    where
      plus : (y : ℤ) → pos 0 +ℤ y ≡ y
      plus y = rw (is y) (simp Z (omega arith))

      once : (y : ℤ) → (y -ℤ pos 0) *ℤ pos 1 ≡ y
      once y = rw (is y) (simp Z (omega arith))

  there : (x y : ℤ) → location (fresh_settings h) (to x y) ≡ point x y
  unfolding location location_of absolute_position absolute_of axis_x axis_y axis_of fresh_settings
  there x y = λ i. point (axis-place x i) (axis-place y i)

  upright-stays : (p : Point) → turned_of p 0 ≡ p
  unfolding turned_of turn_of turns
  upright-stays p = λ i. point (coord-is east p.x p.y i) (coord-is north p.x p.y i)

  on-page : (x y : ℤ) → page_point (fresh_settings h) (to x y) ≡ point x y
  unfolding page_point fresh_settings
  on-page x y = ap (λ (p : Point). turned_of p 0) (there x y) ∙ upright-stays (point x y)

  in_reach : (x y : ℤ) → int16 x ≡ true → int16 y ≡ true → in_range (location (fresh_settings h) (to x y)) ≡ true
  unfolding in_range
  in_reach x y i j = rw (there x y) (rw (in-range-of x (bd-le (int16-size x i) (omega arith)), in-range-of y (bd-le (int16-size y j) (omega arith))) refl)

  -- ---- events

  module _ (p : ℕ) (at : Position) (down changed : Bool) where
    abbrev here : Core
    here = drafting p at down changed

    pub named_in : act_on here (Named IN) ≡ does here Keep
    unfolding act_on name_rule letters done no_polygon
    named_in = refl

    pub named-sp : act_on here (Named SP) ≡ does here Keep
    unfolding act_on name_rule letters done no_polygon
    named-sp = refl

    pub named-pu : act_on here (Named PU) ≡ does (drafting p at false down) Keep
    unfolding act_on name_rule letters done no_polygon
    named-pu = refl

    pub named-pd : act_on here (Named PD) ≡ does (drafting p at true (not down)) Keep
    unfolding act_on name_rule letters done no_polygon
    named-pd = refl

    pub ended-in : act_on here (Ended IN none_of) ≡ does (drafting p (rest_at (page_point (fresh_settings h) at)) false false) Keep
    unfolding act_on end_rule in_rule done fresh_carriage fresh_settings
    ended-in = refl

    pub ended-sp : (q : ℕ) → q ≤ most_pen → act_on here (Ended SP (stored_of none_of (kept (pos q)))) ≡ does (drafting q at down changed) Keep
    unfolding act_on end_rule sp_rule set_pen done stored_of none_of
    ended-sp q l = rw (rounded-kept (pos q)) (rw (le-≤? {a = pos 0} {b = pos q} (omega (arith, ord)), le-≤? {a = pos q} {b = pos most_pen} (omega (arith, ord, l))) refl)

    goes : (x y : ℤ) → int16 x ≡ true → int16 y ≡ true → act_on here (Pair (pair x y)) ≡ move_to here (to x y)
    unfolding act_on pair_rule aimed go_to no_polygon
    goes x y i j = rw (in_reach x y i j) refl

  pub moved : (p : ℕ) (at : Position) (changed : Bool) (x y : ℤ) → int16 x ≡ true → int16 y ≡ true →
      act_on (drafting p at false changed) (Pair (pair x y)) ≡ does (drafting p (to x y) false false) Keep
  unfolding move_to done
  moved p at changed x y i j = goes p at false changed x y i j ∙ refl

  pub lined : (p : ℕ) (at : Position) (changed : Bool) (x y : ℤ) → 1 ≤ p → int16 x ≡ true → int16 y ≡ true →
      act_on (drafting p at true changed) (Pair (pair x y))
      ≡ does (drafting p (to x y) true false) (Line (page_point (fresh_settings h) at) (page_point (fresh_settings h) (to x y)))
  unfolding move_to done inked
  lined p at changed x y l i j = goes p at true changed x y i j ∙ rw (ne_eqb p 0 (λ e. omega (arith, l))) refl

  -- ---- a stroke

  pub seen : (s : Stroke) → inside h (point s.x0 s.y0) ≡ true → inside h (point s.x1 s.y1) ≡ true →
      shown (drafting s.pen (to s.x1 s.y1) true false) (page_point (fresh_settings h) (to s.x0 s.y0)) (page_point (fresh_settings h) (to s.x1 s.y1)) ≡ drawn.Stroke s
  unfolding shown limits limits_of fresh_settings stroke_of
  seen s a b =
      (λ i. stroke_of s.pen (clip h (on-page s.x0 s.y0 i) (on-page s.x1 s.y1 i)))
      ∙ ap (stroke_of s.pen) (unclipped h (point s.x0 s.y0) (point s.x1 s.y1) a b)
