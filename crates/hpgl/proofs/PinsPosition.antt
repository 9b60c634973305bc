-- What document 01 says of a pair ("Position"), said apart from the rules that machine and exact model share: as equations of fractions, multiplied out.
-- They hold because B stays, O grows by the number, and both exact positions stand over the same W.
use Rattle.std.specs.Prelude.{◌≡◌, Bool, true, false, ◌&&◌, List, [], ◌∷◌, ℕ, zero, suc, ◌+◌, leb, ℤ, pos, negsuc, neg_ℤ, ◌+ℤ◌, ◌-ℤ◌, ◌*ℤ◌}
use Rattle.std.proofs.Math.Path.{refl, ap, subst}
use Rattle.std.proofs.Common.{sym, ◌∙◌, arith}
use Rattle.std.proofs.Math.Bool.{not}
use Rattle.exact.specs.Whole.{is, Z}
use Rattle.exact.specs.Ring.{#, con, ◌:+◌, ◌:-◌, ◌:*◌, ring}
use Rattle.clip.specs.Line.{Frac, Exact, whole, based}
use Rattle.reader.specs.declared.Coordinates.{Coordinates}
use Rattle.reader.specs.declared.Numbers.{Numbers}
use Rattle.reader.specs.declared.Event.{Event}
use Rattle.reader.specs.declared.Event.TheVariants.{Nothing, Named, Pair, Ended, Refused}
use Rattle.mnemonics.specs.Table.{PU, PD, PR, known_in_polygon}
use Rattle.plane.specs.declared.position.ExactPosition.{ExactPosition}
use Rattle.plane.specs.Position.{axis_of, absolute_of, relative_of, exact_of}
use Rattle.hpgl.proofs.Cases.{pick, cond-true, cond-false}
use Rattle.hpgl.specs.declared.Position.{Position}
use Rattle.hpgl.specs.declared.Range.{Range}
use Rattle.hpgl.specs.declared.Settings.{Settings}
use Rattle.hpgl.specs.declared.Core.{Core}
use Rattle.hpgl.specs.declared.Acted.{Acted}
use Rattle.hpgl.specs.Numbers.{polygon_bytes}
use Rattle.hpgl.specs.Place.{axis_x, axis_y, exact_position, location, in_range, absolute_position, relative_position}
use Rattle.hpgl.specs.Rules.{done, refuse, letters, name_rule, move_to, point_cost, store_point, aimed, go_to, pair_rule, end_rule, act_on}
use Rattle.hpgl.specs.Related.{Sound}

-- ---- in 01's words

-- "Scaling on: D is P2 − P1, W is max − min of SC in ten-thousandths (it may be negative). Off: D 1, W 10,000."
abbrev pub span_of : Bool → ℤ → ℤ → ℤ
span_of true p1 p2 = p2 -ℤ p1
span_of false p1 p2 = pos 1

abbrev pub width_of : Bool → Range → ℤ
width_of true r = r.max -ℤ r.min
width_of false r = pos 10000

-- g is f + n × D / W: (g − f) × W is n × D, multiplied out
pub record Moves (f g : Frac) (n D W : ℤ) : Type 0 where
  pub by : (g.num *ℤ pos f.den -ℤ f.num *ℤ pos g.den) *ℤ W ≡ n *ℤ D *ℤ (pos f.den *ℤ pos g.den)

-- f is e + n × D / W on each axis
pub record Shifted (s : Settings) (e f : Exact) (n : Coordinates) : Type 0 where
  pub x : Moves e.x f.x n.x (span_of s.scale.on s.p1.x s.p2.x) (width_of s.scale.on s.scale.x)
  pub y : Moves e.y f.y n.y (span_of s.scale.on s.p1.y s.p2.y) (width_of s.scale.on s.scale.y)

-- P1 and number − min; with scaling off 0 and the number
abbrev pub start_of : Bool → ℤ → ℤ
start_of true p1 = p1
start_of false p1 = pos 0

abbrev pub from_least : Bool → Range → ℤ → ℤ
from_least true r n = n -ℤ r.min
from_least false r n = n

-- e is P1 + (n − min) × D / W on each axis; with scaling off it is n / 10,000
pub record StandsFor (s : Settings) (e : Exact) (n : Coordinates) : Type 0 where
  pub x : Moves (whole (start_of s.scale.on s.p1.x)) e.x (from_least s.scale.on s.scale.x n.x)
      (span_of s.scale.on s.p1.x s.p2.x) (width_of s.scale.on s.scale.x)
  pub y : Moves (whole (start_of s.scale.on s.p1.y)) e.y (from_least s.scale.on s.scale.y n.y)
      (span_of s.scale.on s.p1.y s.p2.y) (width_of s.scale.on s.scale.y)

-- where a core stands, exactly
abbrev pub standing : Core → Exact
standing c = exact_position c.settings c.carriage.position

-- ---- one axis

pub same-moves : {f g : Frac} {m n D W : ℤ} → m ≡ n → Moves f g m D W → Moves f g n D W
same-moves {f} {g} {D = D} {W = W} e = subst (λ (k : ℤ). Moves f g k D W) e

-- a width below 0 is minus its size, w
pub less : (z : ℤ) → neg_ℤ z ≡ pos 0 -ℤ z
less z = rw (is z) (simp Z (omega arith))

module _ (B O D n w : ℤ) where
  moved-plus : ((B *ℤ w +ℤ (O +ℤ n) *ℤ D) *ℤ w -ℤ (B *ℤ w +ℤ O *ℤ D) *ℤ w) *ℤ w ≡ n *ℤ D *ℤ (w *ℤ w)
  moved-plus =
      ring (B ∷ O ∷ D ∷ n ∷ w ∷ [])
      (((# 0 :* # 4 :+ (# 1 :+ # 3) :* # 2) :* # 4 :- (# 0 :* # 4 :+ # 1 :* # 2) :* # 4) :* # 4)
      (# 3 :* # 2 :* (# 4 :* # 4)) tt

  moved-minus : ((B *ℤ w -ℤ (O +ℤ n) *ℤ D) *ℤ w -ℤ (B *ℤ w -ℤ O *ℤ D) *ℤ w) *ℤ neg_ℤ w ≡ n *ℤ D *ℤ (w *ℤ w)
  moved-minus =
      rw (less w)
      (ring (B ∷ O ∷ D ∷ n ∷ w ∷ [])
      (((# 0 :* # 4 :- (# 1 :+ # 3) :* # 2) :* # 4 :- (# 0 :* # 4 :- # 1 :* # 2) :* # 4) :* (con (pos 0) :- # 4))
      (# 3 :* # 2 :* (# 4 :* # 4)) tt)

  put-plus : ((B *ℤ w +ℤ O *ℤ D) *ℤ pos 1 -ℤ B *ℤ w) *ℤ w ≡ O *ℤ D *ℤ (pos 1 *ℤ w)
  put-plus =
      ring (B ∷ O ∷ D ∷ w ∷ []) (((# 0 :* # 3 :+ # 1 :* # 2) :* con (pos 1) :- # 0 :* # 3) :* # 3) (# 1 :* # 2 :* (con (pos 1) :* # 3)) tt

  put-minus : ((B *ℤ w -ℤ O *ℤ D) *ℤ pos 1 -ℤ B *ℤ w) *ℤ neg_ℤ w ≡ O *ℤ D *ℤ (pos 1 *ℤ w)
  put-minus =
      rw (less w)
      (ring (B ∷ O ∷ D ∷ w ∷ []) (((# 0 :* # 3 :- # 1 :* # 2) :* con (pos 1) :- # 0 :* # 3) :* (con (pos 0) :- # 3)) (# 1 :* # 2 :* (con (pos 1) :* # 3)) tt)

moved : (B O D n W : ℤ) → (W ≡ pos 0 → ⊥) → Moves (based B O D W) (based B (O +ℤ n) D W) n D W
moved B O D n (pos zero) z = absurd (z refl)
moved B O D n (pos (suc w)) z = record { by = moved-plus B O D n (pos (suc w)) }
moved B O D n (negsuc w) z = record { by = moved-minus B O D n (pos (suc w)) }

put : (B O D W : ℤ) → (W ≡ pos 0 → ⊥) → Moves (whole B) (based B O D W) O D W
put B O D (pos zero) z = absurd (z refl)
put B O D (pos (suc w)) z = record { by = put-plus B O D (pos 0) (pos (suc w)) }
put B O D (negsuc w) z = record { by = put-minus B O D (pos 0) (pos (suc w)) }

axis-moved : (on : Bool) (p1 p2 : ℤ) (r : Range) (p : ExactPosition) (n : ℤ) → ((axis_of on p1 p2 r.min r.max).width ≡ pos 0 → ⊥) →
    let a = axis_of on p1 p2 r.min r.max in Moves (exact_of a p) (exact_of a (relative_of p n)) n (span_of on p1 p2) (width_of on r)
unfolding axis_of relative_of
axis-moved true p1 p2 r p n z = moved p.base p.offset _ n _ z
axis-moved false p1 p2 r p n z = moved p.base p.offset _ n _ z

axis-put : (on : Bool) (p1 p2 : ℤ) (r : Range) (n : ℤ) → ((axis_of on p1 p2 r.min r.max).width ≡ pos 0 → ⊥) →
    let a = axis_of on p1 p2 r.min r.max in
    Moves (whole (start_of on p1)) (exact_of a (absolute_of a n)) (from_least on r n) (span_of on p1 p2) (width_of on r)
unfolding axis_of absolute_of
axis-put true p1 p2 r n z = put p1 _ _ _ z
axis-put false p1 p2 r n z = same-moves (all n) (put (pos 0) (n -ℤ pos 0) _ _ z)
  where
    all : (n : ℤ) → n -ℤ pos 0 ≡ n
    all n = rw (is n) (simp Z (omega arith))

-- ---- both axes

pub shifted : (s : Settings) (p : Position) (n : Coordinates) → Sound s → Shifted s (exact_position s p) (exact_position s (relative_position p n)) n
unfolding exact_position relative_position axis_x axis_y
shifted s p n w = record {
  x = axis-moved s.scale.on s.p1.x s.p2.x s.scale.x p.x n.x w.x;
  y = axis-moved s.scale.on s.p1.y s.p2.y s.scale.y p.y n.y w.y;
}

pub placed : (s : Settings) (n : Coordinates) → Sound s → StandsFor s (exact_position s (absolute_position s n)) n
unfolding exact_position absolute_position axis_x axis_y
placed s n w = record {
  x = axis-put s.scale.on s.p1.x s.p2.x s.scale.x n.x w.x;
  y = axis-put s.scale.on s.p1.y s.p2.y s.scale.y n.y w.y;
}

-- ---- a pair

-- from c to d: the settings and the mode stay, and the position is p
record Arrives (c d : Core) (p : Position) : Type 0 where
  settings : d.settings ≡ c.settings
  relative : d.carriage.relative ≡ c.carriage.relative
  position : d.carriage.position ≡ p

stands : {c d : Core} {p : Position} → Arrives c d p → standing d ≡ exact_position c.settings p
stands a = λ i. exact_position (a.settings i) (a.position i)

module _ (c : Core) where
  abbrev Goes : Position → Acted → Type 0
  Goes p t = t.number ≡ 0 → Arrives c t.core p

  refuses : (p : Position) (d : Core) (k : ℕ) → Goes p (refuse d (suc k))
  unfolding refuse
  refuses p d k e = absurd (omega arith)

  goes-store : (p : Position) → Goes p (store_point c p)
  unfolding store_point done
  goes-store p =
      pick (Goes p) (leb (c.carriage.polygon.bytes + point_cost c.carriage.pen) polygon_bytes)
      (λ e. record { settings = refl; relative = refl; position = refl }) (refuses p _ _)

  goes-move : (p : Position) → Goes p (move_to c p)
  unfolding move_to done
  goes-move p e = record { settings = refl; relative = refl; position = refl }

  goes-pair : (n : Coordinates) → Goes (aimed c n) (pair_rule c n)
  unfolding pair_rule go_to
  goes-pair n =
      let p : Position = aimed c n in
      pick (Goes p) (in_range (location c.settings p)) (pick (Goes p) c.carriage.polygon.mode (goes-store p) (goes-move p)) (refuses p _ _)

  -- "Relative mode adds to O."
  pub relative-pair : (n : Coordinates) → Sound c.settings → c.carriage.relative ≡ true → (pair_rule c n).number ≡ 0 →
      Shifted c.settings (standing c) (standing (pair_rule c n).core) n
  unfolding aimed
  relative-pair n w r e =
      let a : Arrives c (pair_rule c n).core (aimed c n) = goes-pair n e in
      let k : aimed c n ≡ relative_position c.carriage.position n = cond-true c.carriage.relative _ _ r in
      subst (λ (f : Exact). Shifted c.settings (standing c) f n) (sym (stands a ∙ ap (exact_position c.settings) k))
      (shifted c.settings c.carriage.position n w)

  -- "Absolute mode sets B to P1 and O to number − min (off: B 0, O number)."
  pub absolute-pair : (n : Coordinates) → Sound c.settings → c.carriage.relative ≡ false → (pair_rule c n).number ≡ 0 →
      StandsFor c.settings (standing (pair_rule c n).core) n
  unfolding aimed
  absolute-pair n w r e =
      let a : Arrives c (pair_rule c n).core (aimed c n) = goes-pair n e in
      let k : aimed c n ≡ absolute_position c.settings n = cond-false c.carriage.relative _ _ r in
      subst (λ (f : Exact). StandsFor c.settings f n) (sym (stands a ∙ ap (exact_position c.settings) k)) (placed c.settings n w)

-- ---- a chain of pairs. It excludes "Rounding a PR to whole units before adding": as many roundings as there are pairs would add up

-- PU, PD and PR
pub data Chaining : ℕ → Type 0 where
  up : Chaining PU
  down : Chaining PD
  relative : Chaining PR

-- what the bytes of these make: their names, their pairs, their ends
pub data Chained : Event → Type 0 where
  nothing : Chained Nothing
  named : {op : ℕ} → Chaining op → Chained (Named op)
  pair : {n : Coordinates} → Chained (Pair n)
  ended : {op : ℕ} {n : Numbers} → Chaining op → Chained (Ended op n)

-- events one after another, none refused
pub data Carried : Core → List Event → Type 0 where
  none : {c : Core} → Carried c []
  more : {c : Core} {e : Event} {es : List Event} → Chained e → (act_on c e).number ≡ 0 → Carried (act_on c e).core es → Carried c (e ∷ es)

unfoldable pub after : Core → List Event → Core
after c [] = c
after c (e ∷ es) = after (act_on c e).core es

-- the sum of the pairs' numbers
abbrev pub no_numbers : Coordinates
no_numbers = record { x = pos 0; y = pos 0 }

abbrev pub pair_of : Event → Coordinates
pair_of Nothing = no_numbers
pair_of (Named op) = no_numbers
pair_of (Pair n) = n
pair_of (Ended op n) = no_numbers
pair_of (Refused k) = no_numbers

unfoldable pub sum_of : List Event → Coordinates
sum_of [] = no_numbers
sum_of (e ∷ es) = record { x = (pair_of e).x +ℤ (sum_of es).x; y = (pair_of e).y +ℤ (sum_of es).y }

unmoved : (p : Position) → p ≡ relative_position p no_numbers
unfolding relative_position relative_of
unmoved p = λ i. record { x = record { base = p.x.base; offset = same p.x.offset i }; y = record { base = p.y.base; offset = same p.y.offset i } }
  where
    same : (z : ℤ) → z ≡ z +ℤ pos 0
    same z = rw (is z) (simp Z (omega arith))

both : (p : Position) (m n : Coordinates) → relative_position (relative_position p m) n ≡ relative_position p (record { x = m.x +ℤ n.x; y = m.y +ℤ n.y })
unfolding relative_position relative_of
both p m n = λ i. record {
  x = record { base = p.x.base; offset = sum p.x.offset m.x n.x i };
  y = record { base = p.y.base; offset = sum p.y.offset m.y n.y i };
}
  where
    sum : (a b c : ℤ) → a +ℤ b +ℤ c ≡ a +ℤ (b +ℤ c)
    sum a b c = rw (is a, is b, is c) (simp Z (omega arith))

module _ (c : Core) (r : c.carriage.relative ≡ true) where
  stay : {d : Core} → d.settings ≡ c.settings → d.carriage.relative ≡ true → d.carriage.position ≡ c.carriage.position →
      Arrives c d (relative_position c.carriage.position no_numbers)
  stay s k p = record { settings = s; relative = k ∙ sym r; position = p ∙ unmoved c.carriage.position }

  goes-named : {op : ℕ} → Chaining op → Goes c (relative_position c.carriage.position no_numbers) (name_rule c op)
  unfolding name_rule letters done
  goes-named up = pick (Goes c _) (c.carriage.polygon.mode && not (known_in_polygon PU)) (refuses c _ _ _) (λ e. stay refl r refl)
  goes-named down = pick (Goes c _) (c.carriage.polygon.mode && not (known_in_polygon PD)) (refuses c _ _ _) (λ e. stay refl r refl)
  goes-named relative = pick (Goes c _) (c.carriage.polygon.mode && not (known_in_polygon PR)) (refuses c _ _ _) (λ e. stay refl refl refl)

  goes-chained : {e : Event} → Chained e → Goes c (relative_position c.carriage.position (pair_of e)) (act_on c e)
  unfolding act_on end_rule done aimed
  goes-chained nothing e = stay refl r refl
  goes-chained (named k) e = goes-named k e
  goes-chained (pair {n}) e = let a = goes-pair c n e in record {
    settings = a.settings;
    relative = a.relative;
    position = a.position ∙ cond-true c.carriage.relative _ _ r;
  }
  goes-chained (ended up) e = stay refl r refl
  goes-chained (ended down) e = stay refl r refl
  goes-chained (ended relative) e = stay refl r refl

goes-all : (c : Core) (es : List Event) → c.carriage.relative ≡ true → Carried c es → Arrives c (after c es) (relative_position c.carriage.position (sum_of es))
unfolding after sum_of
goes-all c [] r none = stay c r refl r refl
goes-all c (e ∷ es) r (more k z h) =
    let a : Arrives c (act_on c e).core (relative_position c.carriage.position (pair_of e)) = goes-chained c r k z in
    let b : Arrives (act_on c e).core (after (act_on c e).core es) (relative_position (act_on c e).core.carriage.position (sum_of es)) = goes-all (act_on c e).core es (a.relative ∙ r) h in
    record {
      settings = b.settings ∙ a.settings;
      relative = b.relative ∙ a.relative;
      position = b.position ∙ ap (λ (p : Position). relative_position p (sum_of es)) a.position ∙ both c.carriage.position (pair_of e) (sum_of es);
    }

-- "Relative mode adds to O", whatever came before: the numbers of a chain are added exactly
pub relative-chain : (c : Core) (es : List Event) → Sound c.settings → c.carriage.relative ≡ true → Carried c es →
    Shifted c.settings (standing c) (standing (after c es)) (sum_of es)
relative-chain c es w r h =
    subst (λ (f : Exact). Shifted c.settings (standing c) f (sum_of es)) (sym (stands (goes-all c es r h)))
    (shifted c.settings c.carriage.position (sum_of es) w)
