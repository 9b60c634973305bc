-- What follows from the definitions of Drive.antt: the order of the two refusals, when all ends are inside, when a stroke is one dot, and that every
-- place is exact. Assumes nothing.
use Rattle.std.specs.Prelude.{◌≡◌, refl, ◌↔◌, Bool, true, false, ◌&&◌, ℕ, suc, ◌*◌, ◌≤◌, ◌<◌, ℤ, pos, negsuc}
use Rattle.std.proofs.Common.{sym, ap, ◌∙◌, true≢false, arith, mul-pos, lt-ltb, le-ltb}
use Rattle.std.specs.Float.{fin}
use Rattle.std.specs.Float.Ieee.{down}
use Rattle.std.specs.Float.Ieee.Fits.{down_pos}
use Rattle.exact.specs.Whole.{◌≡?◌, ≡?-true, eq-≡?}
use Rattle.exact.specs.Int16.{int16, int16-size}
use Rattle.hpgl.specs.declared.Stroke.{Stroke}
use Rattle.drive.specs.Drive.{last_code, spot_of, start_of, end_of, ends_inside_of, ends_equal_of, Answer, travel_paint, one_dot, refusal, bad_pitch, bad_end, answer_of, Exactly, place_of, ExactAt}
use Rattle.drive.proofs.Floats.{units-exact}

-- ---- the refusals: 11 whatever the stroke is, 12 at a pitch code

pub pitch-refused : (s : Stroke) (c : ℕ) → last_code < c → answer_of s c ≡ refusal bad_pitch
unfolding answer_of
pitch-refused s c h = simp (lt-ltb last_code c h)

pub end_refused : (s : Stroke) (c : ℕ) → c ≤ last_code → ends_inside_of s ≡ false → answer_of s c ≡ refusal bad_end
unfolding answer_of
end_refused s c h e = simp (le-ltb last_code c h, e)

-- ---- the moves

pub dot-answered : (s : Stroke) (c : ℕ) → c ≤ last_code → ends_inside_of s ≡ true → ends_equal_of s ≡ true → answer_of s c ≡ one_dot (start_of s c)
unfolding answer_of
dot-answered s c h e d = simp (le-ltb last_code c h, e, d)

pub line-answered : (s : Stroke) (c : ℕ) → c ≤ last_code → ends_inside_of s ≡ true → ends_equal_of s ≡ false → answer_of s c ≡ travel_paint (start_of s c) (end_of s c)
unfolding answer_of
line-answered s c h e d = simp (le-ltb last_code c h, e, d)

-- ---- the tests, as what they say

both : (a b : Bool) → (a && b) ≡ true → (a ≡ true) × (b ≡ true)
both true b h = (refl, h)
both false b h = absurd (true≢false (sym h))

-- all four coordinates are inside
pub record Inside (s : Stroke) : Type 0 where
  pub x0 : int16 s.x0 ≡ true
  pub y0 : int16 s.y0 ≡ true
  pub x1 : int16 s.x1 ≡ true
  pub y1 : int16 s.y1 ≡ true

pub ends-inside : (s : Stroke) → ends_inside_of s ≡ true → Inside s
unfolding ends_inside_of
ends-inside s h =
    let a = both (int16 s.x0) _ h in
    let b = both (int16 s.y0) _ a.1 in
    let c = both (int16 s.x1) (int16 s.y1) b.1 in
    record { x0 = a.0; y0 = b.0; x1 = c.0; y1 = c.1 }

pub equal-iff : (s : Stroke) → (ends_equal_of s ≡ true) ↔ ((s.x0 ≡ s.x1) × (s.y0 ≡ s.y1))
unfolding ends_equal_of
equal-iff s = (
  (λ h. let a = both (s.x0 ≡? s.x1) (s.y0 ≡? s.y1) h in (≡?-true s.x0 s.x1 a.0, ≡?-true s.y0 s.y1 a.1)),
  (λ h. simp (eq-≡? {a = s.x0} {b = s.x1} h.0, eq-≡? {a = s.y0} {b = s.y1} h.1)),
)

-- a stroke of which both ends are inside is one dot exactly where they are equal
pub dot-iff : (s : Stroke) (c : ℕ) → c ≤ last_code → ends_inside_of s ≡ true → (answer_of s c ≡ one_dot (start_of s c)) ↔ ((s.x0 ≡ s.x1) × (s.y0 ≡ s.y1))
dot-iff s c h i = ((λ a. (equal-iff s).0 (go (ends_equal_of s) refl a)), λ e. dot-answered s c h i ((equal-iff s).1 e))
  where
    is_dot : Answer → Bool
    is_dot (travel_paint u v) = false
    is_dot (one_dot u) = true
    is_dot (refusal n) = false

    go : (b : Bool) → ends_equal_of s ≡ b → answer_of s c ≡ one_dot (start_of s c) → ends_equal_of s ≡ true
    go true e a = e
    go false e a = absurd (true≢false (ap is_dot (sym a ∙ line-answered s c h i e)))

-- ---- exactness

pub spot-exact : (x y : ℤ) (c : ℕ) → int16 x ≡ true → int16 y ≡ true → ExactAt (place_of (spot_of x y c)) (spot_of x y c)
unfolding place_of spot_of
spot-exact x y c h k = (units-exact x c (int16-size x h), units-exact y c (int16-size y k))

-- minus zero, `fin true 0 e`, is exactly no number of eighths
pub no-minus-zero : (k : ℤ) (e : ℤ) → Exactly (fin true 0 e) k → ⊥
no-minus-zero (pos n) e h = true≢false h.0
no-minus-zero (negsuc n) e h = let p : 0 < suc n * down e = mul-pos (omega arith) (down_pos e) in omega (arith, h.1, p)
