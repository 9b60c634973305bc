-- THE VOCABULARY of exact points: fractions, lines and their points, distances, boxes. All comparisons are of whole numbers, multiplied out.
-- The theorems of this crate are stated in these words, and so is what is claimed of every stroke.
use Rattle.std.specs.Prelude.{ℕ, zero, suc, ◌*◌, ◌-◌, ◌≤◌, ◌<◌, ℤ, pos, negsuc, ◌+ℤ◌, ◌-ℤ◌, ◌*ℤ◌, ◌≤ℤ◌}
use Rattle.std.proofs.Common.{zero-lt-suc, mul-pos}
use Rattle.exact.specs.Divide.{nearest_div}
use Rattle.clip.specs.declared.Point.{Point}
use Rattle.clip.specs.declared.Rect.{Rect}

-- ---- on one axis

-- num / den
pub record Frac : Type 0 where
  pub num : ℤ
  pub den : ℕ
  pub above : 0 < den

abbrev pub whole : ℤ → Frac
whole z = record { num = z; den = 1; above = zero-lt-suc 0 }

-- "The exact position is B + O × D / W", W of either sign; settings have no W that is 0, which would stand for B itself
abbrev pub based : ℤ → ℤ → ℤ → ℤ → Frac
based B O D (pos zero) = whole B
based B O D (pos (suc w)) = record { num = B *ℤ pos (suc w) +ℤ O *ℤ D; den = suc w; above = zero-lt-suc w }
based B O D (negsuc w) = record { num = B *ℤ pos (suc w) -ℤ O *ℤ D; den = suc w; above = zero-lt-suc w }

-- f + z
abbrev pub plus : Frac → ℤ → Frac
plus f z = record { num = f.num +ℤ z *ℤ pos f.den; den = f.den; above = f.above }

-- at k of n equal parts of the way from f to g: ((n − k) f + k g) / n
abbrev pub between : Frac → Frac → (k n : ℕ) → 0 < n → Frac
between f g k n p = record {
  num = pos ((n - k) * g.den) *ℤ f.num +ℤ pos (k * f.den) *ℤ g.num;
  den = n * (f.den * g.den);
  above = mul-pos p (mul-pos f.above g.above);
}

infix 4 ◌≤F◌
pub record ◌≤F◌ (f g : Frac) : Type 0 where
  pub le : (pos g.den *ℤ f.num) ≤ℤ (pos f.den *ℤ g.num)

-- at most 1 apart
pub record Near (f g : Frac) : Type 0 where
  pub above : f ≤F plus g (pos 1)
  pub below : g ≤F plus f (pos 1)

-- at least c above lo, and at least c below hi
pub record Inside (lo hi : ℤ) (c : ℕ) (f : Frac) : Type 0 where
  pub low : whole (lo +ℤ pos c) ≤F f
  pub high : f ≤F whole (hi -ℤ pos c)

-- "Rounding is to the nearest whole; a half goes to the larger number, also below zero."
abbrev pub nearest_whole : Frac → ℤ
nearest_whole f = nearest_div f.num (pos f.den)

-- The whole number p is at most a half from f, on either side. A location is rounded and then turned to the page, and a half that went to the
-- larger number may lie at the smaller one after the turn: so a page point rounds its exact point in this sense, and is not always `rounded`.
pub record Rounds (f : Frac) (p : ℤ) : Type 0 where
  pub above : (pos 2 *ℤ (pos f.den *ℤ p)) ≤ℤ (pos 2 *ℤ f.num +ℤ pos f.den)
  pub below : (pos 2 *ℤ f.num) ≤ℤ (pos 2 *ℤ (pos f.den *ℤ p) +ℤ pos f.den)

-- ---- in the plane

-- an exact point
pub record Exact : Type 0 where
  pub x : Frac
  pub y : Frac

abbrev pub exactly : Point → Exact
exactly p = record { x = whole p.x; y = whole p.y }

abbrev pub nearest : Exact → Point
nearest e = record { x = nearest_whole e.x; y = nearest_whole e.y }

pub record RoundsTo (e : Exact) (p : Point) : Type 0 where
  pub x : Rounds e.x p.x
  pub y : Rounds e.y p.y

-- "The points of a line, or of a stroke .. are those at k of n equal parts of it, n any whole number above 0, k from 0 to n."
abbrev pub at : Exact → Exact → (k n : ℕ) → 0 < n → Exact
at e f k n p = record { x = between e.x f.x k n p; y = between e.y f.y k n p }

-- at most one unit apart in x and in y
pub record Close (e f : Exact) : Type 0 where
  pub x : Near e.x f.x
  pub y : Near e.y f.y

-- some point of the line from e to f is close to g
pub record HasClose (e f g : Exact) : Type 0 where
  pub k : ℕ
  pub n : ℕ
  pub upto : k ≤ n
  pub some : 0 < n
  pub close : Close g (at e f k n some)

-- At least c units inside the box, edges included: "its x is at least 1 above the left and at least 1 below the right, and its y likewise
-- between bottom and top", for c of 1; within it, for c of 0.
pub record Within (r : Rect) (c : ℕ) (e : Exact) : Type 0 where
  pub x : Inside r.left r.right c e.x
  pub y : Inside r.bottom r.top c e.y
