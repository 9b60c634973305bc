-- Laws of the text: which strokes can be written, and how long a number's text is.
use Rattle.std.specs.Prelude.{Bool, true, false, ◌&&◌, List, [], ◌∷◌, ◌≡◌, refl, ℕ, ◌+◌, ◌≤◌, leb, ℤ, nat_abs, length}
use Rattle.std.proofs.Common.{true≢false, sym, arith, leb-true, length-append}
use Rattle.exact.specs.Int16.{int16}
use Rattle.decimals.specs.Decimal.{decimal, natural, sign, whole}
use Rattle.hpgl.specs.declared.Stroke.{Stroke}
use Rattle.hpgl.specs.Numbers.{most_pen}
use Rattle.redrawn.specs.Redrawn.{is_pen, writable, all_writable}

-- ---- what can be written

pub both : (a b : Bool) → a && b ≡ true → (a ≡ true) × (b ≡ true)
both true b h = (refl, h)
both false b h = absurd (true≢false (sym h))

pen-is : (p : ℕ) → is_pen p ≡ true → (1 ≤ p) × (p ≤ most_pen)
unfolding is_pen
pen-is p h = let b = both (leb 1 p) (leb p most_pen) h in (leb-true 1 p b.0, leb-true p most_pen b.1)

pub record Writable (s : Stroke) : Type 0 where
  pub least : 1 ≤ s.pen
  pub most : s.pen ≤ most_pen
  pub x0 : int16 s.x0 ≡ true
  pub y0 : int16 s.y0 ≡ true
  pub x1 : int16 s.x1 ≡ true
  pub y1 : int16 s.y1 ≡ true

pub writable-is : (s : Stroke) → writable s ≡ true → Writable s
unfolding writable
writable-is s h =
    let d = both (is_pen s.pen && int16 s.x0 && int16 s.y0 && int16 s.x1) (int16 s.y1) h in
    let c = both (is_pen s.pen && int16 s.x0 && int16 s.y0) (int16 s.x1) d.0 in
    let b = both (is_pen s.pen && int16 s.x0) (int16 s.y0) c.0 in
    let a = both (is_pen s.pen) (int16 s.x0) b.0 in
    let p = pen-is s.pen a.0 in
    record { least = p.0; most = p.1; x0 = a.1; y0 = b.1; x1 = c.1; y1 = d.1 }

pub writable-first : (s : Stroke) (ss : List Stroke) → all_writable (s ∷ ss) ≡ true → (writable s ≡ true) × (all_writable ss ≡ true)
unfolding all_writable
writable-first s ss h = both (writable s) (all_writable ss) h

-- ---- lengths

-- a number with the byte after it, whichever that is
pub natural-long : (n byte : ℕ) → length (natural n byte) ≡ length (decimal n) + 1
unfolding natural
natural-long n byte = length-append (decimal n) (byte ∷ [])

pub whole_long : (z : ℤ) (byte : ℕ) → length (whole z byte) ≡ length (sign z) + length (decimal (nat_abs z)) + 1
unfolding whole
whole_long z byte = omega (arith, length-append (sign z) (natural (nat_abs z) byte), natural-long (nat_abs z) byte)
