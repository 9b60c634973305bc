-- Laws of the lines: how long one is, never empty, what a mark's is, and a line put number by number.
use Rattle.std.specs.Prelude.{◌≡◌, ℕ, suc, ◌+◌, ◌*◌, ◌%◌, ◌^◌, ◌<◌, ◌≤◌, true, false, T, List, [], ◌++◌, length, ℤ, pos, FitsSigned, nat_le, slice_index_or, unsigned_abs}
use Rattle.std.proofs.Math.Path.{refl}
use Prim.Native.Char.{code}
use Rattle.std.proofs.Common.{arith, leb→le, length-append}
use Rattle.std.specs.Int.{w64}
use Rattle.exact.specs.Whole.{◌≡?◌}
use Rattle.exact.specs.Fit.{arg, m64}
use Rattle.decimals.specs.Decimal.{natural, whole}
use Rattle.decimals.proofs.DecimalLaws.{natural-length, whole_length, whole-some}
use Rattle.decimals.specs.Puts.{Puts, puts-nothing, puts-length, puts_then}
use Rattle.textlines.specs.Text.{line_end, stroke_text, stroke_at, refusal_text, mark_at, longest}

-- ---- lengths

pub refusal-length : {refused byte : ℕ} → refused < 2 ^ 64 → byte < 2 ^ 64 → length (refusal_text refused byte) ≤ longest
unfolding refusal_text
refusal-length {refused} {byte} h k =
    omega (arith, natural-length (code " ") h, natural-length line_end k, length-append (natural refused (code " ")) (natural byte line_end))

-- ---- never empty

pub stroke-some : (pen x0 y0 x1 y1 : ℤ) → 0 < length (stroke_text pen x0 y0 x1 y1)
unfolding stroke_text
stroke-some pen x0 y0 x1 y1 = simp length-append (omega (arith, whole-some y1 line_end))

pub refusal-some : (refused byte : ℕ) → 0 < length (refusal_text refused byte)
unfolding refusal_text
refusal-some refused byte = omega arith

-- ---- marks

module _ (before : ℕ) (numbers : List ℤ) (i : ℕ) where
  pub mark-refusal : (slice_index_or numbers (i * 5) (pos 0) ≡? pos 0) ≡ true
      → mark_at before numbers i ≡ refusal_text (unsigned_abs (slice_index_or numbers (i * 5 + 1) (pos 0))) ((before + unsigned_abs (slice_index_or numbers (i * 5 + 2) (pos 0))) % 2 ^ 64)
  unfolding mark_at
  mark-refusal e = rw e refl

  pub mark-stroke : (slice_index_or numbers (i * 5) (pos 0) ≡? pos 0) ≡ false → mark_at before numbers i ≡ stroke_at numbers i
  unfolding mark_at
  mark-stroke e = rw e refl

-- ---- a line, number by number

-- k numbers of a line stand in the list, and there is room for one more
pub record Begun (k : ℕ) (text before after : List ℕ) (at end : ℕ) : Type 0 where
  pub puts : Puts text before after at end
  pub short : length text ≤ k * 21

pub begun : (l : List ℕ) {at : ℕ} → at + longest ≤ length l → Begun 0 [] l l at at
begun l h = record { puts = puts-nothing l (omega arith); short = omega arith }

pub begun_more : (byte : ℕ) {k : ℕ} {s l m n : List ℕ} {at mid end : ℕ} {z : ℤ} → Begun k s l m at mid → FitsSigned w64 z → Puts (whole (m64 z) byte) m n mid end
    → Begun (suc k) (s ++ whole z byte) l n at end
begun_more byte {k} {s} {z = z} b f p =
    record { puts = puts_then b.puts (rw (arg w64 f).is at p); short = omega (arith, b.short, whole_length byte f, length-append s (whole z byte)) }

pub begun-room : (z : ℤ) (byte : ℕ) {k : ℕ} {s l m : List ℕ} {at mid : ℕ} → Begun k s l m at mid → at + longest ≤ length l → T (nat_le (suc k * 21) longest)
    → FitsSigned w64 z → mid + length (whole (m64 z) byte) ≤ length m
begun-room z byte {k} b h t f =
    rw (arg w64 f).is (omega (arith, b.short, whole_length byte f, leb→le (suc k * 21) longest t, puts-length b.puts, b.puts.ends))
