-- What changes the drawing is harm, as survey counts it; a part lies between its place and the end of the block.
use Rattle.std.specs.Prelude.{Bool, cond, List, ◌≡◌, ℕ, ◌+◌, ◌-◌, ◌≤◌, ◌<◌, eqb, ltb, length, drop}
use Rattle.std.proofs.Math.Bool.{true, false}
use Rattle.std.proofs.lemmas.Bool.{false≢true}
use Rattle.std.proofs.Math.Path.{refl}
use Prim.Native.Char.{code}
use Rattle.std.proofs.Common.{arith, ltb-true}
use Rattle.words.specs.Names.{harmless_of}
use Rattle.counting.specs.Names.{letterless}
use Rattle.counting.specs.Refusals.{kind_of_key, harm_of}
use Rattle.noting.specs.Astray.{changes_of, to_letter, part_end}

pub changes-harm : (key count : ℕ) → changes_of (kind_of_key key) ≡ true → harm_of key count ≡ count
unfolding changes_of harm_of
changes-harm key count = go (eqb (kind_of_key key) 0) (eqb (kind_of_key key) (code "b")) (harmless_of (kind_of_key key))
  where
    go : (x y z : Bool) → cond x false (cond y false (cond z false true)) ≡ true → cond z 0 count ≡ count
    go true y z e = absurd (false≢true e)
    go false true z e = absurd (false≢true e)
    go false false true e = absurd (false≢true e)
    go false false false e = refl

module _ (block : List ℕ) (at : ℕ) (within : at ≤ length block) where
  part_of : (n : ℕ) (t u : Bool) → ltb n (length block - at) ≡ u
      → let e = cond t (cond u (at + n + 1) (length block)) (length block) in (at ≤ e) × (e ≤ length block)
  part_of n false u e = (within, omega arith)
  part_of n true false e = (within, omega arith)
  part_of n true true e = let x : n < length block - at = ltb-true n (length block - at) e in (omega arith, omega (arith, x))

  pub part-within : (astray : Bool) → (at ≤ part_end block at astray) × (part_end block at astray ≤ length block)
  unfolding part_end to_letter
  part-within false = (within, omega arith)
  part-within true = part_of (letterless (length block - at) (drop at block)) (ltb at (length block)) (ltb (letterless (length block - at) (drop at block)) (length block - at)) refl
