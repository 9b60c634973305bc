-- Astray: the carriage does not stand where the drawing has it, and what it draws starts at a place that nobody meant. So it is after a refused move, up to the next move with the
-- pen up that is accepted.
use Rattle.std.specs.Prelude.{Bool, true, false, cond, List, ℕ, ◌+◌, ◌-◌, eqb, ltb, length, drop}
use Prim.Native.Char.{code}
use Rattle.exact.specs.Whole.{◌≡?◌}
use Rattle.clip.specs.declared.Point.{Point}
use Rattle.hpgl.specs.declared.Look.{Look}
use Rattle.words.specs.Names.{refused_kind, harmless_of}
use Rattle.counting.specs.declared.names.Letters.{Letters}
use Rattle.counting.specs.Names.{unnamed, letterless, name_of}
use Rattle.noting.specs.Refusals.{refuses}

abbrev pub kind_named : ℕ → Letters → ℕ
kind_named number name = refused_kind number name.first name.second

-- what would have moved the carriage, by its kind (words/specs/Names.antt): a move of the machine's own, a curve that it does not have, coded lines
unfoldable pub moves_of : ℕ → Bool
moves_of kind = cond (eqb kind (code "m")) true (cond (eqb kind (code "a")) true (eqb kind (code "e")))

-- of what is refused with a feed's number, on the byte before a place of a block; 0 for no refusal; l is for the letters before the block
unfoldable pub kind_at : Letters → List ℕ → ℕ → ℕ → ℕ
kind_at l block at number = cond (refuses number) (kind_named number (name_of l unnamed block at number)) 0

-- what changes the drawing, by its kind: each such refusal of a group is one of those for which survey calls a drawing unfit (`changes-harm`). Bytes of no name (b) may be an escape
-- sequence's, which is harmless; here they are not told apart, and do not count
unfoldable pub changes_of : ℕ → Bool
changes_of kind = cond (eqb kind 0) false (cond (eqb kind (code "b")) false (cond (harmless_of kind) false true))

unfoldable pub same_point : Point → Point → Bool
same_point a b = cond (a.x ≡? b.x) (cond (a.y ≡? b.y) true false) false

-- a move with the pen up was accepted: the pen is up, and the carriage stands elsewhere than before
unfoldable pub set_right : Look → Look → Bool
set_right before after = cond after.down false (cond (same_point before.location after.location) false true)

-- after a feed that a refused move ends, or not, and between two looks
unfoldable pub astray_of : Bool → Bool → Look → Look → Bool
astray_of was strays before after = cond strays true (cond (set_right before after) false was)

-- Where a feed from a place of a block on has to stop: while the carriage is astray after the next letter, since between two letters no more than one instruction acts,
-- with the pen up or with the pen down; else where the block ends.
unfoldable pub to_letter : List ℕ → ℕ → ℕ → ℕ
to_letter block at n = cond (ltb n (length block - at)) (at + n + 1) (length block)

unfoldable pub part_end : List ℕ → ℕ → Bool → ℕ
part_end block at astray = cond astray (cond (ltb at (length block)) (to_letter block at (letterless (length block - at) (drop at block))) (length block)) (length block)
