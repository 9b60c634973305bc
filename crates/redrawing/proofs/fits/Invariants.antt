-- What is left of the room, and of the text.
use Rattle.std.proofs.Common.{◌≡◌, true, ◌+◌, length, drop}
use Rattle.redrawn.specs.Redrawn.{all_writable, strokes_text}
use Rattle.redrawing.proofs.fits.Given as goal

abbrev pub invariant-loop-i : goal.invariant-loop-i
invariant-loop-i g l =
    let ss = g.S.Strokes.strokes l.list in
    (all_writable (drop l.i ss) ≡ true) × (3 + length (strokes_text 0 ss) + l.left ≡ l.room + length (strokes_text l.before (drop l.i ss)))
