-- The proof of `each_fits`: the vertices that are left to test decide the whole.
use Rattle.std.proofs.Common.{◌≡◌, ◌-◌}
use Rattle.plane.specs.Arc.{fits_from}
use Rattle.placing.proofs.arc.each_fits.Given as goal

abbrev pub invariant-loop-i : goal.invariant-loop-i
invariant-loop-i l = fits_from l.cx l.cy l.w l.sweep l.angle l.i (l.i-end - l.i) ≡ fits_from l.cx l.cy l.w l.sweep l.angle l.from l.many
