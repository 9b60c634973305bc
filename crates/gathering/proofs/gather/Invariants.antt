-- The proof of `gather`. The invariant is `Far` (Gathers.antt): the marks so far stand in the list, and what is left of feed or plot follows them; with it the
-- frame is that of the settings, and `here` the location of the hand. A turn draws, or does what one event asks (Moving.antt), and ends. What is left where the
-- ways meet is a refusal that changed nothing (`declines`), of which its number alone is told there.
-- The measure: what waits, and for each byte left one more than can wait after it, which is at most the 720 chords of a circle.
use mathlib.Core.Path.{◌≡◌}
use Prim.Native.Nat.{◌+◌, ◌*◌, ◌-◌, ◌/◌}
use lib.ListN.{length, drop}
use Rattle.hpgl.specs.Machine.{waiting}
use Rattle.rulekit.specs.Hand.{frame_of, core_of, location_in}
use Rattle.gathering.specs.Gather.{whole, gather_from}
use Rattle.gathering.specs.Far.{Far}
use Rattle.gathering.proofs.gather.Given as goal

abbrev pub invariant-loop-sines : goal.invariant-loop-sines
invariant-loop-sines l =
    Far l.on (gather_from l.on (whole l.initial.reader (core_of l.initial.settings l.initial.hand l.initial.polygon) l.initial.store l.initial.work) (drop l.from l.bytes) l.from (length l.initial.numbers / 5)) l.bytes l.initial.numbers l.numbers (whole l.reader (core_of l.settings l.hand l.polygon) l.store l.work) l.at l.count
    × (l.frame ≡ frame_of l.settings)
    × (l.here ≡ location_in l.frame l.hand.position)

abbrev pub decreases-loop-sines : goal.decreases-loop-sines
decreases-loop-sines l = (length l.bytes - l.at) * 721 + waiting l.work
