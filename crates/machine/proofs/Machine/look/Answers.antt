-- The proof of `look`: a position that is kept may be located.
use Rattle.hpgl.specs.Machine as M
use Rattle.hpgl.proofs.ValidFacts.{placed-locatable}
use Rattle.machine.proofs.Machine.look.Goals as goal

pub located-location-requires : goal.located-location-requires
located-location-requires c =
    let v = c.args.self.usable.valid.core in
    (v.settings, placed-locatable v.settings v.position)

pub returns : goal.returns
unfolding M.look_at
returns c =
    let k = c.args.self.state.core.carriage in
    λ i. record { location = c.located-location.ensures i; pen = k.pen.number; down = k.pen.down; bytes = k.polygon.bytes }
