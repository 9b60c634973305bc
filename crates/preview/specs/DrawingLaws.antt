-- Laws of a drawing's steps: after a feed the machine may be used (step-usable), and the place is one of the block (step-within).
use Rattle.std.specs.Prelude.{List, ◌≡◌, ℕ, ◌-◌, ◌≤◌, length, drop}
use Rattle.std.proofs.Common.{arith, length-drop, length-take-le}
use Rattle.hpgl.specs.Valid.{Usable}
use Rattle.feeding.proofs.FeedLaws.{feed-place}
use Rattle.noting.specs.Astray.{part_end}
use Rattle.noting.specs.AstrayLaws.{part-within}
use Rattle.tracing.specs.declared.Hand.{Hand}
use Rattle.preview.specs.declared.strokes.Drawing.{Drawing}
use Rattle.preview.specs.Drawing.{part_of, step_of}

module _ (d : Drawing) (block : List ℕ) (hand : Hand) where
  pub step-usable : Usable (step_of d block hand).machine.state
  step-usable = (step_of d block hand).machine.usable

  pub part_length : d.at ≤ length block → length (part_of d block) ≡ part_end block d.at d.astray - d.at
  part_length h =
      let w = part-within block d.at h d.astray in
      let fits : part_end block d.at d.astray - d.at ≤ length (drop d.at block) = omega (arith, w.0, w.1, length-drop d.at block) in
      length-take-le (part_end block d.at d.astray - d.at) (drop d.at block) fits

  pub step-within : d.at ≤ length block → (step_of d block hand).at ≤ length block
  step-within h =
      let w = part-within block d.at h d.astray in
      omega (arith, w.0, w.1, (feed-place d.machine.state (part_of d block) 0 64).1, part_length h)
