-- The proof of `take_in`.
use mathlib.Core.Path.{◌≡◌, ap, ◌∙◌}
use Rattle.hpgl.specs.declared.State.{State}
use Rattle.machine.specs.Calls.{Numbered, taken_by, taken_of}
use Rattle.saved.specs.Saved.{saved_of, loaded_of}
use Rattle.calling.proofs.take_in.Goals as goal

pub load-before-requires : goal.load-before-requires
load-before-requires c = c.requires

pub save-requires : goal.save-requires
save-requires c = c.requires.long

pub returns : goal.returns
unfolding taken_of
returns c =
    let byte = c.args.byte in
    let taken : taken_by c.take-taken.result ≡ taken_of (loaded_of c.args.numbers.now) byte = c.take-taken.ensures ∙ ap (λ (m : State). taken_of m byte) c.load-before.ensures in
    record { value = ap (λ (r : Numbered). r.number) taken; numbers_after = c.save.ensures ∙ ap (λ (r : Numbered). saved_of r.state) taken }
