-- What is saved differs in the pen alone.
use mathlib.Core.List.{List}
use mathlib.Core.Path.{sym, ap, subst, ◌∙◌}
use lib.IntN.{ℤ, pos}
use lib.ListN.{set}
use Rattle.saved.specs.Saved.{loaded_of}
use Rattle.machine.specs.Loadable.{Loadable}
use Rattle.inking.specs.Inked.{inked-loadable, inked-back}
use Rattle.inking.proofs.inked.Goals as goal

pub load-requires : goal.load-requires
load-requires c =
    subst (λ (l : List ℤ). Loadable (set l 40 (pos 1))) (sym c.save.ensures) (inked-loadable c.args.machine.state c.args.machine.usable c.requires)

pub returns : goal.returns
returns c =
    c.load.ensures ∙ ap (λ (k : List ℤ). loaded_of (set k 40 (pos 1))) c.save.ensures ∙ inked-back c.args.machine.state c.args.machine.usable c.requires
