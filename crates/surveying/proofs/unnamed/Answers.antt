-- By the places.
use mathlib.Core.Path.{sym, ap, ◌∙◌}
use lib.ListN.{length}
use Rattle.surveying.specs.Laws.{places_count}
use Rattle.surveying.proofs.unnamed.Goals as goal

pub slice_bounds-noted-end : goal.slice_bounds-noted-end
slice_bounds-noted-end c =
    sym (ap length c.places-list.ensures ∙ places_count c.args.before c.args.numbers.now c.args.count)
