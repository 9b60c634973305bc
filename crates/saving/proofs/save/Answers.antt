-- The proof of `save`: its parts, one after the other.
use mathlib.Core.Path.{◌≡◌, sym, ap, ◌∙◌}
use mathlib.Core.List.{List}
use lib.IntN.{ℤ}
use lib.ListN.{length}
use Rattle.rows.specs.Rows.{over}
use Rattle.rows.specs.RowLaws.{over-all}
use Rattle.saved.specs.Places.{limits_place, position_place, work_place, edges_place}
use Rattle.saved.specs.SavedReader.{reader_numbers}
use Rattle.hpgl.specs.declared.State.{State}
use Rattle.hpgl.specs.Numbers.{most_edges}
use Rattle.saved.specs.Saved.{state_numbers, settings_numbers, carriage_numbers, work_numbers, edges_numbers, saved_of}
use Rattle.saved.proofs.SavedLaws.{saved-length}
use Rattle.saving.proofs.save.Goals as goal

-- the parts, one written after the other, are the whole
whole : (m : State) (zs : List ℤ) → length m.store.edges ≡ most_edges → length zs ≡ state_numbers →
    over (over (over (over (over zs 0 (reader_numbers m.reader)) limits_place (settings_numbers m.core.settings)) position_place (carriage_numbers m.core.carriage)) work_place (work_numbers m.work)) edges_place (edges_numbers m.store.edges) ≡ saved_of m
unfolding over saved_of reader_numbers settings_numbers carriage_numbers work_numbers
whole m zs e h = over-all zs (saved_of m) (h ∙ sym (saved-length m e))

pub returns : goal.returns
returns c =
    let m = c.args.m in
    c.put_edges.ensures
    ∙ ap (λ (zs : List ℤ). over zs edges_place (edges_numbers m.store.edges))
    (c.put_work.ensures
    ∙ ap (λ (zs : List ℤ). over zs work_place (work_numbers m.work))
    (c.put_carriage.ensures
    ∙ ap (λ (zs : List ℤ). over zs position_place (carriage_numbers m.core.carriage))
    (c.put_settings.ensures ∙ ap (λ (zs : List ℤ). over zs limits_place (settings_numbers m.core.settings)) c.put_reader.ensures)))
    ∙ whole m c.args.numbers.now c.requires.0 c.requires.1
