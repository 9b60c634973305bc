-- The refusals up to the place are in their groups; the rest comes to the same.
use Rattle.std.proofs.Common.{refl, sym, ap, ◌∙◌, ◌+◌, ◌≡◌, length, drop, get_or, set, arith, rules}
use Rattle.counting.specs.declared.refusals.Group.{Group}
use Rattle.counting.specs.declared.refusals.Refusals.{Refusals}
use Rattle.counting.specs.Refusals.{noted_all}
use Rattle.counting.specs.Laws.{lists, group-found, group-nowhere, noted_in, noted-beside, noted_one, noted-none}
use Rattle.counting.proofs.refusals.noted.Goals as goal

pub loop-place-init : goal.loop-place-init
loop-place-init c = λ n m e. refl

pub loop-place-preserved-in_default : goal.loop-place-preserved-in_default
loop-place-preserved-in_default c =
    let q = c.loop-place in
    let b = c.args.bytes.now in
    let f = group-nowhere c.key_of-key.result q.groups (sym c.group_of.ensures ∙ c.in_default.is) in
    let few : 16 ≡ length q.groups = search rules in
    λ n m e. q.invariant n m e ∙ noted_one (lists q.groups q.others) n m b q.place-index (omega arith)
    ∙ ap (λ (r : Refusals). noted_all r n m (drop (q.place-index + 1) b))
    (noted-beside q.groups q.others n m (get_or b q.place-index 0) e refl (omega (arith, f, few))
    ∙ ap (lists q.groups) (sym c.sum-others.ensures))

pub loop-place-preserved : goal.loop-place-preserved
loop-place-preserved c =
    let q = c.loop-place in
    let b = c.args.bytes.now in
    let f = group-found c.key_of-key.result q.groups c.in-Some.i (sym c.group_of.ensures ∙ c.in-Some.is) in
    let few : 16 ≡ length q.groups = search rules in
    λ n m e. q.invariant n m e ∙ noted_one (lists q.groups q.others) n m b q.place-index (omega arith)
    ∙ ap (λ (r : Refusals). noted_all r n m (drop (q.place-index + 1) b))
    (noted_in q.groups q.others n m (get_or b q.place-index 0) e f.1 (omega (arith, f.0, few))
    ∙ ap (λ (g : Group). lists (set q.groups c.in-Some.i g) q.others) (sym c.one_more.ensures))

pub returns : goal.returns
returns c =
    let q = c.loop-place in
    sym (q.invariant c.args.number c.args.name c.key_of-key.ensures ∙ noted-none (lists q.groups q.others) c.args.number c.args.name c.args.bytes.now q.place-index (omega arith))
