-- The bytes are what a run over the codes gave (Filled.antt): `m` says what it has of them, and `read` what it read of the list.
use Rattle.std.proofs.Common.{rules, arith, of_calls, refl, ap, ◌∙◌, length, slice_get, slice_index_or, ◌++◌}
use Rattle.std.specs.declared.option.Option.TheVariants.{Some}
use Rattle.sequences.proofs.Filled.{seen, filled, filled_by_all, at_place, at_end}
use Rattle.sequences.proofs.codes.bytes_of.Goals as goal

pub returns-clause-upper_bound : goal.returns-clause-upper_bound
returns-clause-upper_bound g c =
    let (it, xs, becomes, extends, came) = c.extend.ensures.ran in
    let (q, from, m) = filled c.map_while.ensures.runs xs becomes c.extend.result came in
    let read = c.iter.ensures.runs q (seen q.len) in
    let all = extends ∙ ap (λ l. l ++ xs) c.new-bytes.ensures in
    let codes = ap (λ i. i.rest.now) from ∙ c.iter.ensures.rest in
    omega (arith, m.0.0, read.0, ap length all, ap length codes)

pub returns-clause-each : goal.returns-clause-each
returns-clause-each g c k h =
    let (it, xs, becomes, extends, came) = c.extend.ensures.ran in
    let (q, from, m) = filled c.map_while.ensures.runs xs becomes c.extend.result came in
    let read = c.iter.ensures.runs q (seen q.len) in
    let all = extends ∙ ap (λ l. l ++ xs) c.new-bytes.ensures in
    let codes = ap (λ i. i.rest.now) from ∙ c.iter.ensures.rest in
    let each = m.1 (λ a r f called. search of_calls) in
    rw all
    (at_place c.args.codes.now k _ (λ x y called. search (rules, of_calls)) (q.at k)
    (λ d. read.2 k d (omega (arith, h, ap length all, m.0.0)) ∙ ap (λ l. Some (slice_index_or l k d)) codes)
    (slice_get xs k) (each.1 k (omega (arith, h, ap length all))))

pub returns-clause-first_without : goal.returns-clause-first_without
returns-clause-first_without g c h =
    let (it, xs, becomes, extends, came) = c.extend.ensures.ran in
    let (q, from, m) = filled_by_all c.map_while.ensures.runs xs becomes c.extend.result came c.extend.ensures.full (omega (arith, h)) in
    let read = c.iter.ensures.runs q (seen q.len) in
    let all = extends ∙ ap (λ l. l ++ xs) c.new-bytes.ensures in
    let codes = ap (λ i. i.rest.now) from ∙ c.iter.ensures.rest in
    rw (ap length all)
    (at_end c.args.codes.now (length xs) _ (λ x called. let (f, e) = called (λ a r f called. search of_calls) in search (rules, of_calls, e))
    (λ e. omega (arith, e.1, read.1 e.0, ap length codes)) (q.at (length xs)) (rw codes at (read.3 (length xs))) (m.0.2 refl))
