-- The proof of `work_of`: by its arms.
use Rattle.std.proofs.lemmas.Bool.Decides.{nat_tests}
use Rattle.std.proofs.Common.{rules, arith, w64, ap, sym, ◌≡◌, ◌∙◌, ℕ}
use Rattle.exact.specs.Fit.{arg, m64}
use Rattle.rows.specs.Rows.{small_of, most_byte, most_short}
use Rattle.rows.specs.declared.Row.{Row}
use Rattle.hpgl.specs.declared.Work.TheVariants.{Line, Chords, Edges, Answer}
use Rattle.saved.specs.Saved.{small_in, work_of}
use Rattle.saving.proofs.work.work_of.Goals as goal

-- what the arms are of
tag : {k : ℕ} (r : Row) → m64 r.e ≡ r.e → k ≡ small_of most_byte (m64 r.e) → small_in r ≡ k
unfolding small_in
tag r e h = sym (h ∙ ap (small_of most_byte) e)

pub returns-in-1 : goal.returns-in-1
unfolding work_of
returns-in-1 c = rw (tag c.args.row (arg w64 (search rules)).is c.byte_of.ensures ∙ c.in-1.is) (λ i. Line (c.from_of.ensures i) (c.to_of.ensures i))

pub returns-in-2 : goal.returns-in-2
unfolding work_of
returns-in-2 c =
    let r = c.args.row in
    let i = c.short_of.ensures ∙ ap (small_of most_short) (arg w64 {z = r.a} (search rules)).is in
    let n = c.short_of-in-2.ensures ∙ ap (small_of most_short) (arg w64 {z = r.b} (search rules)).is in
    rw (tag r (arg w64 (search rules)).is c.byte_of.ensures ∙ c.in-2.is) (λ j. Chords (c.circle_of.ensures j) (i j) (n j))

pub returns-in-3 : goal.returns-in-3
unfolding work_of
returns-in-3 c =
    let r = c.args.row in
    let i = c.byte_of-in-3.ensures ∙ ap (small_of most_byte) (arg w64 {z = r.a} (search rules)).is in
    let n = c.byte_of-in-3-2.ensures ∙ ap (small_of most_byte) (arg w64 {z = r.b} (search rules)).is in
    rw (tag r (arg w64 (search rules)).is c.byte_of.ensures ∙ c.in-3.is) (λ j. Edges (i j) (n j))

pub returns-in-4 : goal.returns-in-4
unfolding work_of
returns-in-4 c = rw (tag c.args.row (arg w64 (search rules)).is c.byte_of.ensures ∙ c.in-4.is) (ap Answer c.reply_of.ensures)

pub returns-in_default : goal.returns-in_default
unfolding work_of
returns-in_default c = grind (arith, nat_tests, tag c.args.row (arg w64 (search rules)).is c.byte_of.ensures)
