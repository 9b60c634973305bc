-- The proof of `outside_to_outside`: its test is the definition's, of what the calls returned.
use Rattle.std.proofs.Common.{ap₂, ◌∙◌, Some}
use mir.Syntax.{w64}
use Rattle.exact.specs.Fit.{Num, m64, ret, put, fit, sized, lt?-is, ◌⊕◌}
use Rattle.clip.specs.Clip.{steps, entry, place, clip}
use Rattle.clip.specs.Reach.{most_steps}
use Rattle.clip.specs.Sizes.{steps-size, entry-size}
use Rattle.clip.specs.declared.Point.{Point}
use Rattle.clipping.proofs.outside_to_outside.Goals as goal
use Rattle.clipping.proofs.outside_to_outside.Lts
use Rattle.clipping.proofs.outside_to_outside.Tie
use Rattle.clipping.proofs.outside_to_outside.Reads

abbrev After-entry-m : Type 0
After-entry-m = Lts.After-entry Tie.the-claims Reads.Pre Reads.Post

abbrev After-entry-n : Type 0
After-entry-n = Lts.After-entry2 Tie.the-claims Reads.Pre Reads.Post

abbrev After-steps : Type 0
After-steps = Lts.After-steps Tie.the-claims Reads.Pre Reads.Post

m-num : (c : After-entry-m) → let s = c.args in Num (m64 c.entry-m.result) (entry s.r s.a s.b) most_steps
m-num c = let p = c.requires in ret w64 c.entry-m.type_inv c.entry-m.ensures (entry-size p.0 p.1 p.2)

n-num : (c : After-entry-n) → let s = c.args in Num (m64 c.entry-n.result) (entry s.r s.b s.a) most_steps
n-num c = let p = c.requires in ret w64 c.entry-n.type_inv c.entry-n.ensures (entry-size p.0 p.2 p.1)

all-num : (c : After-steps) → let s = c.args in Num (m64 c.steps.result) (steps s.a s.b) most_steps
all-num c = let p = c.requires in ret w64 c.steps.type_inv c.steps.ensures (steps-size p.1 p.2)

pub overflow_add-m : goal.overflow_add-m
overflow_add-m c = let n = c.before in fit w64 (m-num n.before ⊕ n-num n) tt

pub returns-then-steps-m : goal.returns-then-steps-m
unfolding clip
returns-then-steps-m c =
    let n = c.before.before in
    let a = c.before in
    rw (lt?-is (all-num a) (put w64 (m-num n.before ⊕ n-num n) tt) c.if-steps-m.true)

pub place-requires : goal.place-requires
place-requires c =
    let m = c.before.before.before in
    (c.requires.1, c.requires.2, sized (m-num m) tt)

pub place-requires-2 : goal.place-requires-2
place-requires-2 c =
    let n = c.before.before.before in
    (c.requires.2, c.requires.1, sized (n-num n) tt)

pub returns : goal.returns
unfolding clip
returns c =
    let n = c.before.before.before.before in
    let a = c.before.before.before in
    rw (lt?-is (all-num a) (put w64 (m-num n.before ⊕ n-num n) tt) c.if-steps-m.false)
    (ap₂ (λ (s t : Point). Some (s, t))
    (c.place.ensures ∙ (λ i. place c.args.a c.args.b ((m-num n.before).is i)))
    (c.place-2.ensures ∙ (λ i. place c.args.b c.args.a ((n-num n).is i))))
