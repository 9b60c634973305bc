-- The proof of `drive`: its tests are those of the definition, in the same order, and every place is exact (proofs/Laws.antt).
use mathlib.Core.Path.{◌≡◌, refl, sym, ap, ap₂, ◌∙◌}
use mathlib.Core.Bool.{true}
use Prim.Native.Nat.{ℕ}
use borrow.Author.Rules.{rules}
use lib.IntN.{ℤ}
use mir.Syntax.{w64}
use Rattle.exact.specs.Fit.{val, m64}
use Rattle.drive.specs.declared.Place.{Place}
use Rattle.drive.specs.declared.Move.TheVariants.{Travel, Paint, Dot}
use Rattle.drive.specs.declared.Moves.TheVariants.{Two, One}
use Rattle.drive.specs.declared.Refusal.TheVariants.{Pitch, End}
use Rattle.std.proofs.Common.{Ok}
use Rattle.exact.specs.Int16.{int16, int16-size}
use Rattle.drive.specs.Drive.{ends_inside_of, spot_of, place_of}
use Rattle.drive.proofs.Laws.{pitch-refused, end_refused, dot-answered, line-answered, Inside, ends-inside, spot-exact}
use Rattle.drive.proofs.drive.Goals as goal
use Rattle.drive.proofs.drive.Lts
use Rattle.drive.proofs.drive.Tie
use Rattle.drive.proofs.drive.Reads

abbrev Else-not-ends_inside : Type 0
Else-not-ends_inside = Lts.Else2 Tie.the-claims Reads.Pre Reads.Post

-- a number inside is what the machine reads back of it
read : (z : ℤ) → int16 z ≡ true → m64 z ≡ z
read z h = (val w64 (int16-size z h) tt).is

placed : (x y : ℤ) (c : ℕ) {p : Place} → int16 x ≡ true → int16 y ≡ true → p ≡ place_of (spot_of (m64 x) (m64 y) c) → p ≡ place_of (spot_of x y c)
placed x y c h k e = e ∙ ap₂ (λ (a b : ℤ). place_of (spot_of a b c)) (read x h) (read y k)

-- past the second test both ends are inside
passed : (c : Else-not-ends_inside) → ends_inside_of c.args.stroke ≡ true
passed c = sym c.ends_inside.ensures ∙ c.if-not-ends_inside.false

all-inside : (c : Else-not-ends_inside) → Inside c.args.stroke
all-inside c = ends-inside _ (passed c)

pub returns-then-pitch-gt-LAST_CODE : goal.returns-then-pitch-gt-LAST_CODE
returns-then-pitch-gt-LAST_CODE c = let s = c.before in rw (pitch-refused s.args.stroke s.args.pitch c.if-pitch-gt-LAST_CODE.true) (Pitch, refl, refl)

pub returns-then-not-ends_inside : goal.returns-then-not-ends_inside
returns-then-not-ends_inside c =
    let d = c.before.before in
    let s = d.args in
    rw (end_refused s.stroke s.pitch d.if-pitch-gt-LAST_CODE.false (sym c.ends_inside.ensures ∙ c.if-not-ends_inside.true)) (End, refl, refl)

pub place_at-start-requires : goal.place_at-start-requires
place_at-start-requires c = search (rules, all-inside search)

pub returns-then-ends_equal : goal.returns-then-ends_equal
returns-then-ends_equal c =
    let p = c.before.before in
    let d = p.before.before.before in
    let s = d.args in
    let i = all-inside d in
    rw (dot-answered s.stroke s.pitch d.if-pitch-gt-LAST_CODE.false (passed d) (sym c.ends_equal.ensures ∙ c.if-ends_equal.true))
    (ap (λ (q : Place). Ok (One (Dot q))) (placed s.stroke.x0 s.stroke.y0 s.pitch i.x0 i.y0 p.place_at-start.ensures), spot-exact s.stroke.x0 s.stroke.y0 s.pitch i.x0 i.y0)

pub place_at-end-requires : goal.place_at-end-requires
place_at-end-requires c = search (rules, all-inside search)

pub returns : goal.returns
returns c =
    let e = c.before.before.before in
    let p = e.before.before in
    let d = p.before.before.before in
    let s = d.args in
    let i = all-inside d in
    rw (line-answered s.stroke s.pitch d.if-pitch-gt-LAST_CODE.false (passed d) (sym e.ends_equal.ensures ∙ e.if-ends_equal.false)) (
      ap₂ (λ (q r : Place). Ok (Two (Travel q) (Paint r))) (placed s.stroke.x0 s.stroke.y0 s.pitch i.x0 i.y0 p.place_at-start.ensures) (placed s.stroke.x1 s.stroke.y1 s.pitch i.x1 i.y1 c.place_at-end.ensures),
      (spot-exact s.stroke.x0 s.stroke.y0 s.pitch i.x0 i.y0, spot-exact s.stroke.x1 s.stroke.y1 s.pitch i.x1 i.y1),
    )
