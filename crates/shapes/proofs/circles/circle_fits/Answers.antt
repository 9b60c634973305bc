-- The proof of `circle_fits`: the four ways, one after the other.
use Rattle.std.proofs.Common.{refl, sym, ap, ◌∙◌, Bool}
use lib.IntN.{ℤ, pos, neg_ℤ, ◌-ℤ◌}
use mir.Syntax.{w64}
use Rattle.exact.specs.Fit.{Num, Bd, m64, val, neg, put, sized}
use Rattle.plane.specs.Bounds.{most_number}
use Rattle.hpgl.specs.declared.Core.{Core}
use Rattle.hpgl.specs.Place.{location, in_range, relative_position}
use Rattle.hpgl.specs.Rules.{circle_fits}
use Rattle.hpgl.proofs.ValidFacts.{along-x, along-y}
use Rattle.shapes.proofs.circles.circle_fits.Goals as goal
use Rattle.shapes.proofs.circles.circle_fits.Goals.{then-way_fits, else-way_fits, then-way_fits-2, else-way_fits-2}

-- what `way_fits` answers of a way along x, and of one along y
abbrev across : Core → ℤ → Bool
across c n = in_range (location c.settings (relative_position c.carriage.position (record { x = n; y = pos 0 })))

abbrev upward : Core → ℤ → Bool
upward c n = in_range (location c.settings (relative_position c.carriage.position (record { x = pos 0; y = n })))

there : {r : ℤ} → Bd r most_number → Num (m64 r) r most_number
there h = val w64 h tt

back : {r : ℤ} → Bd r most_number → Num (m64 (pos 0 -ℤ m64 r)) (neg_ℤ r) most_number
back h = put w64 (neg (there h)) tt

pub way_fits-requires-then-way_fits-2 : goal.way_fits-requires-then-way_fits-2
way_fits-requires-then-way_fits-2 c = (c.requires.0, along-x (sized (back c.requires.1) tt))

pub way_fits-requires-then-way_fits-3 : goal.way_fits-requires-then-way_fits-3
way_fits-requires-then-way_fits-3 c = (c.requires.0, along-y (sized (back c.requires.1) tt))

pub returns-then-way_fits-3 : goal.returns-then-way_fits-3
unfolding circle_fits
returns-then-way_fits-3 c =
    let right = c.way_fits.ensures ∙ ap (across c.args.c) (there c.requires.1).is in
    let down = c.way_fits-then-way_fits-3.ensures ∙ ap (upward c.args.c) (back c.requires.1).is in
    elim c.if-way_fits-2.branch [
      | then-way_fits-2 v ↦ elim c.if-way_fits.branch [
        | then-way_fits w ↦
            let up = w.way_fits-then-way_fits.ensures ∙ ap (upward c.args.c) (there c.requires.1).is in
            let left = v.way_fits-then-way_fits-2.ensures ∙ ap (across c.args.c) (back c.requires.1).is in
            rw (sym right ∙ w.if-way_fits.true, sym up ∙ sym w.value-is ∙ v.if-way_fits-2.true, sym left ∙ sym v.value-is ∙ c.if-way_fits-3.true) down
        | else-way_fits w ↦ cc
      ]
      | else-way_fits-2 v ↦ cc
    ]

pub returns-else-way_fits-3 : goal.returns-else-way_fits-3
unfolding circle_fits
returns-else-way_fits-3 c =
    let right = c.way_fits.ensures ∙ ap (across c.args.c) (there c.requires.1).is in
    c.if-way_fits-3.false ∙ elim c.if-way_fits.branch [
      | then-way_fits w ↦
          let up = w.way_fits-then-way_fits.ensures ∙ ap (upward c.args.c) (there c.requires.1).is in
          elim c.if-way_fits-2.branch [
            | then-way_fits-2 v ↦
                let left = v.way_fits-then-way_fits-2.ensures ∙ ap (across c.args.c) (back c.requires.1).is in
                rw (sym right ∙ w.if-way_fits.true, sym up ∙ sym w.value-is ∙ v.if-way_fits-2.true, sym left ∙ sym v.value-is ∙ c.if-way_fits-3.false) refl
            | else-way_fits-2 v ↦ rw (sym right ∙ w.if-way_fits.true, sym up ∙ sym w.value-is ∙ v.if-way_fits-2.false) refl
          ]
      | else-way_fits w ↦ rw (sym right ∙ w.if-way_fits.false) refl
    ]
