-- What a program reads of draw and look, in a list of five numbers or more, are 01's values.
use Rattle.std.specs.Prelude.{◌≡◌, refl, Bool, List, [], ◌≤◌, ℤ, nat_abs, length}
use Rattle.std.proofs.Common.{ap, ◌∙◌}
use Rattle.rows.specs.declared.Row.{Row}
use Rattle.rows.specs.Rows.{lay, over, flag_of}
use Rattle.rows.specs.RowLaws.{flag-back, row_back}
use Rattle.hpgl.specs.declared.Stroke.{Stroke}
use Rattle.hpgl.specs.declared.Drawn.{Drawn}
use Rattle.hpgl.specs.declared.Drawn.TheVariants as drawn
use Rattle.hpgl.specs.declared.Look.{Look}
use Rattle.hpgl.specs.Values.{stroke, seen, drawn_values, look_values}
use Rattle.answers.specs.Answers.{drawn_kind, stroke_row, drawn_numbers, told_draw, look_row, look_numbers, told_look}

told-stroke : (s : Stroke) (zs : List ℤ) → 5 ≤ length zs → told_draw 2 (over zs 0 (lay (stroke_row s) [])) ≡ drawn_values (drawn.Stroke s)
unfolding told_draw stroke_row drawn_values
told-stroke s zs h = ap (λ (r : Row). stroke (nat_abs r.a) r.b r.c r.d r.e) (row_back (stroke_row s) zs h)

pub draw-told : (d : Drawn) (zs : List ℤ) → 5 ≤ length zs → told_draw (drawn_kind d) (over zs 0 (drawn_numbers d)) ≡ drawn_values d
unfolding told_draw drawn_kind drawn_numbers drawn_values
draw-told drawn.Idle zs h = refl
draw-told drawn.Hidden zs h = refl
draw-told (drawn.Stroke s) zs h = told-stroke s zs h

pub look-told : (l : Look) (zs : List ℤ) → 5 ≤ length zs → told_look (over zs 0 (look_numbers l)) ≡ look_values l
unfolding told_look look_numbers look_row look_values
look-told l zs h =
    ap (λ (r : Row). seen r.a r.b (nat_abs r.c) (flag_of r.d) (nat_abs r.e)) (row_back (look_row l) zs h)
    ∙ ap (λ (t : Bool). seen l.location.x l.location.y l.pen t l.bytes) (flag-back l.down)
