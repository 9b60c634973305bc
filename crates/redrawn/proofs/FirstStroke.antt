-- The first stroke as one after no pen, which has no pen before it.
use Rattle.std.specs.Prelude.{true, List, [], ◌∷◌, ◌++◌, ◌≡◌, refl, ◌+◌, length}
use Rattle.std.proofs.Common.{ap, ◌∙◌, arith, ne_eqb, length-append}
use Rattle.hpgl.specs.declared.Stroke.{Stroke}
use Rattle.redrawn.specs.Redrawn.{all_writable, change_text, stroke_text, strokes_text, all_text, start_text, text_of}
use Rattle.redrawn.specs.RedrawnLaws.{writable-is, writable-first}

pub text-from : (ss : List Stroke) → all_writable ss ≡ true → text_of ss ≡ start_text ++ strokes_text 0 ss
unfolding text_of all_text strokes_text stroke_text change_text
text-from [] h = refl
text-from (s ∷ ss) h =
    let w = writable-is s (writable-first s ss h).0 in
    rw (ne_eqb s.pen 0 (λ e. omega (arith, w.least))) refl

pub text-long : (ss : List Stroke) → all_writable ss ≡ true → length (text_of ss) ≡ 3 + length (strokes_text 0 ss)
text-long ss h = ap length (text-from ss h) ∙ length-append start_text (strokes_text 0 ss)
