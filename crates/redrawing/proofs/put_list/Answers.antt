-- By the two tests.
use Rattle.std.proofs.Common.{Ok, sym, ap, ◌∙◌, zero-add, leb-true}
use Rattle.redrawn.specs.Redrawn.{fits_in}
use Rattle.redrawing.specs.RedrawingLaws.{not_written, no_room, all-written, puts-front}
use Rattle.redrawing.proofs.put_list.Goals as goal

pub returns-then-not-all_writable : goal.returns-then-not-all_writable
returns-then-not-all_writable g c =
    let a = not_written (g.S.Strokes.strokes c.args.list.now) c.args.out.now (sym c.all_writable.ensures ∙ c.if-not-all_writable.true) in
    record { value = a.0; out_after = a.1 }

pub returns-then-not-fits : goal.returns-then-not-fits
returns-then-not-fits g c =
    let w = sym c.all_writable.ensures ∙ c.if-not-all_writable.false in
    let a = no_room (g.S.Strokes.strokes c.args.list.now) c.args.out.now w (sym c.fits.ensures ∙ c.if-not-fits.true) in
    record { value = a.0; out_after = a.1 }

pub put_strokes-requires-clause-room : goal.put_strokes-requires-clause-room
unfolding fits_in
put_strokes-requires-clause-room g c = leb-true _ _ (sym c.fits.ensures ∙ c.if-not-fits.false)

pub returns : goal.returns
returns g c =
    let w = sym c.all_writable.ensures ∙ c.if-not-all_writable.false in
    let p = c.put_strokes.ensures in
    let a = all-written (g.S.Strokes.strokes c.args.list.now) c.args.out.now w (sym c.fits.ensures ∙ c.if-not-fits.false) in
    record { value = ap Ok (p.ends ∙ zero-add _) ∙ a.0; out_after = puts-front p ∙ a.1 }
