-- The proof of `sound`.
use mathlib.Core.Path.{◌≡◌, refl, sym, ◌∙◌}
use mathlib.Core.Bool.{true, false}
use lib.IntN.{ℤ}
use mathlib.Core.List.{List}
use Rattle.rows.specs.Rows.{row_at}
use Rattle.hpgl.specs.Valid.{ValidSettings}
use Rattle.saved.specs.Places.{limits_place, corners_place, scale_place, window_place, position_place, pen_place, polygon_place, first_place, saved_place, memory_place, work_place, across_place, along_place, start_place}
use Rattle.saved.specs.Saved.{settings_at}
use Rattle.wellformed.proofs.PartLaws.{settings-law}
use Rattle.wellformed.specs.Sound.{reader_sound, settings_sound, carriage_sound, known_sound, work_sound, inked_sound, sound_of}
use Rattle.soundness.proofs.sound.Goals as goal

valid : (zs : List ℤ) → settings_sound (row_at zs limits_place) (row_at zs corners_place) (row_at zs scale_place) (row_at zs window_place) ≡ true → ValidSettings (settings_at zs)
unfolding settings_at
valid zs e = (settings-law (row_at zs limits_place) (row_at zs corners_place) (row_at zs scale_place) (row_at zs window_place) e).valid

pub returns-then-not-reader_here : goal.returns-then-not-reader_here
unfolding sound_of
returns-then-not-reader_here c =
    let e1 : reader_sound (row_at c.args.numbers.now 0) (row_at c.args.numbers.now 5) (row_at c.args.numbers.now 10) ≡ false = sym c.reader_here.ensures ∙ c.if-not-reader_here.true in
    rw (e1) refl

pub returns-then-not-settings_here : goal.returns-then-not-settings_here
unfolding sound_of
returns-then-not-settings_here c =
    let e1 : reader_sound (row_at c.args.numbers.now 0) (row_at c.args.numbers.now 5) (row_at c.args.numbers.now 10) ≡ true = sym c.reader_here.ensures ∙ c.if-not-reader_here.false in
    let e2 : settings_sound (row_at c.args.numbers.now limits_place) (row_at c.args.numbers.now corners_place) (row_at c.args.numbers.now scale_place) (row_at c.args.numbers.now window_place) ≡ false = sym c.settings_here.ensures ∙ c.if-not-settings_here.true in
    rw (e1, e2) refl

pub carriage_here-requires : goal.carriage_here-requires
carriage_here-requires c =
    (c.requires, valid c.args.numbers.now (sym c.settings_here.ensures ∙ c.if-not-settings_here.false))

pub returns-then-not-carriage_here : goal.returns-then-not-carriage_here
unfolding sound_of
returns-then-not-carriage_here c =
    let e1 : reader_sound (row_at c.args.numbers.now 0) (row_at c.args.numbers.now 5) (row_at c.args.numbers.now 10) ≡ true = sym c.reader_here.ensures ∙ c.if-not-reader_here.false in
    let e2 : settings_sound (row_at c.args.numbers.now limits_place) (row_at c.args.numbers.now corners_place) (row_at c.args.numbers.now scale_place) (row_at c.args.numbers.now window_place) ≡ true = sym c.settings_here.ensures ∙ c.if-not-settings_here.false in
    let e3 : carriage_sound (settings_at c.args.numbers.now) (row_at c.args.numbers.now position_place) (row_at c.args.numbers.now pen_place) (row_at c.args.numbers.now polygon_place) (row_at c.args.numbers.now first_place) (row_at c.args.numbers.now saved_place) (row_at c.args.numbers.now memory_place) ≡ false = sym c.carriage_here.ensures ∙ c.if-not-carriage_here.true in
    rw (e1, e2, e3) refl

pub returns-then-not-known_here : goal.returns-then-not-known_here
unfolding sound_of
returns-then-not-known_here c =
    let e1 : reader_sound (row_at c.args.numbers.now 0) (row_at c.args.numbers.now 5) (row_at c.args.numbers.now 10) ≡ true = sym c.reader_here.ensures ∙ c.if-not-reader_here.false in
    let e2 : settings_sound (row_at c.args.numbers.now limits_place) (row_at c.args.numbers.now corners_place) (row_at c.args.numbers.now scale_place) (row_at c.args.numbers.now window_place) ≡ true = sym c.settings_here.ensures ∙ c.if-not-settings_here.false in
    let e3 : carriage_sound (settings_at c.args.numbers.now) (row_at c.args.numbers.now position_place) (row_at c.args.numbers.now pen_place) (row_at c.args.numbers.now polygon_place) (row_at c.args.numbers.now first_place) (row_at c.args.numbers.now saved_place) (row_at c.args.numbers.now memory_place) ≡ true = sym c.carriage_here.ensures ∙ c.if-not-carriage_here.false in
    let e4 : known_sound (row_at c.args.numbers.now 0) (row_at c.args.numbers.now polygon_place) ≡ false = sym c.known_here.ensures ∙ c.if-not-known_here.true in
    rw (e1, e2, e3, e4) refl

pub returns-then-not-work_here : goal.returns-then-not-work_here
unfolding sound_of
returns-then-not-work_here c =
    let e1 : reader_sound (row_at c.args.numbers.now 0) (row_at c.args.numbers.now 5) (row_at c.args.numbers.now 10) ≡ true = sym c.reader_here.ensures ∙ c.if-not-reader_here.false in
    let e2 : settings_sound (row_at c.args.numbers.now limits_place) (row_at c.args.numbers.now corners_place) (row_at c.args.numbers.now scale_place) (row_at c.args.numbers.now window_place) ≡ true = sym c.settings_here.ensures ∙ c.if-not-settings_here.false in
    let e3 : carriage_sound (settings_at c.args.numbers.now) (row_at c.args.numbers.now position_place) (row_at c.args.numbers.now pen_place) (row_at c.args.numbers.now polygon_place) (row_at c.args.numbers.now first_place) (row_at c.args.numbers.now saved_place) (row_at c.args.numbers.now memory_place) ≡ true = sym c.carriage_here.ensures ∙ c.if-not-carriage_here.false in
    let e4 : known_sound (row_at c.args.numbers.now 0) (row_at c.args.numbers.now polygon_place) ≡ true = sym c.known_here.ensures ∙ c.if-not-known_here.false in
    let e5 : work_sound (row_at c.args.numbers.now work_place) (row_at c.args.numbers.now across_place) (row_at c.args.numbers.now along_place) (row_at c.args.numbers.now start_place) ≡ false = sym c.work_here.ensures ∙ c.if-not-work_here.true in
    rw (e1, e2, e3, e4, e5) refl

pub returns-then-not-inked_here : goal.returns-then-not-inked_here
unfolding sound_of
returns-then-not-inked_here c =
    let e1 : reader_sound (row_at c.args.numbers.now 0) (row_at c.args.numbers.now 5) (row_at c.args.numbers.now 10) ≡ true = sym c.reader_here.ensures ∙ c.if-not-reader_here.false in
    let e2 : settings_sound (row_at c.args.numbers.now limits_place) (row_at c.args.numbers.now corners_place) (row_at c.args.numbers.now scale_place) (row_at c.args.numbers.now window_place) ≡ true = sym c.settings_here.ensures ∙ c.if-not-settings_here.false in
    let e3 : carriage_sound (settings_at c.args.numbers.now) (row_at c.args.numbers.now position_place) (row_at c.args.numbers.now pen_place) (row_at c.args.numbers.now polygon_place) (row_at c.args.numbers.now first_place) (row_at c.args.numbers.now saved_place) (row_at c.args.numbers.now memory_place) ≡ true = sym c.carriage_here.ensures ∙ c.if-not-carriage_here.false in
    let e4 : known_sound (row_at c.args.numbers.now 0) (row_at c.args.numbers.now polygon_place) ≡ true = sym c.known_here.ensures ∙ c.if-not-known_here.false in
    let e5 : work_sound (row_at c.args.numbers.now work_place) (row_at c.args.numbers.now across_place) (row_at c.args.numbers.now along_place) (row_at c.args.numbers.now start_place) ≡ true = sym c.work_here.ensures ∙ c.if-not-work_here.false in
    let e6 : inked_sound (row_at c.args.numbers.now pen_place) (row_at c.args.numbers.now work_place) ≡ false = sym c.inked_here.ensures ∙ c.if-not-inked_here.true in
    rw (e1, e2, e3, e4, e5, e6) refl

pub returns : goal.returns
unfolding sound_of
returns c =
    let e1 : reader_sound (row_at c.args.numbers.now 0) (row_at c.args.numbers.now 5) (row_at c.args.numbers.now 10) ≡ true = sym c.reader_here.ensures ∙ c.if-not-reader_here.false in
    let e2 : settings_sound (row_at c.args.numbers.now limits_place) (row_at c.args.numbers.now corners_place) (row_at c.args.numbers.now scale_place) (row_at c.args.numbers.now window_place) ≡ true = sym c.settings_here.ensures ∙ c.if-not-settings_here.false in
    let e3 : carriage_sound (settings_at c.args.numbers.now) (row_at c.args.numbers.now position_place) (row_at c.args.numbers.now pen_place) (row_at c.args.numbers.now polygon_place) (row_at c.args.numbers.now first_place) (row_at c.args.numbers.now saved_place) (row_at c.args.numbers.now memory_place) ≡ true = sym c.carriage_here.ensures ∙ c.if-not-carriage_here.false in
    let e4 : known_sound (row_at c.args.numbers.now 0) (row_at c.args.numbers.now polygon_place) ≡ true = sym c.known_here.ensures ∙ c.if-not-known_here.false in
    let e5 : work_sound (row_at c.args.numbers.now work_place) (row_at c.args.numbers.now across_place) (row_at c.args.numbers.now along_place) (row_at c.args.numbers.now start_place) ≡ true = sym c.work_here.ensures ∙ c.if-not-work_here.false in
    let e6 : inked_sound (row_at c.args.numbers.now pen_place) (row_at c.args.numbers.now work_place) ≡ true = sym c.inked_here.ensures ∙ c.if-not-inked_here.false in
    rw (e1, e2, e3, e4, e5, e6) c.edges_here.ensures
