-- A list passes the tests just if it is what save writes of a usable machine; and so what it holds is usable, and every machine of the calls passes.
use Rattle.std.specs.Prelude.{◌≡◌, refl, true, ◌&&◌, List, ℕ, ◌+◌, ◌≤◌, ℤ, length, drop}
use Rattle.std.proofs.Common.{sym, ap, ◌∙◌, arith}
use Rattle.rows.specs.declared.Row.{Row}
use Rattle.rows.specs.Rows.{lay, row_at}
use Rattle.seal.specs.Light.{row_drop}
use Rattle.reader.specs.Sizes.{Readable}
use Rattle.hpgl.specs.declared.State.{State}
use Rattle.hpgl.specs.declared.Settings.{Settings}
use Rattle.hpgl.specs.declared.Carriage.{Carriage}
use Rattle.hpgl.specs.Valid.{Knows, Valid, Usable}
use Rattle.hpgl.specs.Made.{Made}
use Rattle.hpgl.proofs.ValidFacts.{and_both}
use Rattle.hpgl.proofs.ValidKept.{made-usable}
use Rattle.saved.specs.Places.{limits_place, corners_place, scale_place, window_place, position_place, pen_place, polygon_place, first_place, saved_place, memory_place, work_place, across_place, along_place, start_place, edges_place}
use Rattle.saved.specs.SavedReader.{numbers_row, number_row, reader_of, reader_at}
use Rattle.saved.specs.Saved.{state_numbers, settings_of, settings_at, position_row, pen_row, polygon_row, memory_row, pen_of, pm0_of, polygon_of, carriage_of, carriage_at, work_at, store_at, saved_of, loaded_of}
use Rattle.saved.proofs.SavedLaws.{saved-back}
use Rattle.wellformed.specs.Sound.{reader_sound, place_sound, numbers_sound, number_sound, settings_sound, carriage_sound, known_sound, work_sound, inked_sound, edges_sound, sound_of}
use Rattle.wellformed.specs.RowTests.{both}
use Rattle.wellformed.proofs.PartLaws as part
use Rattle.wellformed.proofs.WorkLaws as last

-- the reader's three rows
record ReaderLaw (place numbers number : Row) : Type 0 where
  its-place : part.PlaceLaw place
  valid : Readable (reader_of place numbers number)
  its-numbers : numbers_row (reader_of place numbers number).numbers ≡ numbers
  its-number : number_row (reader_of place numbers number).number ≡ number

reader-law : (place numbers number : Row) → reader_sound place numbers number ≡ true → ReaderLaw place numbers number
unfolding reader_sound reader_of
reader-law place numbers number t =
    let t1 = and_both (place_sound place) (numbers_sound numbers && number_sound number) t in
    let t2 = and_both (numbers_sound numbers) (number_sound number) t1.1 in
    let p = part.place-law place t1.0 in
    let n = part.numbers-law numbers t2.0 in
    let o = part.number-law number t2.1 in
    record { its-place = p; valid = record { mode = p.mode; op = p.op; numbers = n.0; number = o.0 }; its-numbers = n.1; its-number = o.1 }

-- ---- a list that passes

pub record Passed (zs : List ℤ) : Type 0 where
  pub usable : Usable (loaded_of zs)
  pub same : saved_of (loaded_of zs) ≡ zs

-- a list of that length, row by row
by_rows : (zs : List ℤ) → length zs ≡ state_numbers →
    zs ≡ lay (row_at zs 0) (lay (row_at zs 5) (lay (row_at zs 10)
    (lay (row_at zs limits_place) (lay (row_at zs corners_place) (lay (row_at zs scale_place) (lay (row_at zs window_place)
    (lay (row_at zs position_place) (lay (row_at zs pen_place) (lay (row_at zs polygon_place) (lay (row_at zs first_place) (lay (row_at zs saved_place) (lay (row_at zs memory_place)
    (lay (row_at zs work_place) (lay (row_at zs across_place) (lay (row_at zs along_place) (lay (row_at zs start_place) (drop edges_place zs)))))))))))))))))
by_rows zs e =
    row_of 0 (omega (arith, e)) ∙ ap (lay (row_at zs 0))
    (row_of 5 (omega (arith, e)) ∙ ap (lay (row_at zs 5))
    (row_of 10 (omega (arith, e)) ∙ ap (lay (row_at zs 10))
    (row_of limits_place (omega (arith, e)) ∙ ap (lay (row_at zs limits_place))
    (row_of corners_place (omega (arith, e)) ∙ ap (lay (row_at zs corners_place))
    (row_of scale_place (omega (arith, e)) ∙ ap (lay (row_at zs scale_place))
    (row_of window_place (omega (arith, e)) ∙ ap (lay (row_at zs window_place))
    (row_of position_place (omega (arith, e)) ∙ ap (lay (row_at zs position_place))
    (row_of pen_place (omega (arith, e)) ∙ ap (lay (row_at zs pen_place))
    (row_of polygon_place (omega (arith, e)) ∙ ap (lay (row_at zs polygon_place))
    (row_of first_place (omega (arith, e)) ∙ ap (lay (row_at zs first_place))
    (row_of saved_place (omega (arith, e)) ∙ ap (lay (row_at zs saved_place))
    (row_of memory_place (omega (arith, e)) ∙ ap (lay (row_at zs memory_place))
    (row_of work_place (omega (arith, e)) ∙ ap (lay (row_at zs work_place))
    (row_of across_place (omega (arith, e)) ∙ ap (lay (row_at zs across_place))
    (row_of along_place (omega (arith, e)) ∙ ap (lay (row_at zs along_place)) (row_of start_place (omega (arith, e))))))))))))))))))
  where
    row_of : (i : ℕ) → i + 5 ≤ length zs → drop i zs ≡ lay (row_at zs i) (drop (i + 5) zs)
    row_of i h = row_drop zs i h

pub sound-passed : (zs : List ℤ) → length zs ≡ state_numbers → sound_of zs ≡ true → Passed zs
unfolding sound_of loaded_of saved_of reader_at reader_of settings_at settings_of carriage_at carriage_of pen_of polygon_of pm0_of work_at store_at Knows
sound-passed zs e t =
    let reader = reader_sound (row_at zs 0) (row_at zs 5) (row_at zs 10) in
    let settings = settings_sound (row_at zs limits_place) (row_at zs corners_place) (row_at zs scale_place) (row_at zs window_place) in
    let carriage = carriage_sound (settings_of (row_at zs limits_place) (row_at zs corners_place) (row_at zs scale_place) (row_at zs window_place)) (row_at zs position_place) (row_at zs pen_place) (row_at zs polygon_place) (row_at zs first_place) (row_at zs saved_place) (row_at zs memory_place) in
    let known = known_sound (row_at zs 0) (row_at zs polygon_place) in
    let work = work_sound (row_at zs work_place) (row_at zs across_place) (row_at zs along_place) (row_at zs start_place) in
    let inked = inked_sound (row_at zs pen_place) (row_at zs work_place) in
    let edges = edges_sound zs edges_place 112 in
    let t1 = and_both reader (settings && (carriage && (known && (work && (inked && edges))))) t in
    let t2 = and_both settings (carriage && (known && (work && (inked && edges)))) t1.1 in
    let t3 = and_both carriage (known && (work && (inked && edges))) t2.1 in
    let t4 = and_both known (work && (inked && edges)) t3.1 in
    let t5 = and_both work (inked && edges) t4.1 in
    let t6 = and_both inked edges t5.1 in
    let r = reader-law (row_at zs 0) (row_at zs 5) (row_at zs 10) t1.0 in
    let s = part.settings-law (row_at zs limits_place) (row_at zs corners_place) (row_at zs scale_place) (row_at zs window_place) t2.0 in
    let c = part.carriage-law (row_at zs position_place) (row_at zs pen_place) (row_at zs polygon_place) (row_at zs first_place) (row_at zs saved_place) (row_at zs memory_place) s.valid t3.0 in
    let w = last.work-law (row_at zs work_place) (row_at zs across_place) (row_at zs along_place) (row_at zs start_place) t5.0 in
    let d = last.edges-law zs edges_place 112 t6.1 (omega (arith, e)) in
    record {
      usable = record {
        valid = record { reader = r.valid; known = last.known-law (row_at zs 0) (row_at zs polygon_place) r.its-place t4.0; core = c.valid; edges = d.0; length = d.2; work = w.valid };
        inked = record { pen = last.inked-law (row_at zs work_place) (row_at zs across_place) (row_at zs along_place) (row_at zs start_place) (row_at zs pen_place) t6.0 c.pen-low c.pen-high };
      };
      same =
          (λ j. lay (r.its-place.same j) (lay (r.its-numbers j) (lay (r.its-number j)
          (lay (s.limits j) (lay (s.corners j) (lay (s.scale j) (lay (s.window j)
          (lay (c.position j) (lay (c.its-pen j) (lay (c.its-polygon j) (lay (c.its-first j) (lay (c.its-saved j) (lay (c.its-memory j)
          (lay (w.its-row j) (lay (w.its-across j) (lay (w.its-along j) (lay (w.its-start j) (d.1 j))))))))))))))))))
          ∙ sym (by_rows zs e);
    }

-- ---- what a machine is saved as passes: nobody is kept out

settings-back : (m : State) → Valid m → settings_at (saved_of m) ≡ m.core.settings
unfolding loaded_of
settings-back m v = ap (λ (x : State). x.core.settings) (saved-back m v)

pub usable-sound : {m : State} → Usable m → sound_of (saved_of m) ≡ true
unfolding sound_of reader_sound row_at saved_of Knows
usable-sound {m} u =
    let v = u.valid in
    both (both (part.place_of m.reader.mode m.reader.op v.reader.mode v.reader.op) (both (part.numbers_sound-of m.reader.numbers v.reader.numbers) (part.number-of m.reader.number v.reader.number)))
    (both (part.settings-of m.core.settings v.core.settings)
    (both (ap (λ (s : Settings). carriage_sound s (position_row k.position k.relative) (pen_row k.pen) (polygon_row k.polygon) (position_row k.polygon.first k.polygon.empty) (position_row k.polygon.saved.position k.polygon.saved.relative) (memory_row k.memory)) (settings-back m v) ∙ part.carriage-of m.core.settings k v.core)
    (both (last.known_of m.reader.mode m.reader.op m.core.carriage.polygon v.reader.op v.known)
    (both (last.work-of m.work v.work)
    (both (last.inked-of m.core.carriage.pen m.work u.inked.pen) (ap (edges_sound (saved_of m) edges_place) (sym v.length) ∙ last.edges-of m.store.edges (saved_of m) edges_place refl v.edges))))))
  where
    k : Carriage
    k = m.core.carriage

-- and so every machine that the calls make
pub made-sound : {m : State} → Made m → sound_of (saved_of m) ≡ true
made-sound h = usable-sound (made-usable h)
