-- What is written is read back: a valid machine, whole.
-- Why: each row is read where it was written, each flag is 0 or 1, and each number of a valid machine fits its width.
use Rattle.std.specs.Prelude.{◌≡◌, refl, List, [], ◌∷◌, ℕ, ◌+◌, ◌*◌, ◌≤◌, ℤ, pos, length, drop}
use Rattle.std.proofs.Common.{sym, ap₂, ◌∙◌, add-zero, arith, get_or-drop, drop-drop}
use Rattle.std.proofs.Math.Path.{ap}
use Rattle.std.proofs.Math.ListN.{get_or}
use Rattle.exact.specs.Whole.{◌≤?◌}
use Rattle.rows.specs.declared.Row.{Row}
use Rattle.rows.specs.Rows.{lay, row_at, over, small_of, most_byte, most_short}
use Rattle.rows.specs.RowLaws.{flag-back, small-back, place-back}
use Rattle.reader.specs.Sizes.{Readable}
use Rattle.saved.specs.Places.{work_place, edges_place}
use Rattle.saved.specs.SavedReader.{reader_at, reader-back}
use Rattle.hpgl.specs.declared.Edge.{Edge}
use Rattle.hpgl.specs.declared.Work.{Work}
use Rattle.hpgl.specs.declared.Work.TheVariants.{Nothing, Line, Chords, Edges, Answer}
use Rattle.hpgl.specs.declared.State.{State}
use Rattle.hpgl.specs.Numbers.{most_edges}
use Rattle.hpgl.specs.Change.{with_work}
use Rattle.hpgl.specs.Valid.{ValidSettings, ValidCore, ReplyCount, one, three, four, ValidWork, Valid}
use Rattle.hpgl.proofs.RepliesKept.{recalled-least}
use Rattle.saved.specs.Saved.{state_numbers, flag_in, small_in, limits_row, corners_row, scale_row, window_row, box_of, from_of, to_of, range_x, range_y, settings_of, settings_at, position_row, pen_row, polygon_row, memory_row, position_of, pen_of, pm0_of, polygon_of, memory_of, carriage_of, carriage_at, blank_row, line_row, chords_row, edges_row, reply_row, count_row, across_row, along_row, start_row, work_row, work_across, work_along, work_start, work_numbers, centre_of, way_of, angle_in, circle_of, reply_of, work_of, work_at, edge_row, edges_numbers, edge_of, edges_from, store_at, saved_of, loaded_of}

-- ---- the parts, each from its place on

reader-saved : (m : State) → Readable m.reader → reader_at (saved_of m) ≡ m.reader
unfolding saved_of
reader-saved m v = reader-back m.reader _ v

settings-back : (m : State) → ValidSettings m.core.settings → settings_at (saved_of m) ≡ m.core.settings
unfolding saved_of settings_at settings_of row_at box_of from_of to_of range_x range_y flag_in small_in limits_row corners_row scale_row window_row
settings-back m v =
    let s = m.core.settings in
    λ i. record {
      hard = s.hard;
      p1 = s.p1;
      p2 = s.p2;
      scale = record { on = flag-back s.scale.on i; x = s.scale.x; y = s.scale.y };
      turn = place-back s.turn (omega (arith, v.turn)) i;
      window = record { set = flag-back s.window.set i; area = s.window.area };
    }

carriage-back : (m : State) → ValidCore m.core → carriage_at (saved_of m) ≡ m.core.carriage
unfolding saved_of carriage_at carriage_of row_at position_of pen_of pm0_of polygon_of memory_of flag_in position_row pen_row polygon_row memory_row
carriage-back m v =
    let c = m.core.carriage in
    let g = c.polygon in
    λ i. record {
      position = c.position;
      pen = record { number = small-back most_byte c.pen.number (omega (arith, v.pen)) i; down = flag-back c.pen.down i; changed = flag-back c.pen.changed i };
      relative = flag-back c.relative i;
      polygon = record {
        mode = flag-back g.mode i;
        bytes = small-back most_short g.bytes (omega (arith, v.polygon.bytes)) i;
        edges = small-back most_byte g.edges (omega (arith, v.polygon.edges)) i;
        empty = flag-back g.empty i;
        first = g.first;
        saved = record { position = g.saved.position; relative = flag-back g.saved.relative i; down = flag-back g.saved.down i };
      };
      memory = record { refusal = small-back most_byte c.memory.refusal (omega (arith, recalled-least v.memory)) i };
    }

count-least : {k : ℕ} → ReplyCount k → k ≤ 4
count-least one = omega arith
count-least three = omega arith
count-least four = omega arith

work-read : (w : Work) → ValidWork w → work_of (work_row w) (work_across w) (work_along w) (work_start w) ≡ w
unfolding work_of work_row work_across work_along work_start blank_row line_row chords_row edges_row reply_row count_row across_row along_row start_row circle_of reply_of centre_of way_of angle_in from_of to_of small_in small_of ◌≤?◌
work-read Nothing v = refl
work-read (Line p q) v = refl
work-read (Chords o i n) v =
    λ j. Chords (record { x = o.x; y = o.y; radius = o.radius; angle = small-back most_short o.angle (omega (arith, v.0.most)) j; start = o.start; sweep = o.sweep }) (small-back most_short i (omega (arith, v.1)) j) (small-back most_short n (omega (arith, v.1)) j)
work-read (Edges i n) v = λ j. Edges (small-back most_byte i (omega (arith, v)) j) (small-back most_byte n (omega (arith, v)) j)
work-read (Answer r) v =
    λ j. Answer (record { count = small-back most_byte r.count (omega (arith, count-least v.count)) j; first = r.first; second = r.second; third = r.third; fourth = r.fourth })

work-back : (m : State) → ValidWork m.work → work_at (saved_of m) ≡ m.work
unfolding saved_of work_at row_at
work-back m v = work-read m.work v

-- ---- the edges

edge-read : (e : Edge) → edge_of (edge_row e) ≡ e
unfolding edge_of edge_row from_of to_of flag_in
edge-read e = λ i. record { from = e.from; to = e.to; down = flag-back e.down i }

module _ (zs : List ℤ) (i : ℕ) (r : Row) (ys : List ℤ) (h : drop i zs ≡ lay r ys) where
  number-here : (k : ℕ) → get_or zs (i + k) (pos 0) ≡ get_or (lay r ys) k (pos 0)
  number-here k = sym (get_or-drop i zs k (pos 0)) ∙ ap (λ (l : List ℤ). get_or l k (pos 0)) h

  row_here : row_at zs i ≡ r
  unfolding row_at
  row_here =
      let first = ap (λ (k : ℕ). get_or zs k (pos 0)) (sym (add-zero i)) ∙ number-here 0 in
      λ j. record { a = first j; b = number-here 1 j; c = number-here 2 j; d = number-here 3 j; e = number-here 4 j }

  rest-here : drop (i + 5) zs ≡ ys
  rest-here = sym (drop-drop 5 i zs) ∙ ap (drop 5) h

edges-read : (es : List Edge) (zs : List ℤ) (i : ℕ) → drop i zs ≡ edges_numbers es → edges_from zs i (length es) ≡ es
unfolding edges_numbers edges_from
edges-read [] zs i h = refl
edges-read (e ∷ es) zs i h =
    let r = edge_row e in
    let ys = edges_numbers es in
    ap₂ (λ (f : Edge) (fs : List Edge). f ∷ fs) (ap edge_of (row_here zs i r ys h) ∙ edge-read e) (edges-read es zs (i + 5) (rest-here zs i r ys h))

store-back : (m : State) → length m.store.edges ≡ most_edges → store_at (saved_of m) ≡ m.store
unfolding store_at saved_of
store-back m h =
    let all = ap (edges_from (saved_of m) edges_place) (sym h) ∙ edges-read m.store.edges (saved_of m) edges_place refl in
    λ i. record { edges = all i }

edges-length : (es : List Edge) → length (edges_numbers es) ≡ length es * 5
unfolding edges_numbers
edges-length [] = refl
edges-length (e ∷ es) = let h = edges-length es in omega arith

-- ---- the machine

pub saved-back : (m : State) → Valid m → loaded_of (saved_of m) ≡ m
unfolding loaded_of
saved-back m v = λ i. record {
  reader = reader-saved m v.reader i;
  core = record { settings = settings-back m v.core.settings i; carriage = carriage-back m v.core i };
  store = store-back m v.length i;
  work = work-back m v.work i;
}

pub saved-length : (m : State) → length m.store.edges ≡ most_edges → length (saved_of m) ≡ state_numbers
unfolding saved_of
saved-length m e = let h = edges-length m.store.edges in omega (arith, h, e)

-- another work changes the work's rows, and no other
pub saved-work : (m : State) (w : Work) → over (saved_of m) work_place (work_numbers w) ≡ saved_of (with_work m w)
unfolding saved_of work_numbers over
saved-work m w = refl
