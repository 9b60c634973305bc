-- What each call leaves, whatever lists it was handed.
use Rattle.std.specs.Prelude.{ℕ, ◌/◌, cond, List, [], ◌∷◌, eqb, ℤ, length}
use Rattle.rows.specs.Rows.{over}
use Rattle.clip.specs.declared.Rect.{Rect}
use Rattle.hpgl.specs.Machine.{fresh_state, fresh_number, take_state, take_number, draw_state, draw_answer, look_at, fetch_state, fetch_number, fetch_text, fetch_out}
use Rattle.feeding.specs.Feed.{feed_of, laid_numbers}
use Rattle.feeding.specs.Plot.{plot_from, laid_marks}
use Rattle.answers.specs.Answers.{drawn_kind, drawn_numbers, look_numbers, counts_of, mark_counts_of}
use Rattle.redrawn.specs.Redrawn.{written_of, length_in, number_in, output_of, strokes_in}
use Rattle.readiness.specs.Ready.{too_short, list_numbers, list_of, machine_in, ready_of}

-- where a call is refused, every list is as it was

pub record StateLeft : Type 0 where
  pub number : ℕ
  pub state : List ℤ

unfoldable pub fresh_call : Rect → List ℤ → StateLeft
fresh_call r zs =
    cond (eqb (length zs) list_numbers) (record { number = fresh_number r; state = list_of (fresh_state r) })
    (record { number = too_short; state = zs })

unfoldable pub take_call : List ℤ → ℕ → StateLeft
take_call zs b =
    let m = machine_in zs in
    cond (eqb (ready_of zs 0 0) 0) (record { number = take_number m b; state = list_of (take_state m b) })
    (record { number = ready_of zs 0 0; state = zs })

pub record DrawLeft : Type 0 where
  pub number : ℕ
  pub state : List ℤ
  pub stroke : List ℤ

unfoldable pub draw_call : List ℤ → List ℤ → DrawLeft
draw_call zs lent =
    let m = machine_in zs in
    cond (eqb (ready_of zs 5 (length lent)) 0)
    (record { number = drawn_kind (draw_answer m); state = list_of (draw_state m); stroke = over lent 0 (drawn_numbers (draw_answer m)) })
    (record { number = ready_of zs 5 (length lent); state = zs; stroke = lent })

pub record LookLeft : Type 0 where
  pub number : ℕ
  pub seen : List ℤ

unfoldable pub look_call : List ℤ → List ℤ → LookLeft
look_call zs lent =
    cond (eqb (ready_of zs 5 (length lent)) 0) (record { number = 0; seen = over lent 0 (look_numbers (look_at (machine_in zs))) })
    (record { number = ready_of zs 5 (length lent); seen = lent })

pub record FetchLeft : Type 0 where
  pub number : ℕ
  pub state : List ℤ
  pub out : List ℕ
  pub answer : List ℕ

-- the answer is how many bytes were written
unfoldable pub fetch_call : List ℤ → List ℕ → List ℕ → FetchLeft
fetch_call zs out answer =
    let m = machine_in zs in
    cond (eqb (ready_of zs 1 (length answer)) 0)
    (record { number = fetch_number m (length out); state = list_of (fetch_state m (length out)); out = fetch_out m out; answer = over answer 0 (length (fetch_text m (length out)) ∷ []) })
    (record { number = ready_of zs 1 (length answer); state = zs; out = out; answer = answer })

pub record FeedLeft : Type 0 where
  pub number : ℕ
  pub state : List ℤ
  pub records : List ℤ
  pub answer : List ℕ

unfoldable pub feed_call : List ℤ → List ℕ → List ℤ → List ℕ → FeedLeft
feed_call zs bytes records answer =
    let f = feed_of (machine_in zs) bytes (length records / 5) in
    cond (eqb (ready_of zs 2 (length answer)) 0)
    (record { number = f.number; state = list_of f.state; records = laid_numbers f.strokes records; answer = over answer 0 (counts_of f) })
    (record { number = ready_of zs 2 (length answer); state = zs; records = records; answer = answer })

unfoldable pub plot_call : List ℤ → List ℕ → List ℤ → List ℕ → FeedLeft
plot_call zs bytes records answer =
    let f = plot_from (machine_in zs) bytes 0 (length records / 5) in
    cond (eqb (ready_of zs 2 (length answer)) 0)
    (record { number = f.number; state = list_of f.state; records = laid_marks f.marks records; answer = over answer 0 (mark_counts_of f) })
    (record { number = ready_of zs 2 (length answer); state = zs; records = records; answer = answer })

pub record WriteLeft : Type 0 where
  pub number : ℕ
  pub out : List ℕ
  pub answer : List ℕ

-- strokes as HP-GL (document 02, CR 6): five numbers for each stroke; the answer has the length of the text
unfoldable pub write_call : List ℤ → List ℕ → List ℕ → WriteLeft
write_call numbers out answer =
    let w = written_of (strokes_in numbers) (length out) in
    cond (eqb (length answer) 0) (record { number = too_short; out = out; answer = answer })
    (record { number = number_in w; out = output_of (strokes_in numbers) out; answer = over answer 0 (length_in w ∷ []) })
