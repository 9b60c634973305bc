-- What a run of bytes answers: each byte is taken, then a reply that waits is fetched, and all that waits is drawn. For figures and examples.
use Rattle.std.specs.Prelude.{ℕ, zero, suc, ◌+◌, cond, List, [], ◌∷◌, ◌++◌}
use Prim.Native.Char.{code}
use Prim.Native.String.{String, len, char_at}
use Rattle.clip.specs.declared.Rect.{Rect}
use Rattle.hpgl.specs.declared.State.{State}
use Rattle.hpgl.specs.Machine.{fresh_state, waiting, replying, take_state, take_number, draw_state, draw_answer, look_at, fetch_state, fetch_text}
pub use Rattle.hpgl.specs.Values.{Out, refused, stroke, hidden, idle, seen, reply}
unfoldable pub use Rattle.hpgl.specs.Values.{drawn_values, look_values}

-- a text's bytes
unfoldable pub bytes_from : String → ℕ → ℕ → List ℕ
bytes_from s i zero = []
bytes_from s i (suc n) = code (char_at s i) ∷ bytes_from s (i + 1) n

unfoldable pub bytes : String → List ℕ
bytes s = bytes_from s 0 (len s)

-- n draws, and the machine after them
unfoldable pub draws : ℕ → State → List Out
draws zero m = []
draws (suc n) m = drawn_values (draw_answer m) ∷ draws n (draw_state m)

unfoldable pub drawn_off : ℕ → State → State
drawn_off zero m = m
drawn_off (suc n) m = drawn_off n (draw_state m)

unfoldable pub refusal : ℕ → ℕ → List Out
refusal zero k = []
refusal (suc n) k = refused (suc n) k ∷ []

-- a buffer that every reply fits into
abbrev pub buffer : ℕ
buffer = 64

unfoldable pub fetched : State → List Out
fetched m = cond (replying m.work) (reply (fetch_text m buffer) ∷ []) []

-- the bytes after the first k
unfoldable pub trace_from : ℕ → State → List ℕ → List Out
trace_from k m [] = look_values (look_at m) ∷ []
trace_from k m (b ∷ bs) =
    let t : State = take_state m b in
    let u : State = fetch_state t buffer in
    refusal (take_number m b) (k + 1) ++ (fetched t ++ (draws (waiting u.work) u ++ trace_from (k + 1) (drawn_off (waiting u.work) u) bs))

unfoldable pub trace : Rect → String → List Out
trace r s = trace_from 0 (fresh_state r) (bytes s)
