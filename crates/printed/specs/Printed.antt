-- What the program strokes prints (document 01, at the end of "Checked figures"): a line for each stroke, and one for each byte that is refused; and each reply
-- (document 02, CR 5).
use Rattle.std.specs.Prelude.{ℕ, zero, suc, ◌+◌, List, [], ◌∷◌, ◌++◌, pos}
use Rattle.hpgl.specs.declared.State.{State}
use Rattle.hpgl.specs.declared.Stroke.{Stroke}
use Rattle.hpgl.specs.declared.Drawn.{Drawn}
use Rattle.hpgl.specs.declared.Drawn.TheVariants as drawn
use Rattle.hpgl.specs.Numbers.{most_reply}
use Rattle.hpgl.specs.Machine.{waiting, take_state, take_number, draw_state, draw_answer, fetch_state, fetch_text}
use Rattle.textlines.specs.Text.{stroke_text, refusal_text}

abbrev pub stroke_line : Stroke → List ℕ
stroke_line s = stroke_text (pos s.pen) s.x0 s.y0 s.x1 s.y1

-- the line of a draw: a hidden segment has none
unfoldable pub drawn_line : Drawn → List ℕ
drawn_line (drawn.Stroke s) = stroke_line s
drawn_line drawn.Hidden = []
drawn_line drawn.Idle = []

-- the line of a byte, with the number that take answers for it: one that is not refused has none
unfoldable pub byte_line : ℕ → ℕ → List ℕ
byte_line zero byte = []
byte_line (suc n) byte = refusal_text (suc n) byte

-- the lines of the k segments that wait; `idle` goes on once none waits
unfoldable pub drawn_lines : ℕ → State → (State → List ℕ) → List ℕ
drawn_lines zero m idle = idle m
drawn_lines (suc k) m idle = drawn_line (draw_answer m) ++ drawn_lines k (draw_state m) idle

-- the line of the byte b, with n bytes before it; `next` goes on once it is taken
abbrev pub taken_line : ℕ → ℕ → State → (State → List ℕ) → List ℕ
taken_line b n m next = byte_line (take_number m b) (n + 1) ++ next (take_state m b)

-- "The program *strokes* fetches and prints each reply as soon as it is made": once no segment waits, and before another byte is taken; `next` goes on then. The
-- buffer takes every reply (`reply-short` in ReplyLaws.antt of hpgl)
abbrev pub reply_line : State → (State → List ℕ) → List ℕ
reply_line m next = fetch_text m most_reply ++ next (fetch_state m most_reply)

-- the lines of a machine that is given these bytes, with n bytes before them: each is taken once no segment and no reply waits
unfoldable pub printed : State → List ℕ → ℕ → List ℕ
printed m [] n = drawn_lines (waiting m.work) m (λ i. reply_line i (λ j. []))
printed m (b ∷ bs) n = drawn_lines (waiting m.work) m (λ i. reply_line i (λ j. taken_line b n j (λ k. printed k bs (n + 1))))
