-- "While a segment waits, draw if the list has a free record, else stop with 21": said once, for feed and for plot. A is what they answer.
use Rattle.std.specs.Prelude.{ℕ, zero, suc, Bool, eqb}
use Rattle.hpgl.specs.declared.State.{State}
use Rattle.hpgl.specs.declared.Stroke.{Stroke}
use Rattle.hpgl.specs.declared.Drawn.{Drawn}
use Rattle.hpgl.specs.declared.Drawn.TheVariants as drawn
use Rattle.hpgl.specs.Numbers.{busy}
use Rattle.hpgl.specs.Machine.{draw_state, draw_answer}

-- "Causes and numbers": feed, list full
abbrev pub list_full : ℕ
list_full = 21

-- "While a reply waits a byte is refused with 20; feed stops there and does not count it" (document 02, CR 5): a byte with this number is not taken
unfoldable pub untaken : ℕ → Bool
untaken n = eqb n busy

-- a draw with r + 1 records free: a stroke uses one, a hidden segment none; `rest` goes on with those that are left, and `store` puts the stroke before it
abbrev pub drew_by : {A : Type 0} → (Stroke → A → A) → Drawn → ℕ → (ℕ → A) → A
drew_by store (drawn.Stroke s) r rest = store s (rest r)
drew_by store drawn.Hidden r rest = rest (suc r)
drew_by store drawn.Idle r rest = rest (suc r)

-- k segments wait and r records are free; `drew` is a draw as above, `full` where it stops, and `idle` goes on once none waits
abbrev pub draw_off_by : {A : Type 0} → (Drawn → ℕ → (ℕ → A) → A) → (State → A) → ℕ → State → ℕ → (State → ℕ → A) → A
draw_off_by drew full zero m r idle = idle m r
draw_off_by drew full (suc k) m zero idle = full m
draw_off_by drew full (suc k) m (suc r) idle = drew (draw_answer m) r (λ q. draw_off_by drew full k (draw_state m) q idle)
