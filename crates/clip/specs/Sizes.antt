-- Proofs only, for the code: how large each value is that it makes, from coordinates within reach. A choice is as large as its larger side.
use Rattle.std.specs.Prelude.{◌≡◌, Bool, true, false, cond, ℕ, ◌<◌, ◌^◌, ℤ, pos}
use Rattle.std.proofs.Common.{◌∙◌, zero-le}
use Rattle.std.specs.Int.Signed.{mag}
use Rattle.std.specs.Int.{w64}
use mir.Val.{hbits}
use Rattle.exact.specs.Whole.{◌<?◌}
use Rattle.exact.specs.Fit.{Bd, Num, m64, val, got, ret, lit, bd-le, bd-neg, ◌⊞◌, ◌⊟◌, ◌⊠◌}
use Rattle.clip.specs.Clip.{extent, steps, axis_entry, larger, entry, toward, axis_place}
use Rattle.clip.specs.Reach.{reach, most_extent, most_steps, SmallPoint, SmallRect}
use Rattle.clip.specs.declared.Point.{Point}
use Rattle.clip.specs.declared.Rect.{Rect}

cond-size : (t : Bool) {a b : ℤ} {n : ℕ} → Bd a n → Bd b n → Bd (cond t a b) n
cond-size true h k = h
cond-size false h k = k

extent-size : {p q : ℤ} → Bd p reach → Bd q reach → Bd (extent p q) most_extent
unfolding extent
extent-size {p} {q} h k = cond-size (p <? q) (k ⊟ h) (cond-size (q <? p) (h ⊟ k) (bd-le (lit (pos 1)) tt))

-- what the code's call returned, of two coordinates
pub extent-num : {p q z : ℤ} → Bd p reach → Bd q reach → mag z < 2 ^ hbits w64 → z ≡ extent (m64 p) (m64 q) → Num (m64 z) (extent p q) most_extent
extent-num h k ok e = let p = val w64 h tt in let q = val w64 k tt in ret w64 ok (e ∙ (λ i. extent (p.is i) (q.is i))) (extent-size h k)

pub steps-size : {a b : Point} → SmallPoint a → SmallPoint b → Bd (steps a b) most_steps
unfolding steps
steps-size h k = extent-size h.x k.x ⊠ extent-size h.y k.y

axis-entry-size : {lo hi p : ℤ} (q : ℤ) {u : ℤ} → Bd lo reach → Bd hi reach → Bd p reach → Bd u most_extent → Bd (axis_entry lo hi p q u) most_steps
unfolding axis_entry
axis-entry-size {lo} {hi} {p} q l h k m =
    let out = bd-le (m ⊞ lit (pos 1)) tt in
    cond-size (p <? q) ((l ⊟ k) ⊠ m) (cond-size (q <? p) ((k ⊟ h) ⊠ m) (cond-size (p <? lo) out (cond-size (hi <? p) out (bd-le (lit (pos 0)) tt))))

pub axis-entry-num : {lo hi p q u' u z : ℤ} → Bd lo reach → Bd hi reach → Bd p reach → Bd q reach → Num u' u most_extent →
    mag z < 2 ^ hbits w64 → z ≡ axis_entry (m64 lo) (m64 hi) (m64 p) (m64 q) u' → Num (m64 z) (axis_entry lo hi p q u) most_steps
axis-entry-num {q = q} l h k m u ok e =
    let l' = val w64 l tt in
    let h' = val w64 h tt in
    let p' = val w64 k tt in
    let q' = val w64 m tt in
    ret w64 ok (e ∙ (λ i. axis_entry (l'.is i) (h'.is i) (p'.is i) (q'.is i) (u.is i))) (axis-entry-size q l h k u.size)

larger-size : {a b : ℤ} {n : ℕ} → Bd a n → Bd b n → Bd (larger a b) n
unfolding larger
larger-size {a} {b} h k = cond-size (a <? b) k h

pub entry-size : {r : Rect} {a b : Point} → SmallRect r → SmallPoint a → SmallPoint b → Bd (entry r a b) most_steps
unfolding entry
entry-size {b = b} h k l =
    larger-size (bd-le (lit (pos 0)) tt)
    (larger-size (axis-entry-size b.x h.left h.right k.x (extent-size k.y l.y)) (axis-entry-size b.y h.bottom h.top k.y (extent-size k.x l.x)))

pub toward-size : (p q : ℤ) {m : ℤ} {n : ℕ} → Bd m n → Bd (toward p q m) n
unfolding toward
toward-size p q h = cond-size (p <? q) h (cond-size (q <? p) (bd-neg h) (record { bd = zero-le }))

pub axis-place-is : {p q u' u m z : ℤ} → Bd p reach → Bd q reach → Num u' u most_extent → Bd m most_steps →
    mag z < 2 ^ hbits w64 → z ≡ axis_place (m64 p) (m64 q) u' (m64 m) → m64 z ≡ axis_place p q u m
axis-place-is h k u m ok e =
    let p' = val w64 h tt in
    let q' = val w64 k tt in
    let m' = val w64 m tt in
    got w64 ok ∙ e ∙ (λ i. axis_place (p'.is i) (q'.is i) (u.is i) (m'.is i))
