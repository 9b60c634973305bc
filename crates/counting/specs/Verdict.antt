-- Whether a drawing is fit to paint.
use Rattle.std.specs.Option.{is_some}
use Rattle.std.specs.Prelude.{Option, Some, None, Bool, true, false, cond, List, [], ◌∷◌, ◌≡◌, ℕ, ltb}
use Rattle.console.specs.Sums.{added}
use Rattle.clip.specs.declared.Rect.{Rect}
use Rattle.measure.specs.Root.{narrow_of}
use Rattle.counting.specs.declared.refusals.Refusals.{Refusals}
use Rattle.counting.specs.declared.tally.Tally.{Tally}
use Rattle.counting.specs.Refusals.{harm_in}

-- segments of which the limits leave a part or nothing
abbrev pub cut_off : Tally → ℕ
cut_off t = added t.clipped t.hidden

-- every segment, by what the limits leave of it
abbrev pub segments_of : Tally → ℕ
segments_of t = added t.whole (cut_off t)

-- how many refusals change the drawing: an escape sequence that is broken off is none, so that its refusals are not harmless, and counts as one
unfoldable pub harms_of : Refusals → ℕ → ℕ
harms_of r broken = harm_in r.groups (added r.others broken)

-- no refusal changes the drawing, no line type has numbers, no line is lost to pen 0, nothing is cut off, it was read to its end, and something is painted
unfoldable pub fit_of : Tally → Refusals → ℕ → ℕ → ℕ → Bool → Bool → Bool
fit_of t r broken types lost unended unread =
    cond (ltb 0 (harms_of r broken)) false
    (cond (ltb 0 types) false
    (cond (ltb 0 lost) false
    (cond (ltb 0 (cut_off t)) false
    (cond unended false
    (cond unread false
    (is_some t.paint.end))))))

-- what "fit to paint" says, in both directions: of refusals, that those of harmful groups and those without a group are none
pub record Fit (t : Tally) (r : Refusals) (broken types lost : ℕ) (unended unread : Bool) : Type 0 where
  pub harmless : harm_in r.groups r.others ≡ 0
  pub unbroken : broken ≡ 0
  pub whole-lines : types ≡ 0
  pub inked : lost ≡ 0
  pub uncut : cut_off t ≡ 0
  pub ended : unended ≡ false
  pub read : unread ≡ false
  pub painted : is_some t.paint.end ≡ true

-- "a drawing that uses little of the sheet .. below nine tenths of both sides"
unfoldable pub narrower_of : Rect → Rect → Bool
narrower_of r sheet = narrow_of r.left r.right sheet.left sheet.right

unfoldable pub lower_of : Rect → Rect → Bool
lower_of r sheet = narrow_of r.bottom r.top sheet.bottom sheet.top

unfoldable pub little_of : Option Rect → Rect → Bool
little_of None sheet = false
little_of (Some area) sheet = cond (narrower_of area sheet) (lower_of area sheet) false

unfoldable pub total_of : List ℕ → ℕ
total_of [] = 0
total_of (n ∷ list) = added n (total_of list)
