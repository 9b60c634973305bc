-- Replies (document 02, CR 5): what OA, OP, OW, OH and OE tell, the text that is fetched of it, and which refusals are remembered for OE. Definitions alone.
use Rattle.std.specs.Prelude.{ℕ, Bool, cond, ◌||◌, List, [], ◌∷◌, ◌++◌, eqb, ℤ, pos, take}
use Prim.Native.Char.{code}
use Rattle.decimals.specs.Decimal.{whole}
use Rattle.clip.specs.declared.Point.{Point}
use Rattle.clip.specs.declared.Rect.{Rect}
use Rattle.mnemonics.specs.Table.{OA, OP, OW, OH, OE}
use Rattle.turns.specs.Turn.{turned_back_box_of}
use Rattle.hpgl.specs.declared.Settings.{Settings}
use Rattle.hpgl.specs.declared.Memory.{Memory}
use Rattle.hpgl.specs.declared.Core.{Core}
use Rattle.hpgl.specs.declared.Reply.{Reply}
use Rattle.hpgl.specs.Place.{location}

-- ---- what is told

-- no reply: one of no numbers
abbrev pub no_reply : Reply
no_reply = record { count = 0; first = pos 0; second = pos 0; third = pos 0; fourth = pos 0 }

-- OA: "the location and 1 for pen down or 0 for up"
unfoldable pub place_told : Core → Reply
place_told c =
    let p : Point = location c.settings c.carriage.position in
    record { count = 3; first = p.x; second = p.y; third = cond c.carriage.pen.down (pos 1) (pos 0); fourth = pos 0 }

-- OP: "P1 and P2"
unfoldable pub corners_told : Core → Reply
corners_told c = record { count = 4; first = c.settings.p1.x; second = c.settings.p1.y; third = c.settings.p2.x; fourth = c.settings.p2.y }

-- window and hard limits: "each left, bottom, right, top"
unfoldable pub box_told : Rect → Reply
box_told r = record { count = 4; first = r.left; second = r.bottom; third = r.right; fourth = r.top }

-- OW: "window"; "OW without a window gives the hard limits turned back"
unfoldable pub window_shown : Settings → Rect
window_shown s = cond s.window.set s.window.area (turned_back_box_of s.hard s.turn)

unfoldable pub window_told : Core → Reply
window_told c = box_told (window_shown c.settings)

-- OH: "the machine's hard limits"
unfoldable pub limits_told : Core → Reply
limits_told c = box_told c.settings.hard

-- OE: "the latest 1, 2, 3, 6 or 7 that take gave, 0 if none since fresh, IN or OE"
unfoldable pub refusal_told : Core → Reply
refusal_told c = record { count = 1; first = pos c.carriage.memory.refusal; second = pos 0; third = pos 0; fourth = pos 0 }

-- what each of the five tells; another instruction nothing
unfoldable pub reply_of : Core → ℕ → Reply
reply_of c op =
    cond (eqb op OA) (place_told c)
    (cond (eqb op OP) (corners_told c)
    (cond (eqb op OW) (window_told c)
    (cond (eqb op OH) (limits_told c)
    (cond (eqb op OE) (refusal_told c)
    no_reply))))

-- ---- its text

-- the numbers of a reply
unfoldable pub numbers_told : Reply → List ℤ
numbers_told r = take r.count (r.first ∷ r.second ∷ r.third ∷ r.fourth ∷ [])

-- "whole numbers in decimal with commas, closed by 13, 10; a minus sign only below zero" (`whole` writes a number and the byte after it)
unfoldable pub text_of : List ℤ → List ℕ
text_of [] = []
text_of (z ∷ []) = whole z 13 ++ (10 ∷ [])
text_of (z ∷ y ∷ zs) = whole z (code ",") ++ text_of (y ∷ zs)

unfoldable pub reply_text : Reply → List ℕ
reply_text r = text_of (numbers_told r)

-- ---- what is remembered

-- "0 if none"
abbrev pub no_memory : Memory
no_memory = record { refusal = 0 }

-- "1, 2, 3, 6 or 7"
unfoldable pub remembered : ℕ → Bool
remembered k = eqb k 1 || eqb k 2 || eqb k 3 || eqb k 6 || eqb k 7

-- "the latest": the memory after a take that gave the number k
unfoldable pub remembering : ℕ → Memory → Memory
remembering k n = record { refusal = cond (remembered k) k n.refusal }
