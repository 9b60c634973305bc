-- The figures of documents 01 and 02: calls, and what they answer, in the order of 01's headings, with its own checked figures (a) to (n) after them, and then of 02's requests. Figures.antt has the theorem.
-- A sentence of 01 or 02 stands over the rows that show it. A row is there for a wrong number, operand or branch of a definition that it would show.
use Rattle.std.specs.Prelude.{true, false, List, [], ◌∷◌, ◌++◌, ℕ, ℤ, pos, replicate, Float}
use Prim.Native.String.{String}
use Rattle.std.specs.Float.{fin}
use Rattle.clip.specs.declared.Rect.{Rect}
use Rattle.hpgl.specs.declared.Stroke.{Stroke}
use Rattle.hpgl.specs.Machine.{rect}
use Rattle.hpgl.specs.Trace.{Out, refused, stroke, hidden, idle, seen, reply, bytes}
use Rattle.drive.specs.declared.Place.{Place}
use Rattle.drive.specs.declared.Move.TheVariants.{Travel, Paint, Dot}
use Rattle.figures.specs.Rows.{Two, One, Refused, Row, taken, undrawn, started, filled, waits, feeds, moved, typed, called, lent, fed, Call, held, fetch, draw, feed, Told, told, fetched, gave, minus, wide}
use Rattle.clip.specs.Types.{LineType, inside_to_inside, inside_to_outside, outside_to_inside, outside_to_outside}

-- ---- how a row is written

-- what look sees: a location that is not below zero, the pen's number, the polygon's bytes
abbrev up : ℕ → ℕ → ℕ → ℕ → Out
up x y n b = seen (pos x) (pos y) n false b

abbrev down : ℕ → ℕ → ℕ → ℕ → Out
down x y n b = seen (pos x) (pos y) n true b

-- a stroke of which no end is below zero
abbrev line : ℕ → ℕ → ℕ → ℕ → ℕ → Out
line n x0 y0 x1 y1 = stroke n (pos x0) (pos y0) (pos x1) (pos y1)

-- bytes within the limits of the program strokes: with all that they answer; with nothing refused or drawn; with one byte refused (number, place) and nothing drawn
abbrev take : String → List Out → Row
take s os = taken wide s os

abbrev ends : String → Out → Row
ends s o = taken wide s (o ∷ [])

abbrev stops : String → ℕ → ℕ → Out → Row
stops s n k o = taken wide s (refused n k ∷ o ∷ [])

-- a reply, which 13, 10 close
abbrev says : String → Out
says s = reply (bytes s ++ (13 ∷ 10 ∷ []))

-- replies of a machine with other hard limits, which stays at the origin with pen 0 up
abbrev boxed : String → List Out → Row
boxed s os = taken (rect (minus 4) (minus 3) (pos 2) (pos 1)) s (os ++ (up 0 0 0 0 ∷ []))

-- a fetch's number and length, and the buffer after it
abbrev wrote : ℕ → ℕ → String → Told
wrote n k s = fetched n k (bytes s)

-- the limits of figures (e) to (h)
abbrev ten : Rect
ten = rect (pos 0) (pos 0) (pos 10) (pos 10)

-- a line across the sheet, and one up
abbrev across : String
across = "SP1;PU-50,0;PD50,0;PU0,-50;PD0,50;"

-- fresh with bad limits
abbrev bad_limits : ℤ → ℤ → ℤ → ℤ → Row
bad_limits l b r t = started (rect l b r t) 10 across (line 1 0 0 1 0 ∷ line 1 0 0 0 1 ∷ down 0 50 1 0 ∷ [])

-- a stroke of pen 1; the same with no end below zero; and a record that nothing was stored into
abbrev segment : ℤ → ℤ → ℤ → ℤ → Stroke
segment x0 y0 x1 y1 = record { pen = 1; x0 = x0; y0 = y0; x1 = x1; y1 = y1 }

abbrev path : ℕ → ℕ → ℕ → ℕ → Stroke
path x0 y0 x1 y1 = segment (pos x0) (pos y0) (pos x1) (pos y1)

abbrev blank : Stroke
blank = record { pen = 9; x0 = pos 9; y0 = pos 9; x1 = pos 9; y1 = pos 9 }

-- places of the drive: floats ±m * 2 ^ e, and plus zero
abbrev place : Float → Float → Place
place x y = record { x = x; y = y }

abbrev plus : ℕ → ℤ → Float
plus m e = fin false m e

abbrev less : ℕ → ℤ → Float
less m e = fin true m e

abbrev none : Float
none = plus 0 (pos 0)

-- ---- The calls

-- "Fresh: page point (0,0), pen up, pen 0"; "hard limits left, bottom, right, top, each −32768 to 32767, left < right, bottom < top";
-- "bad hard limits: 10, fresh machine with limits 0,0,1,1": two lines of 100 units across the origin show the limits, and PA1,1 under SC0,1,0,1 shows P2
abbrev fresh_calls : List Row
fresh_calls =
    started wide 0 "" (up 0 0 0 0 ∷ []) ∷
    started (rect (minus 32768) (minus 32768) (pos 32767) (pos 32767)) 0 "SP1;PU-32768,-32768;PD32767,32767;" (stroke 1 (minus 32768) (minus 32768) (pos 32767) (pos 32767) ∷ down 32767 32767 1 0 ∷ []) ∷
    started (rect (minus 4) (minus 3) (pos 2) (pos 1)) 0 across (stroke 1 (minus 4) (pos 0) (pos 2) (pos 0) ∷ stroke 1 (pos 0) (minus 3) (pos 0) (pos 1) ∷ down 0 50 1 0 ∷ []) ∷
    bad_limits (minus 32769) (pos 0) (pos 9) (pos 9) ∷
    bad_limits (pos 0) (minus 32769) (pos 9) (pos 9) ∷
    bad_limits (pos 0) (pos 0) (pos 32768) (pos 9) ∷
    bad_limits (pos 0) (pos 0) (pos 9) (pos 32768) ∷
    bad_limits (pos 5) (pos 0) (pos 5) (pos 9) ∷
    bad_limits (pos 6) (pos 0) (pos 5) (pos 9) ∷
    bad_limits (pos 0) (pos 5) (pos 9) (pos 5) ∷
    bad_limits (pos 0) (pos 6) (pos 9) (pos 5) ∷
    started (rect (pos 9) (pos 9) (pos 0) (pos 0)) 10 "SC0,1,0,1;PA1,1;" (up 1 1 0 0 ∷ []) ∷
    started (rect (minus 4) (minus 3) (pos 2) (pos 1)) 0 "SC0,1,0,1;PA1,1;" (up 2 1 0 0 ∷ []) ∷
    started (rect (minus 4) (minus 3) (pos 2) (pos 1)) 0 "SC0,1,0,1;PA0,0;" (seen (minus 4) (minus 3) 0 false 0 ∷ []) ∷
    started (rect (pos 5) (pos 0) (pos 6) (pos 3)) 0 "SC0,1,0,1;PA0,1;" (up 5 3 0 0 ∷ []) ∷
    started (rect (pos 0) (pos 5) (pos 3) (pos 6)) 0 "SC0,1,0,1;PA1,0;" (up 3 5 0 0 ∷ []) ∷
    []

-- "Draw: works off one waiting segment and answers a stroke (pen, x0, y0, x1, y1), hidden, or idle if none waits"; "take while a segment waits: 20, whole
-- machine": the reader too has not seen the byte, so that a P which was refused begins no name
abbrev draw_calls : List Row
draw_calls =
    undrawn "" "" (idle ∷ up 0 0 0 0 ∷ []) ∷
    undrawn "SP2;PD5,6;" "" (line 2 0 0 5 6 ∷ idle ∷ down 5 6 2 0 ∷ []) ∷
    undrawn "SP2;PU20000,0;PD20000,5;" "" (hidden ∷ idle ∷ down 20000 5 2 0 ∷ []) ∷
    undrawn "SP1;PD5,5;@" "" (refused 20 11 ∷ line 1 0 0 5 5 ∷ idle ∷ down 5 5 1 0 ∷ []) ∷
    undrawn "SP1;PD5,5;P" "D9,9;" (refused 20 11 ∷ line 1 0 0 5 5 ∷ idle ∷ refused 1 2 ∷ down 5 5 1 0 ∷ []) ∷
    undrawn "SP1;EA5,9;;" "" (refused 20 11 ∷ line 1 0 0 5 0 ∷ line 1 5 0 5 9 ∷ line 1 5 9 0 9 ∷ line 1 0 9 0 0 ∷ idle ∷ up 0 0 1 49 ∷ []) ∷
    undrawn "SP1;EP;" "PU1,1;" (idle ∷ up 1 1 1 0 ∷ []) ∷
    []

-- "Feed: bytes in, strokes out into a lent list of stroke records": drawn while a record is free, else 21; hidden needs a free record and uses none;
-- 21 only while a segment waits; a refused byte counts as taken; "Records after those stored keep their content"
abbrev feed_calls : List Row
feed_calls =
    feeds (lent "" [] ∷ []) (fed 0 0 0 [] ∷ []) ∷
    feeds (lent "PU5,5;" [] ∷ []) (fed 6 0 0 [] ∷ []) ∷
    feeds (lent "SP1;PD5,0,5,5,0,5;PU" (blank ∷ blank ∷ []) ∷ lent "PU" [] ∷ lent "PU" (blank ∷ blank ∷ []) ∷ [])
    (fed 18 2 21 (path 0 0 5 0 ∷ path 5 0 5 5 ∷ []) ∷ fed 0 0 21 [] ∷ fed 2 1 0 (path 5 5 0 5 ∷ blank ∷ []) ∷ []) ∷
    feeds (lent "SP1;PD5,0,5,5,0,5;PU" (blank ∷ blank ∷ blank ∷ blank ∷ []) ∷ [])
    (fed 20 3 0 (path 0 0 5 0 ∷ path 5 0 5 5 ∷ path 5 5 0 5 ∷ blank ∷ []) ∷ []) ∷
    feeds (lent "SP1;PD5,0;PU9,9;" (blank ∷ []) ∷ []) (fed 16 1 0 (path 0 0 5 0 ∷ []) ∷ []) ∷
    feeds (lent "SP1;PU20000,0;PD20000,5;PU" [] ∷ []) (fed 24 0 21 [] ∷ []) ∷
    feeds (lent "SP1;PU20000,0;PD20000,5;PD9,5;" (blank ∷ []) ∷ []) (fed 30 1 0 (path 10000 5 9 5 ∷ []) ∷ []) ∷
    feeds (lent "SP1;@;PD5,0;" (blank ∷ []) ∷ lent ";PD5,0;" (blank ∷ []) ∷ []) (fed 5 0 1 (blank ∷ []) ∷ fed 7 1 0 (path 0 0 5 0 ∷ []) ∷ []) ∷
    feeds (lent "SP1;PD5,0;SP9;" (blank ∷ []) ∷ []) (fed 14 1 3 (path 0 0 5 0 ∷ []) ∷ []) ∷
    feeds (lent "SP1;EA5,9;" (blank ∷ blank ∷ []) ∷ []) (fed 10 2 21 (path 0 0 5 0 ∷ path 5 0 5 9 ∷ []) ∷ []) ∷
    []

-- ---- Bytes

-- "Blank is 9, 10, 13, 32 or a comma; runs of blanks count as one. A letter may be of either case. Two letters, the second directly after the first, name an
-- instruction; a first letter followed by anything else is refused with 1 on that byte, an unknown name with 1 on its second letter. Semicolon ends it;
-- so does a letter, which also begins the next. Blanks and semicolons between instructions do nothing."
abbrev names : List Row
names =
    ends "PA\t1\n2\r;" (up 1 2 0 0) ∷
    ends "PA 1,2;" (up 1 2 0 0) ∷
    ends " PA,, 1 ,,2 ,;;, ;" (up 1 2 0 0) ∷
    stops "PA1\u{b}2;" 1 4 (up 0 0 0 0) ∷
    ends "pa1,2;Pu3,4pD" (down 3 4 0 0) ∷
    ends "PA1,2PD" (down 1 2 0 0) ∷
    stops "P 1;" 1 2 (up 0 0 0 0) ∷
    stops "P;PA1,2;" 1 2 (up 1 2 0 0) ∷
    stops "P5,6;" 1 2 (up 0 0 0 0) ∷
    stops "P-5;" 1 2 (up 0 0 0 0) ∷
    stops "P.5;" 1 2 (up 0 0 0 0) ∷
    stops "P@5;" 1 2 (up 0 0 0 0) ∷
    stops "P\0;" 1 2 (up 0 0 0 0) ∷
    stops "PX1,2;" 1 2 (up 0 0 0 0) ∷
    stops "@1,2;PU3,4;" 1 1 (up 3 4 0 0) ∷
    stops "5,6;PU3,4;" 1 1 (up 3 4 0 0) ∷
    stops "-5;" 1 1 (up 0 0 0 0) ∷
    stops "+5;" 1 1 (up 0 0 0 0) ∷
    stops ".5;" 1 1 (up 0 0 0 0) ∷
    stops "PA1,2;3,4;" 1 7 (up 1 2 0 0) ∷
    stops "PA1,2@;" 1 6 (up 0 0 0 0) ∷
    stops "PA1,2 @;" 1 7 (up 1 2 0 0) ∷
    []

-- "A number is an optional sign, then digits with at most one point, at least one digit. It ends at a blank, semicolon or letter. It is kept in
-- ten-thousandths .. A sign or point that cannot continue the number is refused with 3 there; one with no digit, or
-- out of range, with 3 where it ends." Here a unit is a ten-thousandth. The ends of the range are figure (m)
abbrev numbers : List Row
numbers =
    ends "IP0,0,10000,10000;SC0,1,0,1;PA.1234,.0001;" (up 1234 1 0 0) ∷
    ends "IP0,0,10000,10000;SC0,1,0,1;PA1.23459,0.00019;" (up 12346 2 0 0) ∷
    ends "IP0,0,10000,10000;SC0,1,0,1;PA.5,.05;" (up 5000 500 0 0) ∷
    ends "IP0,0,10000,10000;SC0,1,0,1;PA.005,12.;" (up 50 120000 0 0) ∷
    ends "IP0,0,10000,10000;SC0,1,0,1;PA-.5,-1.00009;" (seen (minus 5000) (minus 10001) 0 false 0) ∷
    ends "IP0,0,10000,10000;SC0,1,0,1;PA+.5,007.50;" (up 5000 75000 0 0) ∷
    ends "PA1 2;" (up 1 2 0 0) ∷
    stops "PA1-2;" 3 4 (up 0 0 0 0) ∷
    stops "PA1+2;" 3 4 (up 0 0 0 0) ∷
    stops "PA+-2,1;" 3 4 (up 0 0 0 0) ∷
    stops "PA1.2.3,4;" 3 6 (up 0 0 0 0) ∷
    stops "PA..5,4;" 3 4 (up 0 0 0 0) ∷
    stops "PA.-5,4;" 3 4 (up 0 0 0 0) ∷
    stops "PA-,4;" 3 4 (up 0 0 0 0) ∷
    stops "PA+.;" 3 5 (up 0 0 0 0) ∷
    stops "PA.PD" 3 4 (down 0 0 0 0) ∷
    stops "PA-PD" 3 4 (down 0 0 0 0) ∷
    stops "PA1,99999999999999999999 5;" 3 25 (up 0 0 0 0) ∷
    []

-- "After a refusal the rest is passed over up to a semicolon or letter, which plays its usual part (the refused byte itself may be it, but never the
-- second letter of a name). LB is refused with 1 on its B; its text, to and including byte 3, is passed over."
abbrev passed_over : List Row
passed_over =
    stops "PA40000,@.-+\u{3},,5;PU7,8;" 3 8 (up 7 8 0 0) ∷
    stops "PA40000 1,2,3,4PU7,8;" 3 8 (up 7 8 0 0) ∷
    stops "PA40000;PU7,8;" 3 8 (up 7 8 0 0) ∷
    stops "PA40000PU7,8;" 3 8 (up 7 8 0 0) ∷
    take "P;5;" (refused 1 2 ∷ refused 1 3 ∷ up 0 0 0 0 ∷ []) ∷
    take "XX;5;" (refused 1 2 ∷ refused 1 4 ∷ up 0 0 0 0 ∷ []) ∷
    take "PA40000;5;" (refused 3 8 ∷ refused 1 9 ∷ up 0 0 0 0 ∷ []) ∷
    take "PU1;5;" (refused 2 4 ∷ refused 1 5 ∷ up 0 0 0 0 ∷ []) ∷
    take "SP9;5;" (refused 3 4 ∷ refused 1 5 ∷ up 0 0 0 0 ∷ []) ∷
    stops "PA1,2 @3,4;" 1 7 (up 1 2 0 0) ∷
    take "XPU7,8;" (refused 1 2 ∷ refused 1 4 ∷ up 0 0 0 0 ∷ []) ∷
    stops "XX1,2,@PU7,8;" 1 2 (up 7 8 0 0) ∷
    take "LBPD5,5;\u{3}5;" (refused 1 2 ∷ refused 1 10 ∷ up 0 0 0 0 ∷ []) ∷
    stops "lbPD5,5;\u{3}PU7,8;" 1 2 (up 7 8 0 0) ∷
    stops "LB@;\u{4}PU7,8;" 1 2 (up 0 0 0 0) ∷
    stops "LXPU7,8;" 1 2 (up 7 8 0 0) ∷
    stops "BLPU7,8;" 1 2 (up 7 8 0 0) ∷
    []

-- "Least and most numbers .. IN, DF, EP 0; IP 0, 2 or 4; SC, IW 0 or 4; RO, SP, PM 0 or 1; CI 1 or 2; EA, ER 2; PU, PD, PA, PR any even count" (what passes stands
-- with each instruction); "count of numbers (too many: where it ends; odd or too few: at the end)"; "earlier pairs stand"
abbrev counts : List Row
counts =
    stops "IN5 ;" 2 4 (up 0 0 0 0) ∷
    stops "DF5 ;" 2 4 (up 0 0 0 0) ∷
    stops "EP5 ;" 2 4 (up 0 0 0 0) ∷
    stops "IP1 ;" 2 5 (up 0 0 0 0) ∷
    stops "IP1,2,3;" 2 8 (up 0 0 0 0) ∷
    stops "IP1,2,3,4,5,6;" 2 12 (up 0 0 0 0) ∷
    stops "SC1;" 2 4 (up 0 0 0 0) ∷
    stops "SC1,2;" 2 6 (up 0 0 0 0) ∷
    stops "SC1,2,3;" 2 8 (up 0 0 0 0) ∷
    stops "SC1,2,3,4,5;" 2 12 (up 0 0 0 0) ∷
    stops "IW1;" 2 4 (up 0 0 0 0) ∷
    stops "IW1,2;" 2 6 (up 0 0 0 0) ∷
    stops "IW1,2,3;" 2 8 (up 0 0 0 0) ∷
    stops "IW1,2,3,4,5;" 2 12 (up 0 0 0 0) ∷
    stops "RO0,0;" 2 6 (up 0 0 0 0) ∷
    stops "SP1,1;" 2 6 (up 0 0 0 0) ∷
    stops "PM0,0;" 2 6 (up 0 0 0 0) ∷
    stops "CI;" 2 3 (up 0 0 0 0) ∷
    stops "CI5,5,5;" 2 8 (up 0 0 0 0) ∷
    stops "EA;" 2 3 (up 0 0 0 0) ∷
    stops "EA5;" 2 4 (up 0 0 0 0) ∷
    stops "EA5,5,5;" 2 8 (up 0 0 0 0) ∷
    stops "ER;" 2 3 (up 0 0 0 0) ∷
    stops "ER5;" 2 4 (up 0 0 0 0) ∷
    stops "ER5,5,5;" 2 8 (up 0 0 0 0) ∷
    stops "PU1;" 2 4 (up 0 0 0 0) ∷
    stops "PU1,2,3;" 2 8 (up 1 2 0 0) ∷
    stops "PD1,2,3;" 2 8 (down 1 2 0 0) ∷
    stops "PA1,2,3;" 2 8 (up 1 2 0 0) ∷
    stops "PR1,2,3PD" 2 8 (down 1 2 0 0) ∷
    ends "PU1,2,3,4,5,6,7,8,9,10;" (up 9 10 0 0) ∷
    []

-- "A pair of the last four is carried out on the byte that ends its second number; the others on the byte that ends the instruction. PU, PD, PA, PR set pen
-- or mode on their second letter." A mode that was set stays, though the rest is refused
abbrev moments : List Row
moments =
    ends "PU5,5" (up 0 0 0 0) ∷
    ends "PU5,5 " (up 5 5 0 0) ∷
    ends "PU5,5,6,6" (up 5 5 0 0) ∷
    ends "PU5,5P" (up 5 5 0 0) ∷
    ends "SP3 " (up 0 0 0 0) ∷
    ends "SP3;" (up 0 0 3 0) ∷
    ends "SP3P" (up 0 0 3 0) ∷
    ends "P" (up 0 0 0 0) ∷
    ends "PD" (down 0 0 0 0) ∷
    ends "PDPU" (up 0 0 0 0) ∷
    stops "PU5,5;PR@;PU1,1;" 1 9 (up 6 6 0 0) ∷
    stops "PR5,5;PA@;PU1,1;" 1 9 (up 1 1 0 0) ∷
    []

-- ---- Position

-- "The exact position is B + O × D / W; the location is that, rounded": a half goes to the larger number, also below zero, also where W or D is below zero; P1, P2, min
-- and max all different; "Absolute mode sets B to P1 and O to number − min (off: B 0, O number). Relative mode adds to O."
abbrev positions : List Row
positions =
    ends "PA-.5,.5;" (up 0 1 0 0) ∷
    ends "PA.4999,1.4999;" (up 0 1 0 0) ∷
    ends "PA-.5001,-1.5;" (seen (minus 1) (minus 1) 0 false 0) ∷
    ends "IP100,200,1100,2200;SC10,20,30,50;PA15,35;" (up 600 700 0 0) ∷
    ends "IP100,200,1100,2200;SC10,20,30,50;PA10,30;" (up 100 200 0 0) ∷
    ends "IP100,200,1100,2200;SC10,20,30,50;PA20,50;" (up 1100 2200 0 0) ∷
    ends "IP100,200,1100,2200;SC20,10,50,30;PA20,30;" (up 100 2200 0 0) ∷
    ends "IP1,1,0,0;SC0,2,2,0;PA1,1;" (up 1 1 0 0) ∷
    ends "IP0,0,1,1;SC0,2,2,0;PA-1,-1;" (seen (pos 0) (pos 2) 0 false 0) ∷
    ends "PR.4,.4;PR.4,.4;" (up 1 1 0 0) ∷
    ends "PA5,5;PR1,2,3,4;" (up 9 11 0 0) ∷
    ends "PR5,5;PA1,2,3,4;" (up 3 4 0 0) ∷
    ends "PA5,6;PR.4,0;PA7,8;" (up 7 8 0 0) ∷
    []

-- "and must be within ±1,000,000": −1,000,000.5 is at −1,000,000. A pair that is refused draws nothing, and the rest is passed over
abbrev far_off : List Row
far_off =
    ends "IP0,0,5000,10000;SC0,1,0,1;PA200,100;" (up 1000000 1000000 0 0) ∷
    ends "IP0,0,5000,10000;SC0,1,0,1;PA-200,-100;" (seen (minus 1000000) (minus 1000000) 0 false 0) ∷
    stops "IP0,0,5000,10000;SC0,1,0,1;PA200,0;PR.0001,0;" 6 45 (up 1000000 0 0 0) ∷
    stops "IP0,0,5000,10000;SC0,1,0,1;PA0,100;PR0,.0001;" 6 45 (up 0 1000000 0 0) ∷
    ends "IP0,0,5000,10000;SC0,1,0,1;PA-200.0001,0;" (seen (minus 1000000) (pos 0) 0 false 0) ∷
    stops "IP0,0,5000,10000;SC0,1,0,1;PA-200.0002,0;" 6 41 (up 0 0 0 0) ∷
    stops "IP0,0,5000,10000;SC0,1,0,1;PA0,-100.0001;" 6 41 (up 0 0 0 0) ∷
    stops "SP1;IP0,0,5000,10000;SC0,1,0,1;PD201,0;" 6 39 (down 0 0 1 0) ∷
    stops "IP0,0,5000,10000;SC0,1,0,1;PA201,0 1,1;" 6 35 (up 0 0 0 0) ∷
    stops "IP0,0,5000,10000;SC0,1,0,1;PA201,0;PU1,1;" 6 35 (up 5000 10000 0 0) ∷
    stops "IP0,0,5000,10000;SC0,1,0,1;PA201,0PU1,1;" 6 35 (up 5000 10000 0 0) ∷
    []

-- "When IN, DF, IP, SC or RO is carried out, B becomes the location and O 0": .4 and then .2 are 0, and after the others 1
abbrev bases : List Row
bases =
    ends "PA.4,.4;IN;PR.2,.2;" (up 0 0 0 0) ∷
    ends "PA.4,.4;DF;PR.2,.2;" (up 0 0 0 0) ∷
    ends "PA.4,.4;IP;PR.2,.2;" (up 0 0 0 0) ∷
    ends "PA.4,.4;SC;PR.2,.2;" (up 0 0 0 0) ∷
    ends "PA.4,.4;RO;PR.2,.2;" (up 0 0 0 0) ∷
    ends "IP0,0,1000,1000;SC0,3,0,3;PA1,2;SC;PR1,1;" (up 334 668 0 0) ∷
    ends "IP0,0,1000,1000;SC0,3,0,3;PA1,2;IP0,0,3,6;PR1,1;" (up 334 669 0 0) ∷
    ends "PA.4,.4;PUPDPA;PR;PUPR.2,.2;" (up 1 1 0 0) ∷
    ends "PA.4,.4;SP;IW;EP;PR.2,.2;" (up 1 1 0 0) ∷
    ends "PA.4,.4;IW0,0,9,9;CI5;PR.2,.2;" (up 1 1 0 0) ∷
    ends "PA.4,.4;EA5,5;ER5,5;PR.2,.2;" (up 1 1 0 49) ∷
    ends "PA.4,.4;PM0;PM1;PM2;PR.2,.2;" (up 1 1 0 13) ∷
    []

-- the mode: absolute after PA, IN, DF; relative after PR; PM2 has that of PM0 again (see polygons); no other instruction changes it
abbrev modes : List Row
modes =
    ends "PU5,5;PU1,1;" (up 1 1 0 0) ∷
    ends "PU5,5;PR;PU1,1;" (up 6 6 0 0) ∷
    ends "PU5,5;PR;PD1,1;" (down 6 6 0 0) ∷
    ends "PU5,5;PR;PA;PU1,1;" (up 1 1 0 0) ∷
    ends "PU5,5;PR;IN;PU1,1;" (up 1 1 0 0) ∷
    ends "PU5,5;PR;DF;PU1,1;" (up 1 1 0 0) ∷
    ends "PU5,5;PR;IP;PU1,1;" (up 6 6 0 0) ∷
    ends "PU5,5;PR;SC;PU1,1;" (up 6 6 0 0) ∷
    ends "PU5,5;PR;RO;PU1,1;" (up 6 6 0 0) ∷
    ends "PU5,5;PR;RO0;PU1,1;" (up 6 6 0 0) ∷
    ends "PU5,5;PR;IW;PU1,1;" (up 6 6 0 0) ∷
    ends "PU5,5;PR;SP1;PU1,1;" (up 6 6 1 0) ∷
    ends "PU5,5;PR;CI5;PU1,1;" (up 6 6 0 0) ∷
    ends "PU5,5;PR;EP;PU1,1;" (up 6 6 0 0) ∷
    ends "PU5,5;PR;EA5,5;PU1,1;" (up 6 6 0 49) ∷
    ends "PU5,5;PR;ER5,5;PU1,1;" (up 6 6 0 49) ∷
    ends "PU5,5;PR;PM;PU1,1;" (up 6 6 0 20) ∷
    ends "PU5,5;IP;SC;RO;IW;SP;EP;PU1,1;" (up 1 1 0 0) ∷
    ends "PU5,5;CI5;EA5,5;ER5,5;PM;PU1,1;" (up 1 1 0 20) ∷
    []

-- the pen: down after PD, up after PU, IN and PM1, as at PM0 after PM2 (see polygons); no other instruction lifts or lowers it
abbrev pens : List Row
pens =
    ends "PD;" (down 0 0 0 0) ∷
    ends "PD;PU;" (up 0 0 0 0) ∷
    ends "PD;IN;" (up 0 0 0 0) ∷
    ends "PD;PA;" (down 0 0 0 0) ∷
    ends "PD;PA1,2;" (down 1 2 0 0) ∷
    ends "PD;PR;" (down 0 0 0 0) ∷
    ends "PD;PR1,2;" (down 1 2 0 0) ∷
    ends "PD;DF;" (down 0 0 0 0) ∷
    ends "PD;IP;" (down 0 0 0 0) ∷
    ends "PD;SC;" (down 0 0 0 0) ∷
    ends "PD;RO;" (down 0 0 0 0) ∷
    ends "PD;RO90;" (down 0 0 0 0) ∷
    ends "PD;IW;" (down 0 0 0 0) ∷
    ends "PD;IW0,0,9,9;" (down 0 0 0 0) ∷
    ends "PD;SP;" (down 0 0 0 0) ∷
    ends "PD;SP1;" (down 0 0 1 0) ∷
    ends "PD;CI5;" (down 0 0 0 0) ∷
    ends "PD;EP;" (down 0 0 0 0) ∷
    ends "PD;EA5,5;" (down 0 0 0 49) ∷
    ends "PD;ER5,5;" (down 0 0 0 49) ∷
    ends "PD;PM0;" (down 0 0 0 11) ∷
    ends "PD;PM0;PM1;" (up 0 0 0 13) ∷
    ends "PA1,2;PR1,2;DF;IP;SC;RO;IW;SP1;EP;PM0;PM1;PM2;" (up 2 4 1 13) ∷
    ends "CI5;EA5,5;ER5,5;" (up 0 0 0 49) ∷
    []

-- "SP: 0 to 8; none is 0", rounded first; "IN: .. pen number stay[s]"; no other instruction changes the number
abbrev pen_numbers : List Row
pen_numbers =
    ends "SP3;SP;" (up 0 0 0 0) ∷
    ends "SP3;SP0;" (up 0 0 0 0) ∷
    ends "SP1;" (up 0 0 1 0) ∷
    ends "SP8;" (up 0 0 8 0) ∷
    ends "SP8.4999;" (up 0 0 8 0) ∷
    stops "SP8.5;" 3 6 (up 0 0 0 0) ∷
    stops "SP3;SP9;" 3 8 (up 0 0 3 0) ∷
    stops "SP3;SP-1;" 3 9 (up 0 0 3 0) ∷
    stops "SP3;SP-.5001;" 3 13 (up 0 0 3 0) ∷
    ends "SP3;SP-.5;" (up 0 0 0 0) ∷
    ends "SP.5;" (up 0 0 1 0) ∷
    ends "SP.4999;" (up 0 0 0 0) ∷
    ends "SP3;IN;DF;IP;SC;RO;IW;PU;PA;PR;PD;" (down 0 0 3 0) ∷
    ends "SP3;PM;PM1;PM2;" (up 0 0 3 13) ∷
    []

-- "IN: all as fresh, but page point and pen number stay. DF: scaling off, no window, absolute mode", and nothing else: P1, P2, turn and polygon stay
abbrev resets : List Row
resets =
    take "SP3;PD5,6;IN;" (line 3 0 0 5 6 ∷ up 5 6 3 0 ∷ []) ∷
    ends "IP0,0,10,20;IN;SC0,1,0,1;PA1,1;" (up 10000 7000 0 0) ∷
    ends "IP5,6,10,20;IN;SC0,1,0,1;PA0,0;" (seen (minus 10000) (minus 7000) 0 false 0) ∷
    ends "IP0,0,10,20;SC0,1,0,1;IN;PA1,1;" (up 1 1 0 0) ∷
    ends "PA3,5;RO90;IN;" (up 3 5 0 0) ∷
    ends "PA3,5;RO90;IN;PA1,2;RO;" (up 1 2 0 0) ∷
    take "SP1;IW0,0,5,5;IN;PD9,9;" (line 1 0 0 9 9 ∷ down 9 9 1 0 ∷ []) ∷
    take "SP1;PM0;PD5,5;PM2;IN;EP;" (up 0 0 1 0 ∷ []) ∷
    ends "IP0,0,10,20;DF;SC0,1,0,1;PA1,1;" (up 10 20 0 0) ∷
    ends "IP5,6,10,20;DF;SC0,1,0,1;PA0,0;" (up 5 6 0 0) ∷
    ends "IP0,0,10,20;SC0,1,0,1;DF;PA1,1;" (up 1 1 0 0) ∷
    ends "IP0,0,1000,1000;SC0,1,0,1;PA1,1;DF;PR1,0;" (up 1001 1000 0 0) ∷
    ends "PA3,5;RO90;DF;" (seen (pos 5) (minus 3) 0 false 0) ∷
    take "SP1;IW0,0,5,5;PR1,1;DF;PD9,9;" (line 1 1 1 9 9 ∷ down 9 9 1 0 ∷ []) ∷
    take "SP1;PM0;PD5,5;PM2;DF;EP;" (line 1 0 0 5 5 ∷ line 1 5 5 0 0 ∷ up 0 0 1 31 ∷ []) ∷
    []

-- "IP: none, as fresh; two, P1, and P2 keeps its distance; four, both. P1 and P2 must be within −32768 to 32767 and differ in x and in y." Under SC0,1,0,1 PA0,0 is at P1, PA1,1 at P2
abbrev corners : List Row
corners =
    ends "IP1,2,30,40;SC0,1,0,1;PA0,0;" (up 1 2 0 0) ∷
    ends "IP1,2,30,40;SC0,1,0,1;PA1,1;" (up 30 40 0 0) ∷
    ends "IP30,2,1,40;SC0,1,0,1;PA1,0;" (up 1 2 0 0) ∷
    ends "IP1,2,30,40;IP;SC0,1,0,1;PA1,1;" (up 10000 7000 0 0) ∷
    ends "IP1,2,30,40;IP;SC0,1,0,1;PA0,0;" (seen (minus 10000) (minus 7000) 0 false 0) ∷
    ends "RO90;IP;SC0,1,0,1;PA1,1;" (up 10000 7000 0 0) ∷
    ends "IP1,2,30,50;IP100,300;SC0,1,0,1;PA0,0;" (up 100 300 0 0) ∷
    ends "IP1,2,30,50;IP100,300;SC0,1,0,1;PA1,1;" (up 129 348 0 0) ∷
    ends "IP.5,-.5,9.4999,9.5;SC0,1,0,1;PA0,0;" (up 1 0 0 0) ∷
    ends "IP.5,-.5,9.4999,9.5;SC0,1,0,1;PA1,1;" (up 9 10 0 0) ∷
    ends "IP1,1,3,3;IP4.5,4.4999;SC0,1,0,1;PA1,1;" (up 7 6 0 0) ∷
    ends "IP-32768,-32768,32767,32767;SC0,1,0,1;PA1,0;" (seen (pos 32767) (minus 32768) 0 false 0) ∷
    ends "IP32767,32767,-32768,-32768;SC0,1,0,1;PA1,0;" (seen (minus 32768) (pos 32767) 0 false 0) ∷
    ends "IP32767.4999,32767.4999,0,0;SC0,1,0,1;PA0,0;" (up 32767 32767 0 0) ∷
    stops "IP32767.5,0,9,9;SC0,1,0,1;PA1,1;" 3 16 (up 10000 7000 0 0) ∷
    stops "IP0,32767.5,9,9;" 3 16 (up 0 0 0 0) ∷
    stops "IP0,0,32767.5,9;" 3 16 (up 0 0 0 0) ∷
    stops "IP0,0,9,32767.5;" 3 16 (up 0 0 0 0) ∷
    stops "IP5,0,5,9;" 3 10 (up 0 0 0 0) ∷
    stops "IP0,5,9,5;" 3 10 (up 0 0 0 0) ∷
    ends "IP5,6,9,5;" (up 0 0 0 0) ∷
    ends "IP0,0,1,1;IP32766,32766;SC0,1,0,1;PA1,1;" (up 32767 32767 0 0) ∷
    stops "IP0,0,1,1;IP32767,0;" 3 20 (up 0 0 0 0) ∷
    stops "IP0,0,1,1;IP0,32767;SC0,1,0,1;PA1,1;" 3 20 (up 1 1 0 0) ∷
    ends "IP0,0,-1,-1;IP-32767,-32767;SC0,1,0,1;PA1,1;" (seen (minus 32768) (minus 32768) 0 false 0) ∷
    stops "IP0,0,-1,-1;IP-32768,0;" 3 23 (up 0 0 0 0) ∷
    stops "IP0,0,-1,-1;IP0,-32768;" 3 23 (up 0 0 0 0) ∷
    []

-- "SC: xmin, xmax, ymin, ymax; min and max must differ; none, off"; a refused SC moves no base
abbrev scales : List Row
scales =
    ends "IP0,0,1000,1000;SC0,1,0,1;PA1,1;SC;PA2,3;" (up 2 3 0 0) ∷
    ends "IP0,0,10,10;SC0,1,0,1;SC0,2,0,5;PA1,1;" (up 5 2 0 0) ∷
    ends "IP0,0,10,10;SC0,.0001,-.0001,0;PA.0001,0;" (up 10 10 0 0) ∷
    stops "PR.4,0;SC1,1,0,1;PR.2,0;" 3 17 (up 1 0 0 0) ∷
    stops "PR.4,0;SC0,1,1,1;PR.2,0;" 3 17 (up 1 0 0 0) ∷
    stops "IP0,0,10,10;SC0,1,0,1;SC2,2,0,5;PA1,1;" 3 32 (up 10 10 0 0) ∷
    []

-- "RO: 0 or 90; none is 0", rounded first. "point (x, y) goes to page (−y, x). The page point stays, the window turns along"; P1, P2 and scale stay. The images of all four turns,
-- and a window under each, stand under CR 3
abbrev turns : List Row
turns =
    ends "PA3,5;RO90;" (seen (pos 5) (minus 3) 0 false 0) ∷
    ends "PA3,5;RO90;RO90;" (seen (pos 5) (minus 3) 0 false 0) ∷
    ends "PA3,5;RO90;RO;" (up 3 5 0 0) ∷
    ends "PA3,5;RO90;RO0;" (up 3 5 0 0) ∷
    ends "PA3,5;RO90;PA1,2;RO;" (seen (minus 2) (pos 1) 0 false 0) ∷
    ends "PA3,5;RO89.5;" (seen (pos 5) (minus 3) 0 false 0) ∷
    ends "PA3,5;RO90.4999;" (seen (pos 5) (minus 3) 0 false 0) ∷
    ends "PA3,5;RO90;RO-.5;" (up 3 5 0 0) ∷
    ends "PA3,5;RO90;RO.4999;" (up 3 5 0 0) ∷
    stops "PA3,5;RO89.4999;" 3 16 (up 3 5 0 0) ∷
    stops "PA3,5;RO90.5;" 3 13 (up 3 5 0 0) ∷
    stops "PA3,5;RO90;RO45;" 3 16 (seen (pos 5) (minus 3) 0 false 0) ∷
    stops "RO.5;" 3 5 (up 0 0 0 0) ∷
    stops "RO-.5001;" 3 9 (up 0 0 0 0) ∷
    stops "RO45;" 3 5 (up 0 0 0 0) ∷
    stops "RO360;" 3 6 (up 0 0 0 0) ∷
    stops "RO-90;" 3 6 (up 0 0 0 0) ∷
    ends "IP0,0,10,20;SC0,1,0,1;RO90;PA1,1;" (up 10 20 0 0) ∷
    take "SP1;IW0,0,5,10;RO90;PA0,0;PD100,100;" (stroke 1 (pos 0) (pos 0) (minus 5) (pos 5) ∷ down 100 100 1 0 ∷ []) ∷
    take "SP1;RO90;IW0,0,5,10;PD100,100;" (stroke 1 (pos 0) (pos 0) (minus 5) (pos 5) ∷ down 100 100 1 0 ∷ []) ∷
    []

-- "IW: two corners in current units, in absolute sense, rounded, each within ±1,000,000 or 3, and put in order; none removes it": each row has a line across the window, and one up
abbrev windows : List Row
windows =
    take "SP1;IW20,30,1,10;PU-5,15;PD50,15;PU5,0;PD5,50;" (line 1 1 15 20 15 ∷ line 1 5 10 5 30 ∷ down 5 50 1 0 ∷ []) ∷
    take "SP1;IW1,30,20,10;PU-5,15;PD50,15;PU5,0;PD5,50;" (line 1 1 15 20 15 ∷ line 1 5 10 5 30 ∷ down 5 50 1 0 ∷ []) ∷
    take "SP1;IW.5,1.5,9.4999,9.5;PU-5,5;PD50,5;PU5,0;PD5,50;" (line 1 1 5 9 5 ∷ line 1 5 2 5 10 ∷ down 5 50 1 0 ∷ []) ∷
    take "SP1;PU5,5;PR;IW0,0,9,9;PD50,0;" (line 1 5 5 9 5 ∷ down 55 5 1 0 ∷ []) ∷
    take "SP1;IP0,0,100,200;SC0,10,0,10;IW0,0,5,5;SC;PD70,0;PU0,0;PD0,700;" (line 1 0 0 50 0 ∷ line 1 0 0 0 100 ∷ down 0 700 1 0 ∷ []) ∷
    take "SP1;IW0,0,5,5;IW;PD9,9;" (line 1 0 0 9 9 ∷ down 9 9 1 0 ∷ []) ∷
    take "SP1;IW0,0,5,5;IW1,1,2,2;PD9,9;" (line 1 1 1 2 2 ∷ down 9 9 1 0 ∷ []) ∷
    take "SP1;IW0,0,20000,20000;PU-5,5;PD20000,5;PU5,-5;PD5,20000;" (line 1 0 5 10000 5 ∷ line 1 5 0 5 7000 ∷ down 5 20000 1 0 ∷ []) ∷
    take "SP1;IW20000,0,20001,5;PU-5,5;PD30000,5;" (hidden ∷ down 30000 5 1 0 ∷ []) ∷
    take "SP1;IW0,0,5,5;PU0,5;PD5,5;PU0,6;PD5,6;" (line 1 0 5 5 5 ∷ hidden ∷ down 5 6 1 0 ∷ []) ∷
    ends "IP0,0,5000,10000;SC0,1,0,1;IW-200,-100,200,100;" (up 0 0 0 0) ∷
    ends "IP0,0,5000,10000;SC0,1,0,1;IW-200.0001,0,1,1;" (up 0 0 0 0) ∷
    stops "IP0,0,5000,10000;SC0,1,0,1;IW200.0001,0,1,1;" 3 44 (up 0 0 0 0) ∷
    stops "IP0,0,5000,10000;SC0,1,0,1;IW-200.0002,0,1,1;" 3 45 (up 0 0 0 0) ∷
    stops "IP0,0,5000,10000;SC0,1,0,1;IW0,100.0001,1,1;" 3 44 (up 0 0 0 0) ∷
    stops "IP0,0,5000,10000;SC0,1,0,1;IW0,0,200.0001,1;" 3 44 (up 0 0 0 0) ∷
    stops "IP0,0,5000,10000;SC0,1,0,1;IW0,0,1,100.0001;" 3 44 (up 0 0 0 0) ∷
    stops "IP0,0,5000,10000;SC0,1,0,1;IW0,0,1,-100.0001;" 3 45 (up 0 0 0 0) ∷
    take "SP1;IW0,0,5,5;IP0,0,5000,10000;SC0,1,0,1;IW201,0,1,1;SC;PD9,9;" (refused 3 53 ∷ line 1 0 0 5 5 ∷ down 9 9 1 0 ∷ []) ∷
    []

-- ---- Strokes

-- "With pen down and pen not 0, each move queues one segment." A stroke has the pen of its move; a move of no length is a dot; each pair of a PD is drawn. Clipped each from its own ends
abbrev strokes : List Row
strokes =
    take "SP1;PU5,5;" (up 5 5 1 0 ∷ []) ∷
    take "PD5,5;" (down 5 5 0 0 ∷ []) ∷
    take "SP1;PD;PA5,5;" (line 1 0 0 5 5 ∷ down 5 5 1 0 ∷ []) ∷
    take "SP1;PD;PR5,5;" (line 1 0 0 5 5 ∷ down 5 5 1 0 ∷ []) ∷
    take "SP1;PD1,0,1,1,0,1;" (line 1 0 0 1 0 ∷ line 1 1 0 1 1 ∷ line 1 1 1 0 1 ∷ down 0 1 1 0 ∷ []) ∷
    take "SP2;PD5,5;SP8;PA9,9;SP;PA1,1;" (line 2 0 0 5 5 ∷ line 8 5 5 9 9 ∷ down 1 1 0 0 ∷ []) ∷
    take "SP1;PD0,0;" (line 1 0 0 0 0 ∷ down 0 0 1 0 ∷ []) ∷
    take "SP1;PA.4,0;PR;PD.2,5;" (line 1 0 0 1 5 ∷ down 1 5 1 0 ∷ []) ∷
    take "SP1;PU20000,0;PD0,0;PD20000,50;" (line 1 10000 0 0 0 ∷ line 1 0 0 10000 25 ∷ down 20000 50 1 0 ∷ []) ∷
    stops "SP1;PD40000,0;" 3 12 (down 0 0 1 0) ∷
    []

-- ---- Rectangles and polygons

-- "PM0 or PM empties the polygon, stores the current point, enters polygon mode. There only PU, PD, PA, PR, PM, IN are known; moves store points and draw nothing. .. PM1 or PM2 outside, PM0
-- inside: 3." Numbers are rounded first
abbrev polygon_modes : List Row
polygon_modes =
    ends "PM0;" (up 0 0 0 11) ∷
    ends "PM;" (up 0 0 0 11) ∷
    ends "PM.4999;" (up 0 0 0 11) ∷
    ends "PM-.5;" (up 0 0 0 11) ∷
    ends "PM;PM.5;" (up 0 0 0 13) ∷
    ends "PM;PM1.4999;" (up 0 0 0 13) ∷
    ends "PM;PM1.5;IW;" (up 0 0 0 11) ∷
    ends "PM;PM2.4999;IW;" (up 0 0 0 11) ∷
    stops "PM;PM2.5;" 3 9 (up 0 0 0 11) ∷
    stops "PM;PM3;" 3 7 (up 0 0 0 11) ∷
    stops "PM3;IW;" 3 4 (up 0 0 0 0) ∷
    stops "PM-1;IW;" 3 5 (up 0 0 0 0) ∷
    stops "PM1;IW;" 3 4 (up 0 0 0 0) ∷
    stops "PM2;IW;" 3 4 (up 0 0 0 0) ∷
    stops "PM;PU5,5;PM0;" 3 13 (up 5 5 0 20) ∷
    stops "PM;PU5,5;PM;" 3 12 (up 5 5 0 20) ∷
    ends "PM;PU5,5;PD6,6;PA7,7;PR8,8;PM1;" (up 0 0 0 60) ∷
    ends "SP1;PM;PD5,5;IN;DF;" (up 5 5 1 0) ∷
    take "SP1;PM;PD5,5;IN;PD9,9;" (line 1 5 5 9 9 ∷ down 9 9 1 0 ∷ []) ∷
    take "SP1;PM;PD5,5;PM2;PD9,9;" (line 1 0 0 9 9 ∷ down 9 9 1 31 ∷ []) ∷
    take "SP1;PD;PM;PA5,5,6,6;" (down 6 6 1 29 ∷ []) ∷
    stops "PM;DF;" 1 5 (up 0 0 0 11) ∷
    stops "PM;EP;" 1 5 (up 0 0 0 11) ∷
    stops "PM;IP;" 1 5 (up 0 0 0 11) ∷
    stops "PM;SC;" 1 5 (up 0 0 0 11) ∷
    stops "PM;IW;" 1 5 (up 0 0 0 11) ∷
    stops "PM;RO;" 1 5 (up 0 0 0 11) ∷
    stops "PM;SP1;PU5,5;" 1 5 (up 5 5 0 20) ∷
    stops "PM;CI5;" 1 5 (up 0 0 0 11) ∷
    stops "PM;EA5,5;" 1 5 (up 0 0 0 11) ∷
    stops "PM;ER5,5;" 1 5 (up 0 0 0 11) ∷
    []

-- "PM1 ends a subpolygon, first adding its first point if the last differs in location, with the pen as it is, the exact position moving to that point (to an empty one nothing is added); then
-- the pen is up. PM2 closes likewise, leaves the mode, restores position, mode and pen of PM0." EP shows the edges, and with which pen each was reached
abbrev subpolygons : List Row
subpolygons =
    ends "PA1,2;PM;PD5,6;PM1;" (up 1 2 0 33) ∷
    ends "PA1,2;PM;PD5,6;PM1;PU7,8;PM1;" (up 7 8 0 44) ∷
    ends "PA1,2;PM;PD5,6;PM1;PU7,8;PR3,4;PM1;" (up 7 8 0 62) ∷
    ends "PA.4,0;PM;PR5,5;PM1;PR.2,0;" (up 1 0 0 40) ∷
    ends "PA.4,0;PM;PR.01,0;PM1;PR.09,0;" (up 1 0 0 31) ∷
    ends "PM;PM1;PM1;PM1;" (up 0 0 0 17) ∷
    ends "PA1,2;PM;PD5,6;PM2;" (up 1 2 0 31) ∷
    ends "PD;PA1,2;PM;PU5,6;PM2;" (down 1 2 0 31) ∷
    ends "PM;PR5,6;PM2;PU3,4;PU1,1;" (up 1 1 0 29) ∷
    ends "PR;PM;PA5,6;PM2;PU3,4;PU1,1;" (up 4 5 0 29) ∷
    ends "PA.4,0;PM;PR5,5;PM2;PR.2,0;" (up 1 0 0 29) ∷
    ends "PM;PM2;PM;PM2;" (up 0 0 0 11) ∷
    take "SP1;PM;PD5,0,5,5;PM1;PU9,9;PD8,8;PM2;EP;" (line 1 0 0 5 0 ∷ line 1 5 0 5 5 ∷ line 1 5 5 0 0 ∷ line 1 9 9 8 8 ∷ line 1 8 8 9 9 ∷ up 0 0 1 71 ∷ []) ∷
    take "SP1;PM;PD5,0;PU5,5;PM1;PM2;EP;" (line 1 0 0 5 0 ∷ hidden ∷ hidden ∷ up 0 0 1 44 ∷ []) ∷
    take "SP1;PM;PU5,0;PD;PM2;EP;" (hidden ∷ line 1 5 0 0 0 ∷ up 0 0 1 29 ∷ []) ∷
    take "SP1;PM;PD5,0,0,0;PM2;EP;" (line 1 0 0 5 0 ∷ line 1 5 0 0 0 ∷ up 0 0 1 31 ∷ []) ∷
    take "SP1;PM;PD5,0,0,.4;PM2;EP;" (line 1 0 0 5 0 ∷ line 1 5 0 0 0 ∷ up 0 0 1 31 ∷ []) ∷
    take "SP1;PM;PD0,5;PM2;PM;PD5,0;PM2;EP;" (line 1 0 0 5 0 ∷ line 1 5 0 0 0 ∷ up 0 0 1 31 ∷ []) ∷
    []

-- "Bytes, at most 1024: 2 for PM0 and PM1, 9 for each point, 2 when the point is the first of a PU or PD that itself changed the pen"; a refused pair spends no mark
abbrev polygon_costs : List Row
polygon_costs =
    ends "PM;PU5,5;" (up 5 5 0 20) ∷
    ends "PM;PD5,5;" (down 5 5 0 22) ∷
    ends "PM;PD5,5,6,6;" (down 6 6 0 31) ∷
    ends "PM;PD5,5;PD6,6;" (down 6 6 0 31) ∷
    ends "PM;PD5,5;PU6,6;" (up 6 6 0 33) ∷
    ends "PM;PD;PA5,5;" (down 5 5 0 20) ∷
    ends "PM;PD;PR5,5;" (down 5 5 0 20) ∷
    ends "PM;PD;PD5,5;" (down 5 5 0 20) ∷
    ends "PM;PD;PU5,5;" (up 5 5 0 22) ∷
    ends "PD;PM;PD5,5;" (down 5 5 0 20) ∷
    ends "PD;PM;PU5,5;" (up 5 5 0 22) ∷
    ends "PM;PD5,5;PM1;PU6,6;" (up 6 6 0 42) ∷
    ends "PM;PD5,5;PM1;PD6,6;" (down 6 6 0 44) ∷
    ends "PM;PD5,5;PM2;PM;PA5,5;" (up 5 5 0 20) ∷
    []

-- "polygon bytes 7": 1024 fit. PM0, its point, seven PM1 and 110 points are 1015: PM1 with its point would be 1026 and "is refused together", a point
-- with a new pen would be 1026 too, and PA2,0 fits; then PA3,0 is 7, PA201,0 is 6 as well, PM1 is 7, and PM2, 7, "still ends, open": EP has the 110 edges between 111 points, all reached pen up. PM2 with its point is 1024.
-- With one PM1 less there are 1013 bytes, PM1 with its point is 1024, PM1 without one 1026, and PM2 asks for none; or 1022 with a last point that is the first, and PM1 is 1024.
-- 1025 do not fit: a point or PM2 after 1016 bytes, PM1 with its point after 1014, PM1 without one after 1023
abbrev full_polygons : List Row
full_polygons =
    filled "SP1;IP0,0,5000,1;SC0,1,0,1;PM;PM1;PM1;PM1;PM1;PM1;PM1;PM1;PA0,0," ";PM1;PD2,0;PU;PA2,0;PA3,0;PA201,0;PM1;PM2;EP;"
    (refused 7 505 ∷ refused 7 511 ∷ refused 7 526 ∷ refused 6 534 ∷ refused 7 538 ∷ refused 7 542 ∷ replicate 110 hidden ++ (up 0 0 1 1024 ∷ [])) ∷
    filled "SP1;PM;PM1;PM1;PM1;PM1;PM1;PM1;PM1;PA0,0," ";PM2;EP;" (replicate 110 hidden ++ (up 0 0 1 1024 ∷ [])) ∷
    filled "SP1;PM;PM1;PM1;PM1;PM1;PM1;PM1;PA0,0," ";PM1;PM1;PM2;EP;" (refused 7 482 ∷ replicate 110 hidden ++ (up 0 0 1 1024 ∷ [])) ∷
    filled "PM;PM1;PM1;PM1;PM1;PM1;PM1;PA0,0," "0,0;PM1;PM1;" (refused 7 481 ∷ up 0 0 0 1024 ∷ []) ∷
    filled "PM;PM1;PM1;PM1;PA0,0," "1,0;PA2,0;PM2;" (refused 7 467 ∷ refused 7 471 ∷ up 0 0 0 1016 ∷ []) ∷
    filled "PM;PM1;PM1;PA0,0," "1,0;PM1;PA0,0;PM1;" (refused 7 461 ∷ refused 7 471 ∷ up 0 0 0 1023 ∷ []) ∷
    []

-- "EP, with pen up or down, queues, for each two neighbours of a subpolygon, a segment; it is hidden if the second was reached pen up"; "EP turns them by the turn then in force"; "Pen 0 queues nothing"
abbrev outlines : List Row
outlines =
    take "SP1;PM0;PD10,0;PU10,10;PD0,10;PM2;EP;" (line 1 0 0 10 0 ∷ hidden ∷ line 1 10 10 0 10 ∷ line 1 0 10 0 0 ∷ up 0 0 1 53 ∷ []) ∷
    take "SP1;PM;PD5,0;PM2;PD;EP;" (line 1 0 0 5 0 ∷ line 1 5 0 0 0 ∷ down 0 0 1 31 ∷ []) ∷
    take "SP1;PM;PD5,0;PM2;PA9,9;SP2;EP;EP;" (line 2 0 0 5 0 ∷ line 2 5 0 0 0 ∷ line 2 0 0 5 0 ∷ line 2 5 0 0 0 ∷ up 9 9 2 31 ∷ []) ∷
    take "SP1;PM;PD5,0;PM2;RO90;EP;" (line 1 0 0 0 5 ∷ line 1 0 5 0 0 ∷ up 0 0 1 31 ∷ []) ∷
    take "SP1;PM;PD5,0;PM2;IP0,0,9,9;SC0,1,0,1;EP;" (line 1 0 0 5 0 ∷ line 1 5 0 0 0 ∷ up 0 0 1 31 ∷ []) ∷
    take "PM;PD5,0;PM2;EP;" (up 0 0 0 31 ∷ []) ∷
    take "SP1;EP;" (up 0 0 1 0 ∷ []) ∷
    take "SP1;PM;PM2;EP;" (up 0 0 1 11 ∷ []) ∷
    []

-- "EA and ER (absolute, relative corner) replace the polygon by five points, first along x, all pen down, 49 bytes by definition, and act as EP. Position stays. Pen 0 queues nothing."
abbrev rectangles : List Row
rectangles =
    take "SP1;PA1,2;EA5,9;" (line 1 1 2 5 2 ∷ line 1 5 2 5 9 ∷ line 1 5 9 1 9 ∷ line 1 1 9 1 2 ∷ up 1 2 1 49 ∷ []) ∷
    take "SP1;PA1,2;ER5,9;" (line 1 1 2 6 2 ∷ line 1 6 2 6 11 ∷ line 1 6 11 1 11 ∷ line 1 1 11 1 2 ∷ up 1 2 1 49 ∷ []) ∷
    take "SP1;PR1,2;EA5,9;" (line 1 1 2 5 2 ∷ line 1 5 2 5 9 ∷ line 1 5 9 1 9 ∷ line 1 1 9 1 2 ∷ up 1 2 1 49 ∷ []) ∷
    take "SP1;PA.4,0;ER.2,5;" (line 1 0 0 1 0 ∷ line 1 1 0 1 5 ∷ line 1 1 5 0 5 ∷ line 1 0 5 0 0 ∷ up 0 0 1 49 ∷ []) ∷
    take "EA5,9;SP1;EP;" (line 1 0 0 5 0 ∷ line 1 5 0 5 9 ∷ line 1 5 9 0 9 ∷ line 1 0 9 0 0 ∷ up 0 0 1 49 ∷ []) ∷
    take "PM;PD5,0,5,5,9,9,9,0;PM2;ER5,9;SP1;EP;" (line 1 0 0 5 0 ∷ line 1 5 0 5 9 ∷ line 1 5 9 0 9 ∷ line 1 0 9 0 0 ∷ up 0 0 1 49 ∷ []) ∷
    take "SP1;EA0,0;" (line 1 0 0 0 0 ∷ line 1 0 0 0 0 ∷ line 1 0 0 0 0 ∷ line 1 0 0 0 0 ∷ up 0 0 1 49 ∷ []) ∷
    take "SP1;RO90;ER5,9;" (line 1 0 0 0 5 ∷ stroke 1 (pos 0) (pos 5) (minus 9) (pos 5) ∷ stroke 1 (minus 9) (pos 5) (minus 9) (pos 0) ∷ stroke 1 (minus 9) (pos 0) (pos 0) (pos 0) ∷ up 0 0 1 49 ∷ []) ∷
    take "SP1;IP0,0,10,20;SC0,1,0,1;EA1,1;" (line 1 0 0 10 0 ∷ line 1 10 0 10 20 ∷ line 1 10 20 0 20 ∷ line 1 0 20 0 0 ∷ up 0 0 1 49 ∷ []) ∷
    stops "PM;PM2;IP0,0,5000,10000;SC0,1,0,1;EA200.0001,0;" 6 47 (up 0 0 0 11) ∷
    stops "IP0,0,5000,10000;SC0,1,0,1;PA0,100;ER0,.0001;" 6 45 (up 0 1000000 0 0) ∷
    []

-- ---- Circles

-- "the angle in tenths of a degree, rounded, 5 to 1200, default 50. Chords: 3600 over it, rounded up"
abbrev chord_angles : List Row
chord_angles =
    waits "SP1;CI5;" 72 ∷
    waits "SP1;CI5,.45;" 720 ∷
    stops "SP1;CI5,.4499;" 3 14 (up 0 0 1 0) ∷
    waits "SP1;CI5,.55;" 600 ∷
    waits "SP1;CI5,6.25;" 58 ∷
    waits "SP1;CI5,6.2499;" 59 ∷
    waits "SP1;CI5,119.95;" 3 ∷
    waits "SP1;CI5,119.9499;" 4 ∷
    waits "SP1;CI5,120.0499;" 3 ∷
    stops "SP1;CI5,120.05;" 3 15 (up 0 0 1 0) ∷
    stops "SP1;CI5,0;" 3 10 (up 0 0 1 0) ∷
    stops "SP1;CI5,-5;" 3 11 (up 0 0 1 0) ∷
    waits "CI5;" 0 ∷
    []

-- "Vertices zero, one, two .. stand at whole multiples of the angle; the last is the first again. A vertex adds radius × cosine and radius × sine to O, both over 100,000, unrounded. It is drawn
-- also when the pen is up; position and pen stay. The four points at 0, 90, 180, 270 degrees must be in range."
abbrev circles : List Row
circles =
    take "SP1;PA5,5;CI4,90;" (line 1 9 5 5 9 ∷ line 1 5 9 1 5 ∷ line 1 1 5 5 1 ∷ line 1 5 1 9 5 ∷ up 5 5 1 0 ∷ []) ∷
    take "SP1;PA5,5;PD;CI4,120;" (line 1 9 5 3 8 ∷ line 1 3 8 3 2 ∷ line 1 3 2 9 5 ∷ down 5 5 1 0 ∷ []) ∷
    take "SP1;PA5,5;CI-4,120;" (line 1 1 5 7 2 ∷ line 1 7 2 7 8 ∷ line 1 7 8 1 5 ∷ up 5 5 1 0 ∷ []) ∷
    take "SP1;PA5,5;CI4,100;" (line 1 9 5 4 9 ∷ line 1 4 9 1 4 ∷ line 1 1 4 7 2 ∷ line 1 7 2 9 5 ∷ up 5 5 1 0 ∷ []) ∷
    take "SP1;IP0,0,1000,2000;SC0,100,0,100;PA50,50;CI10,90;" (line 1 600 1000 500 1200 ∷ line 1 500 1200 400 1000 ∷ line 1 400 1000 500 800 ∷ line 1 500 800 600 1000 ∷ up 500 1000 1 0 ∷ []) ∷
    take "SP1;PA5.4,5.4;CI4.2,90;" (line 1 10 5 5 10 ∷ line 1 5 10 1 5 ∷ line 1 1 5 5 1 ∷ line 1 5 1 10 5 ∷ up 5 5 1 0 ∷ []) ∷
    take "SP1;RO90;PA5,-5;CI4,90;" (line 1 5 9 1 5 ∷ line 1 1 5 5 1 ∷ line 1 5 1 9 5 ∷ line 1 9 5 5 9 ∷ seen (pos 5) (minus 5) 1 false 0 ∷ []) ∷
    take "SP1;CI0,120;" (line 1 0 0 0 0 ∷ line 1 0 0 0 0 ∷ line 1 0 0 0 0 ∷ up 0 0 1 0 ∷ []) ∷
    take "PA5,5;CI4,90;" (up 5 5 0 0 ∷ []) ∷
    take "SP1;IW0,0,5,5;PU5,5;CI4,120;" (hidden ∷ line 1 3 5 3 2 ∷ line 1 3 2 5 3 ∷ up 5 5 1 0 ∷ []) ∷
    stops "IP0,0,5000,10000;SC0,1,0,1;PA200,0;CI.0001;" 6 43 (up 1000000 0 0 0) ∷
    stops "IP0,0,5000,10000;SC0,1,0,1;PA0,100;CI.0001;" 6 43 (up 0 1000000 0 0) ∷
    stops "IP0,0,5000,10000;SC0,1,0,1;PA-200,0;CI.0002;" 6 44 (seen (minus 1000000) (pos 0) 0 false 0) ∷
    stops "IP0,0,5000,10000;SC0,1,0,1;PA0,-100;CI.0001;" 6 44 (seen (pos 0) (minus 1000000) 0 false 0) ∷
    stops "SP1;IP0,0,5000,10000;SC0,1,0,1;PA200,0;CI.0001;" 6 47 (up 1000000 0 1 0) ∷
    ends "IP0,0,5000,10000;SC0,1,0,1;PA-200,0;CI.0001;" (seen (minus 1000000) (pos 0) 0 false 0) ∷
    []

-- ---- Drive moves

-- "A stroke becomes a travel and a paint move, or one dot if its ends are equal. Travel holds its start, paint its end, a dot its place. .. units times the pitch, exactly, zero being plus zero. Pitch
-- codes 0 to 3: 0.125, 0.25, 0.5, 1. Each end must be within −32768 to 32767."; "11 before 12". A float is ±m * 2 ^ e
abbrev drive_moves : List Row
drive_moves =
    moved (segment (pos 3) (pos 0) (minus 1) (pos 8)) 0 (Two (Travel (place (plus 3 (minus 3)) none)) (Paint (place (less 1 (minus 3)) (plus 1 (pos 0))))) ∷
    moved (segment (pos 3) (minus 5) (pos 3) (minus 5)) 1 (One (Dot (place (plus 3 (minus 2)) (less 5 (minus 2))))) ∷
    moved (segment (pos 3) (pos 0) (pos 0) (pos 0)) 2 (Two (Travel (place (plus 3 (minus 1)) none)) (Paint (place none none))) ∷
    moved (segment (pos 3) (pos 0) (pos 3) (pos 1)) 3 (Two (Travel (place (plus 3 (pos 0)) none)) (Paint (place (plus 3 (pos 0)) (plus 1 (pos 0))))) ∷
    moved (segment (minus 32768) (minus 32768) (pos 32767) (pos 32767)) 0 (Two (Travel (place (less 1 (pos 12)) (less 1 (pos 12)))) (Paint (place (plus 32767 (minus 3)) (plus 32767 (minus 3))))) ∷
    moved (segment (pos 32767) (pos 32767) (minus 32768) (minus 32768)) 3 (Two (Travel (place (plus 32767 (pos 0)) (plus 32767 (pos 0)))) (Paint (place (less 1 (pos 15)) (less 1 (pos 15))))) ∷
    moved (segment (minus 32769) (pos 0) (pos 0) (pos 0)) 0 (Refused 12) ∷
    moved (segment (pos 0) (minus 32769) (pos 0) (pos 0)) 0 (Refused 12) ∷
    moved (segment (pos 0) (pos 0) (pos 32768) (pos 0)) 0 (Refused 12) ∷
    moved (segment (pos 0) (pos 0) (pos 0) (pos 32768)) 3 (Refused 12) ∷
    moved (segment (pos 0) (pos 0) (pos 1) (pos 1)) 4 (Refused 11) ∷
    moved (segment (pos 0) (pos 0) (pos 0) (pos 32768)) 255 (Refused 11) ∷
    []

-- ---- Causes and numbers

-- "For one byte or call the order is 20, 1, 3 by a number, 2, 3 by a setting, 6, 7": 20 before 1 stands with draw, 6 before 7 with the full polygon
abbrev orders : List Row
orders =
    stops "PA40000@,1;" 1 8 (up 0 0 0 0) ∷
    stops "PA-@,1;" 1 4 (up 0 0 0 0) ∷
    stops "IN-;" 3 4 (up 0 0 0 0) ∷
    stops "SP1,40000;" 3 10 (up 0 0 0 0) ∷
    stops "PA40000;" 3 8 (up 0 0 0 0) ∷
    stops "SP9,1;" 2 6 (up 0 0 0 0) ∷
    stops "SC1,1,0;" 2 8 (up 0 0 0 0) ∷
    stops "PM3,1;" 2 6 (up 0 0 0 0) ∷
    stops "PM1,1;" 2 6 (up 0 0 0 0) ∷
    stops "IP0,0,5000,10000;SC0,1,0,1;PA200,0;CI1,121;" 3 43 (up 1000000 0 0 0) ∷
    stops "IP0,0,5000,10000;SC0,1,0,1;PA201,0,1;" 6 35 (up 0 0 0 0) ∷
    []

-- ---- Checked figures

abbrev checked : List Row
checked =
    -- (a) PA2.5,-2.5 is at (3, −2)
    ends "PA2.5,-2.5;" (seen (pos 3) (minus 2) 0 false 0) ∷
    -- (b) P1 (0,0), P2 (1000,1000), SC0,3,0,3: PA1,2 is at (333, 667)
    ends "IP0,0,1000,1000;SC0,3,0,3;PA1,2;" (up 333 667 0 0) ∷
    -- (c) Then PA0,0 and PR1,0 three times: x 333, 667, 1000; and three pairs in one PR
    ends "IP0,0,1000,1000;SC0,3,0,3;PA1,2;PA0,0;PR1,0;" (up 333 0 0 0) ∷
    ends "IP0,0,1000,1000;SC0,3,0,3;PA1,2;PA0,0;PR1,0;PR1,0;" (up 667 0 0 0) ∷
    ends "IP0,0,1000,1000;SC0,3,0,3;PA1,2;PA0,0;PR1,0;PR1,0;PR1,0;" (up 1000 0 0 0) ∷
    ends "IP0,0,1000,1000;SC0,3,0,3;PA0,0;PR1,0,1,0,1,0;" (up 1000 0 0 0) ∷
    -- (d) SC3,0,0,3, PA1,0: x 667
    ends "IP0,0,1000,1000;SC3,0,0,3;PA1,0;" (up 667 0 0 0) ∷
    -- limits 0,0,10,10: (e) (−5,0) to (15,20) gives (0,5) to (5,10)
    taken ten "SP1;PU-5,0;PD15,20;" (line 1 0 5 5 10 ∷ down 15 20 1 0 ∷ []) ∷
    -- (f) (−5,5) to (5,15) gives the dot (0,10)
    taken ten "SP1;PU-5,5;PD5,15;" (line 1 0 10 0 10 ∷ down 5 15 1 0 ∷ []) ∷
    -- (g) (−5,6) to (5,16) hidden
    taken ten "SP1;PU-5,6;PD5,16;" (hidden ∷ down 5 16 1 0 ∷ []) ∷
    -- (h) (−1,0) to (1,1) gives (0,1) to (1,1)
    taken ten "SP1;PU-1,0;PD1,1;" (line 1 0 1 1 1 ∷ down 1 1 1 0 ∷ []) ∷
    -- (i) RO90, (0,100) is page (−100,0): a dot there
    take "SP1;RO90;PU0,100;PD0,100;" (stroke 1 (minus 100) (pos 0) (minus 100) (pos 0) ∷ down 0 100 1 0 ∷ []) ∷
    -- (j) Fresh, PM0;PD100,0,0,100,0,0;PM2 uses 40 bytes; and so where PM2 adds the last point
    ends "PM0;PD100,0,0,100,0,0;PM2" (down 0 0 0 40) ∷
    ends "PM0;PD100,0,0,100,0,0;PM2;" (up 0 0 0 40) ∷
    ends "PM0;PD100,0,0,100;PM2;" (up 0 0 0 40) ∷
    -- (k) Chord angle 7: 52 chords, all hidden here
    taken ten "SP1;PU5000,5000;CI100,7;" (replicate 52 hidden ++ (up 5000 5000 1 0 ∷ [])) ∷
    -- (l) Radius 1000, angle 60, at (0,0): vertex one (500, 866)
    take "SP1;CI1000,60;" (stroke 1 (pos 1000) (pos 0) (pos 500) (pos 866) ∷ stroke 1 (pos 500) (pos 866) (minus 500) (pos 866) ∷ stroke 1 (minus 500) (pos 866) (minus 1000) (pos 0) ∷ stroke 1 (minus 1000) (pos 0) (minus 500) (minus 866) ∷ stroke 1 (minus 500) (minus 866) (pos 500) (minus 866) ∷ stroke 1 (pos 500) (minus 866) (pos 1000) (pos 0) ∷ up 0 0 1 0 ∷ []) ∷
    -- (m) 32767.9999 passes, 32768 gives 3; −32768 passes, −32768.0001 gives 3: the ends of numerals' `in_range`, to which its law `in-range` holds what is read
    ends "PA32767.9999,0;" (up 32768 0 0 0) ∷
    stops "PA32768,0;" 3 8 (up 0 0 0 0) ∷
    ends "PA-32768,0;" (seen (minus 32768) (pos 0) 0 false 0) ∷
    stops "PA-32768.0001,0;" 3 14 (up 0 0 0 0) ∷
    -- (n) 3 units at pitch 0: 0.375
    moved (segment (pos 3) (pos 3) (pos 3) (pos 3)) 0 (One (Dot (place (plus 3 (minus 3)) (plus 3 (minus 3))))) ∷
    -- the program strokes
    take "IN;SP1;PA0,0;PD100,50;PD20000,50;XX;" (line 1 0 0 100 50 ∷ line 1 100 50 10000 50 ∷ refused 1 35 ∷ down 20000 50 1 0 ∷ []) ∷
    []

-- ---- Document 02, CR 1: arcs

-- "Add AA and AR: centre (absolute or relative), swept angle and optional chord angle, as for CI; three or four numbers": whatever the mode, which stays; on the byte that ends the instruction; not in
-- polygon mode, where "only PU, PD, PA, PR, PM, IN are known". Chord angles of .45 and 120.0499 degrees pass, .4499 and 120.05 do not. The order is 3 by a number, 2, 3 by a setting, 6
abbrev arc_forms : List Row
arc_forms =
    take "SP1;PU100,0;PD;AA0,0,90,30;" (line 1 100 0 87 50 ∷ line 1 87 50 50 87 ∷ line 1 50 87 0 100 ∷ down 0 100 1 0 ∷ []) ∷
    take "SP1;PD;AR-100,0,90,45;" (stroke 1 (pos 0) (pos 0) (minus 29) (pos 71) ∷ stroke 1 (minus 29) (pos 71) (minus 100) (pos 100) ∷ seen (minus 100) (pos 100) 1 true 0 ∷ []) ∷
    ends "PR1,1;AA10,1,180;PR1,0;" (up 20 1 0 0) ∷
    ends "PA1,1;AR9,0,180;PA1,0;" (up 1 0 0 0) ∷
    take "sp1;pu100,0;pd;aa0,0,90,90pu" (line 1 100 0 0 100 ∷ up 0 100 1 0 ∷ []) ∷
    take "AA1,2;AA1,2,3,4,5;AR1;AA;" (refused 2 6 ∷ refused 2 18 ∷ refused 2 22 ∷ refused 2 25 ∷ up 0 0 0 0 ∷ []) ∷
    stops "AA0,0,0,5,1;" 2 12 (up 0 0 0 0) ∷
    stops "AA0,0,400,40000;" 3 16 (up 0 0 0 0) ∷
    stops "IP0,0,10000,10000;SC0,1,0,1;PA99,0;AR0,2,400;" 3 45 (up 990000 0 0 0) ∷
    take "PA1000,0;AA0,0,1,.45;AA0,0,1,.4499;AA0,0,1,120.0499;AA0,0,1,120.05;" (refused 3 35 ∷ refused 3 67 ∷ up 1000 34 0 0 ∷ []) ∷
    take "PM0;AA0,0,90;AR1,1,90;PM2;" (refused 1 6 ∷ refused 1 15 ∷ up 0 0 0 11 ∷ []) ∷
    stops "PM0;PD;AA0,50,90;PU;PM2;" 1 9 (up 0 0 0 11) ∷
    []

-- "The swept angle is rounded to tenths of a degree, −3600 to 3600 without 0, else 3; positive is from x towards y": in current units, so that a mirrored scale mirrors it, and the turn turns it
abbrev arc_sweeps : List Row
arc_sweeps =
    take "SP1;PU100,0;PD;AA0,0,-90,30;" (stroke 1 (pos 100) (pos 0) (pos 87) (minus 50) ∷ stroke 1 (pos 87) (minus 50) (pos 50) (minus 87) ∷ stroke 1 (pos 50) (minus 87) (pos 0) (minus 100) ∷ seen (pos 0) (minus 100) 1 true 0 ∷ []) ∷
    stops "PA100,0;AA0,0,.0499;" 3 20 (up 100 0 0 0) ∷
    ends "PA1000,0;AA0,0,.05;" (up 1000 2 0 0) ∷
    stops "PA1000,0;AA0,0,-.05;" 3 20 (up 1000 0 0 0) ∷
    ends "PA1000,0;AA0,0,-.0501;" (seen (pos 1000) (minus 2) 0 false 0) ∷
    ends "PA1000,0;AA0,0,360.0499;" (up 1000 0 0 0) ∷
    stops "PA1000,0;AA0,0,360.05;" 3 22 (up 1000 0 0 0) ∷
    ends "PA1000,0;AA0,0,-360.05;" (up 1000 0 0 0) ∷
    stops "PA1000,0;AA0,0,-360.0501;" 3 25 (up 1000 0 0 0) ∷
    take "SP1;RO90;PU100,0;PD;AA0,0,90,90;" (stroke 1 (pos 0) (pos 100) (minus 100) (pos 0) ∷ down 0 100 1 0 ∷ []) ∷
    take "IP0,0,100,100;SC1,0,0,1;SP1;PU0,0;PD;AA.5,.5,90,90;" (line 1 100 0 0 0 ∷ down 0 0 1 0 ∷ []) ∷
    []

-- "The way from centre to current point is taken per axis in current units, rounded to ten-thousandths; more than 32768 units either way is 3": with P1 (0,0), P2 (20000,20000) and SC0,1,0,1 a plotter unit is half
-- a ten-thousandth, and a way of a half goes to 1, of minus a half to 0. Of unequal scales an arc is part of an ellipse
abbrev arc_ways : List Row
arc_ways =
    ends "PA32767,0;AA-1,0,1;" (up 32762 572 0 0) ∷
    stops "PA32767,0;AA-1.0001,0,1;" 3 24 (up 32767 0 0 0) ∷
    take "PA0,32767;AA0,-2,1;PA0,-32768;AA0,.0001,1;AA0,0,1;" (refused 3 19 ∷ refused 3 42 ∷ seen (pos 572) (minus 32763) 0 false 0 ∷ []) ∷
    ends "PA32767,0;PR1,0;AR-32768,0,1;" (up 32763 572 0 0) ∷
    ends "IP0,0,20000,20000;PA1,0;SC0,1,0,1;AA0,0,180;" (seen (minus 2) (pos 0) 0 false 0) ∷
    ends "IP0,0,20000,20000;PA-1,0;SC0,1,0,1;AA0,0,180;" (up 0 0 0 0) ∷
    take "IP0,0,3000,3000;PA1000,0;SC0,1,0,1;SP1;PD;AA0,0,180,90;" (line 1 1000 0 0 1000 ∷ stroke 1 (pos 0) (pos 1000) (minus 1000) (pos 0) ∷ seen (minus 1000) (pos 0) 1 true 0 ∷ []) ∷
    take "IP0,0,200,100;SC0,1,0,1;SP1;PU1,.5;PD;AA.5,.5,90,45;" (line 1 200 50 171 85 ∷ line 1 171 85 100 100 ∷ down 100 100 1 0 ∷ []) ∷
    []

-- "The arc starts at the current exact position. Each later vertex is the centre plus that way turned, by whole chord angles and at the last by the swept angle itself. Turning uses the sine table and nothing
-- more is rounded.": the way is from the exact position, 100.5 and not 100.1. At a tenth of a degree 30000 × 175 / 100,000 is 52.5 (52.4 by the true sine); half a ten-thousandth is one plotter unit
abbrev arc_vertices : List Row
arc_vertices =
    take "SP1;PR.4,0;PD;AR-100,0,90,90;" (stroke 1 (pos 0) (pos 0) (minus 100) (pos 100) ∷ seen (minus 100) (pos 100) 1 true 0 ∷ []) ∷
    ends "PA.4,0;AA-100.1,0,90;" (seen (minus 100) (pos 101) 0 false 0) ∷
    take "SP1;PU100,0;PD;AA0,0,12;" (line 1 100 0 100 9 ∷ line 1 100 9 98 17 ∷ line 1 98 17 98 21 ∷ down 98 21 1 0 ∷ []) ∷
    take "SP1;PU100,0;PD;AA0,0,50,20;" (line 1 100 0 94 34 ∷ line 1 94 34 77 64 ∷ line 1 77 64 64 77 ∷ down 64 77 1 0 ∷ []) ∷
    take "SP1;PU100,0;PD;AA0,0,60,20;" (line 1 100 0 94 34 ∷ line 1 94 34 77 64 ∷ line 1 77 64 50 87 ∷ down 50 87 1 0 ∷ []) ∷
    take "SP1;PU100,0;PD;AA0,0,3,120;" (line 1 100 0 100 5 ∷ down 100 5 1 0 ∷ []) ∷
    take "SP1;PU1000,0;PD;AA0,0,360,120;" (stroke 1 (pos 1000) (pos 0) (minus 500) (pos 866) ∷ stroke 1 (minus 500) (pos 866) (minus 500) (minus 866) ∷ stroke 1 (minus 500) (minus 866) (pos 1000) (pos 0) ∷ down 1000 0 1 0 ∷ []) ∷
    take "SP1;PU1000,0;PD;AA0,0,-360,90;" (stroke 1 (pos 1000) (pos 0) (pos 0) (minus 1000) ∷ stroke 1 (pos 0) (minus 1000) (minus 1000) (pos 0) ∷ stroke 1 (minus 1000) (pos 0) (pos 0) (pos 1000) ∷ line 1 0 1000 1000 0 ∷ down 1000 0 1 0 ∷ []) ∷
    ends "PA30000,0;AA0,0,.1;" (up 30000 53 0 0) ∷
    ends "IP0,0,20000,20000;SC0,1,0,1;PA.0001,0;AA0,0,60,60;" (up 1 2 0 0) ∷
    []

-- "The pen stays as it is. The position afterwards is the last vertex, kept as its location with offset 0": 87 and .8 are 88; 86.603 and .8 would be 87
abbrev arc_ends : List Row
arc_ends =
    ends "SP1;PU100,0;AA0,0,90;" (up 0 100 1 0) ∷
    ends "PU100,0;PD;AA0,0,90;" (down 0 100 0 0) ∷
    ends "PA100,0;AA0,0,30;PR.8,0;" (up 88 50 0 0) ∷
    []

-- "Condition 3 covers arcs, each chord between neighbouring exact vertices being a move": with pen down and pen not 0 each waits, to be drawn, fed or clipped as moves are; about the current point each is a dot
abbrev arc_chords : List Row
arc_chords =
    take "SP1;PD;AA0,0,90,45;" (line 1 0 0 0 0 ∷ line 1 0 0 0 0 ∷ down 0 0 1 0 ∷ []) ∷
    taken ten "SP1;PU12,0;PD;AA0,0,90,30;" (line 1 10 6 10 6 ∷ line 1 10 6 6 10 ∷ line 1 6 10 6 10 ∷ down 0 12 1 0 ∷ []) ∷
    waits "SP1;PU100,0;PD;AA0,0,90;" 18 ∷
    waits "SP1;PU100,0;AA0,0,90;" 0 ∷
    waits "PU100,0;PD;AA0,0,90;" 0 ∷
    undrawn "SP1;PU100,0;PD;AA0,0,60,30;@" "" (refused 20 28 ∷ line 1 100 0 87 50 ∷ line 1 87 50 50 87 ∷ idle ∷ down 50 87 1 0 ∷ []) ∷
    feeds (lent "SP1;PU100,0;PD;AA0,0,60,30;PU" (blank ∷ []) ∷ lent "PU" (blank ∷ blank ∷ []) ∷ []) (fed 27 1 21 (path 100 0 87 50 ∷ []) ∷ fed 2 1 0 (path 87 50 50 87 ∷ blank ∷ []) ∷ []) ∷
    []

-- "A vertex out of range refuses the arc with 6 before drawing": pen up too, and one that is not the last; what is between the vertices is not judged
abbrev arc_ranges : List Row
arc_ranges =
    take "IP0,0,10000,10000;SC0,1,0,1;PA99,0;AR1.01,0,90,90;AR0,1.01,90,45;" (refused 6 50 ∷ refused 6 65 ∷ up 990000 0 0 0 ∷ []) ∷
    stops "IP0,0,10000,10000;SC0,1,0,1;PA99.8485,-.8485;AA99,0,90,90;PA99.8485,-.8485;AA99,0,90,45;" 6 88 (seen (pos 998485) (minus 8485) 0 false 0) ∷
    stops "IP0,0,10000,10000;SC0,1,0,1;PA99,0;AR0,2,90;AR0,.5,90;" 6 44 (up 995000 5000 0 0) ∷
    stops "IP0,0,10000,10000;SC0,1,0,1;PA99,0;SP1;PD;AR0,2,180,30;" 6 55 (down 990000 0 1 0) ∷
    []

-- ---- Document 02, CR 2: the fifth decimal

-- "A number shall be the nearest ten-thousandth, a half going to the larger number. So 32767.99999 is now out of range, and −0.00005 is 0." Here too a unit is a ten-thousandth;
-- the whole tail counts, the range is judged after rounding, and numbers that are rounded again start from the ten-thousandths
abbrev fifth_decimal : List Row
fifth_decimal =
    ends "IP0,0,10000,10000;SC0,1,0,1;PA.00005,-.00005;" (up 1 0 0 0) ∷
    ends "IP0,0,10000,10000;SC0,1,0,1;PA.00004999,-.000051;" (seen (pos 0) (minus 1) 0 false 0) ∷
    ends "IP0,0,10000,10000;SC0,1,0,1;PA.00015,-.00015;" (seen (pos 2) (minus 1) 0 false 0) ∷
    ends "IP0,0,10000,10000;SC0,1,0,1;PA.00025,-.00025;" (seen (pos 3) (minus 2) 0 false 0) ∷
    ends "IP0,0,10000,10000;SC0,1,0,1;PA-.00005000000000001,.0000499999999999;" (seen (minus 1) (pos 0) 0 false 0) ∷
    ends "IP0,0,10000,10000;SC0,1,0,1;PA.123456,-.123456;" (seen (pos 1235) (minus 1235) 0 false 0) ∷
    ends "IP0,0,10000,10000;SC0,1,0,1;PA.000061,.000059;" (up 1 1 0 0) ∷
    ends "IP0,0,10000,10000;SC0,1,0,1;PA.00006005,.00005050;" (up 1 1 0 0) ∷
    ends "PA9.99995,-9.99995;" (seen (pos 10) (minus 10) 0 false 0) ∷
    stops "PA32767.99999,0;" 3 14 (up 0 0 0 0) ∷
    stops "PA32767.99995,0;" 3 14 (up 0 0 0 0) ∷
    ends "PA32767.99994999,0;" (up 32768 0 0 0) ∷
    ends "PA-32768.00005,0;" (seen (minus 32768) (pos 0) 0 false 0) ∷
    stops "PA-32768.000050001,0;" 3 19 (up 0 0 0 0) ∷
    stops "SP8.49995;" 3 10 (up 0 0 0 0) ∷
    ends "SP8.499949;" (up 0 0 8 0) ∷
    stops "SC0,.000049,0,1;" 3 16 (up 0 0 0 0) ∷
    ends "IP0,0,10000,10000;SC0,1,0,1;PR.00005,0,.00005,0;" (up 2 0 0 0) ∷
    []

-- ---- Document 02, CR 3: half and three-quarter turns

-- "Halls with the gate on the far side want RO180 and RO270. .. RO with other values remains 3": rounded first, as document 01 has it, from the ten-thousandths (CR 2); counts and polygon mode are as they were
abbrev turn_numbers : List Row
turn_numbers =
    ends "PA3,5;RO179.5;" (seen (minus 3) (minus 5) 0 false 0) ∷
    ends "PA3,5;RO180.4999;" (seen (minus 3) (minus 5) 0 false 0) ∷
    ends "PA3,5;RO179.49995;" (seen (minus 3) (minus 5) 0 false 0) ∷
    ends "PA3,5;RO269.5;" (seen (minus 5) (pos 3) 0 false 0) ∷
    ends "PA3,5;RO270.4999;" (seen (minus 5) (pos 3) 0 false 0) ∷
    stops "PA3,5;RO180;RO179.4999;" 3 23 (seen (minus 3) (minus 5) 0 false 0) ∷
    stops "PA3,5;RO180;RO180.5;" 3 20 (seen (minus 3) (minus 5) 0 false 0) ∷
    stops "PA3,5;RO180;RO179.499949;" 3 25 (seen (minus 3) (minus 5) 0 false 0) ∷
    stops "PA3,5;RO180;RO181;" 3 18 (seen (minus 3) (minus 5) 0 false 0) ∷
    stops "PA3,5;RO180;RO269.4999;" 3 23 (seen (minus 3) (minus 5) 0 false 0) ∷
    stops "PA3,5;RO180;RO270.5;" 3 20 (seen (minus 3) (minus 5) 0 false 0) ∷
    stops "PA3,5;RO180;RO271;" 3 18 (seen (minus 3) (minus 5) 0 false 0) ∷
    stops "PA3,5;RO180;RO360;" 3 18 (seen (minus 3) (minus 5) 0 false 0) ∷
    stops "PA3,5;RO180;RO-90;" 3 18 (seen (minus 3) (minus 5) 0 false 0) ∷
    stops "PA3,5;RO180;RO-180;" 3 19 (seen (minus 3) (minus 5) 0 false 0) ∷
    stops "PA3,5;RO180;RO-270;" 3 19 (seen (minus 3) (minus 5) 0 false 0) ∷
    stops "PA3,5;RO180;RO135;" 3 18 (seen (minus 3) (minus 5) 0 false 0) ∷
    ends "PA3,5;RO180;RO;" (up 3 5 0 0) ∷
    stops "PA3,5;RO180,0;" 2 14 (up 3 5 0 0) ∷
    stops "PM0;RO180;PM2;" 1 6 (up 0 0 0 11) ∷
    []

-- "Page point (−x, −y) and (y, −x) are the new images": one line under each of the four turns; a location is rounded, and then turned; the limits of the machine, P1 and P2 do not turn
abbrev turn_images : List Row
turn_images =
    take "SP1;RO0;PU1,2;PD3,5;" (line 1 1 2 3 5 ∷ down 3 5 1 0 ∷ []) ∷
    take "SP1;RO90;PU1,2;PD3,5;" (stroke 1 (minus 2) (pos 1) (minus 5) (pos 3) ∷ down 3 5 1 0 ∷ []) ∷
    take "SP1;RO180;PU1,2;PD3,5;" (stroke 1 (minus 1) (minus 2) (minus 3) (minus 5) ∷ down 3 5 1 0 ∷ []) ∷
    take "SP1;RO270;PU1,2;PD3,5;" (stroke 1 (pos 2) (minus 1) (pos 5) (minus 3) ∷ down 3 5 1 0 ∷ []) ∷
    take "SP1;RO180;PU2.5,-2.5;PD-.5,1.5;" (stroke 1 (minus 3) (pos 2) (pos 0) (minus 2) ∷ down 0 2 1 0 ∷ []) ∷
    take "SP1;RO270;PU2.5,-2.5;PD-.5,1.5;" (stroke 1 (minus 2) (minus 3) (pos 2) (pos 0) ∷ down 0 2 1 0 ∷ []) ∷
    taken ten "SP1;RO180;PU-5,-5;PD-15,-5;" (line 1 5 5 10 5 ∷ seen (minus 15) (minus 5) 1 true 0 ∷ []) ∷
    taken ten "SP1;RO270;PU-5,5;PD-5,20;" (line 1 5 5 10 5 ∷ seen (minus 5) (pos 20) 1 true 0 ∷ []) ∷
    ends "RO180;IP;SC0,1,0,1;PA1,1;" (up 10000 7000 0 0) ∷
    ends "RO270;IP;SC0,1,0,1;PA1,1;" (up 10000 7000 0 0) ∷
    []

-- document 01, "The page point stays": round by quarters, and from each turn to each other; so it does where IN turns back. B becomes the location
abbrev turn_changes : List Row
turn_changes =
    ends "PA3,5;RO90;RO180;" (seen (minus 3) (minus 5) 0 false 0) ∷
    ends "PA3,5;RO90;RO180;RO270;" (seen (minus 5) (pos 3) 0 false 0) ∷
    ends "PA3,5;RO90;RO180;RO270;RO0;" (up 3 5 0 0) ∷
    ends "RO0;PA1,2;RO90;" (seen (pos 2) (minus 1) 0 false 0) ∷
    ends "RO0;PA1,2;RO180;" (seen (minus 1) (minus 2) 0 false 0) ∷
    ends "RO0;PA1,2;RO270;" (seen (minus 2) (pos 1) 0 false 0) ∷
    ends "RO90;PA1,2;RO0;" (seen (minus 2) (pos 1) 0 false 0) ∷
    ends "RO90;PA1,2;RO180;" (seen (pos 2) (minus 1) 0 false 0) ∷
    ends "RO90;PA1,2;RO270;" (seen (minus 1) (minus 2) 0 false 0) ∷
    ends "RO180;PA1,2;RO0;" (seen (minus 1) (minus 2) 0 false 0) ∷
    ends "RO180;PA1,2;RO90;" (seen (minus 2) (pos 1) 0 false 0) ∷
    ends "RO180;PA1,2;RO270;" (seen (pos 2) (minus 1) 0 false 0) ∷
    ends "RO270;PA1,2;RO0;" (seen (pos 2) (minus 1) 0 false 0) ∷
    ends "RO270;PA1,2;RO90;" (seen (minus 1) (minus 2) 0 false 0) ∷
    ends "RO270;PA1,2;RO180;" (seen (minus 2) (pos 1) 0 false 0) ∷
    ends "RO180;PA1,2;IN;" (seen (minus 1) (minus 2) 0 false 0) ∷
    ends "RO180;PA1,2;DF;" (up 1 2 0 0) ∷
    ends "RO270;PA1,2;IN;" (seen (pos 2) (minus 1) 0 false 0) ∷
    ends "RO270;PA1,2;DF;" (up 1 2 0 0) ∷
    ends "PR.4,0;RO180;PR-.4,0;" (up 0 0 0 0) ∷
    []

-- document 01, "the window turns along": a line across the window and one up, under each turn; and a window that was set under another turn
abbrev turn_windows : List Row
turn_windows =
    take "SP1;IW1,2,5,10;RO0;PU3,0;PD3,100;PU0,4;PD100,4;" (line 1 3 2 3 10 ∷ line 1 1 4 5 4 ∷ down 100 4 1 0 ∷ []) ∷
    take "SP1;IW1,2,5,10;RO90;PU3,0;PD3,100;PU0,4;PD100,4;" (stroke 1 (minus 2) (pos 3) (minus 10) (pos 3) ∷ stroke 1 (minus 4) (pos 1) (minus 4) (pos 5) ∷ down 100 4 1 0 ∷ []) ∷
    take "SP1;IW1,2,5,10;RO180;PU3,0;PD3,100;PU0,4;PD100,4;" (stroke 1 (minus 3) (minus 2) (minus 3) (minus 10) ∷ stroke 1 (minus 1) (minus 4) (minus 5) (minus 4) ∷ down 100 4 1 0 ∷ []) ∷
    take "SP1;IW1,2,5,10;RO270;PU3,0;PD3,100;PU0,4;PD100,4;" (stroke 1 (pos 2) (minus 3) (pos 10) (minus 3) ∷ stroke 1 (pos 4) (minus 1) (pos 4) (minus 5) ∷ down 100 4 1 0 ∷ []) ∷
    take "SP1;RO180;IW1,2,5,10;RO90;PU3,0;PD3,100;PU0,4;PD100,4;" (stroke 1 (minus 2) (pos 3) (minus 10) (pos 3) ∷ stroke 1 (minus 4) (pos 1) (minus 4) (pos 5) ∷ down 100 4 1 0 ∷ []) ∷
    take "SP1;RO270;IW1,2,5,10;RO90;PU3,0;PD3,100;PU0,4;PD100,4;" (stroke 1 (minus 2) (pos 3) (minus 10) (pos 3) ∷ stroke 1 (minus 4) (pos 1) (minus 4) (pos 5) ∷ down 100 4 1 0 ∷ []) ∷
    []

-- what is drawn under each turn: EP "by the turn then in force", a circle, a rectangle, an arc
abbrev turn_shapes : List Row
turn_shapes =
    take "SP1;PM0;PD10,0,10,10;PM2;RO0;EP;" (line 1 0 0 10 0 ∷ line 1 10 0 10 10 ∷ line 1 10 10 0 0 ∷ up 0 0 1 40 ∷ []) ∷
    take "SP1;PM0;PD10,0,10,10;PM2;RO90;EP;" (line 1 0 0 0 10 ∷ stroke 1 (pos 0) (pos 10) (minus 10) (pos 10) ∷ stroke 1 (minus 10) (pos 10) (pos 0) (pos 0) ∷ up 0 0 1 40 ∷ []) ∷
    take "SP1;PM0;PD10,0,10,10;PM2;RO180;EP;" (stroke 1 (pos 0) (pos 0) (minus 10) (pos 0) ∷ stroke 1 (minus 10) (pos 0) (minus 10) (minus 10) ∷ stroke 1 (minus 10) (minus 10) (pos 0) (pos 0) ∷ up 0 0 1 40 ∷ []) ∷
    take "SP1;PM0;PD10,0,10,10;PM2;RO270;EP;" (stroke 1 (pos 0) (pos 0) (pos 0) (minus 10) ∷ stroke 1 (pos 0) (minus 10) (pos 10) (minus 10) ∷ stroke 1 (pos 10) (minus 10) (pos 0) (pos 0) ∷ up 0 0 1 40 ∷ []) ∷
    take "SP1;RO0;PA5,7;CI4,90;" (line 1 9 7 5 11 ∷ line 1 5 11 1 7 ∷ line 1 1 7 5 3 ∷ line 1 5 3 9 7 ∷ up 5 7 1 0 ∷ []) ∷
    take "SP1;RO90;PA5,7;CI4,90;" (stroke 1 (minus 7) (pos 9) (minus 11) (pos 5) ∷ stroke 1 (minus 11) (pos 5) (minus 7) (pos 1) ∷ stroke 1 (minus 7) (pos 1) (minus 3) (pos 5) ∷ stroke 1 (minus 3) (pos 5) (minus 7) (pos 9) ∷ up 5 7 1 0 ∷ []) ∷
    take "SP1;RO180;PA5,7;CI4,90;" (stroke 1 (minus 9) (minus 7) (minus 5) (minus 11) ∷ stroke 1 (minus 5) (minus 11) (minus 1) (minus 7) ∷ stroke 1 (minus 1) (minus 7) (minus 5) (minus 3) ∷ stroke 1 (minus 5) (minus 3) (minus 9) (minus 7) ∷ up 5 7 1 0 ∷ []) ∷
    take "SP1;RO270;PA5,7;CI4,90;" (stroke 1 (pos 7) (minus 9) (pos 11) (minus 5) ∷ stroke 1 (pos 11) (minus 5) (pos 7) (minus 1) ∷ stroke 1 (pos 7) (minus 1) (pos 3) (minus 5) ∷ stroke 1 (pos 3) (minus 5) (pos 7) (minus 9) ∷ up 5 7 1 0 ∷ []) ∷
    take "SP1;RO180;EA5,9;" (stroke 1 (pos 0) (pos 0) (minus 5) (pos 0) ∷ stroke 1 (minus 5) (pos 0) (minus 5) (minus 9) ∷ stroke 1 (minus 5) (minus 9) (pos 0) (minus 9) ∷ stroke 1 (pos 0) (minus 9) (pos 0) (pos 0) ∷ up 0 0 1 49 ∷ []) ∷
    take "SP1;RO270;EA5,9;" (stroke 1 (pos 0) (pos 0) (pos 0) (minus 5) ∷ stroke 1 (pos 0) (minus 5) (pos 9) (minus 5) ∷ stroke 1 (pos 9) (minus 5) (pos 9) (pos 0) ∷ line 1 9 0 0 0 ∷ up 0 0 1 49 ∷ []) ∷
    take "SP1;RO180;PU100,0;PD;AA0,0,90,90;" (stroke 1 (minus 100) (pos 0) (pos 0) (minus 100) ∷ down 0 100 1 0 ∷ []) ∷
    take "SP1;RO270;PU100,0;PD;AA0,0,90,90;" (stroke 1 (pos 0) (minus 100) (pos 100) (pos 0) ∷ down 0 100 1 0 ∷ []) ∷
    []

-- ---- Document 02, CR 4: clip as the manual tells it

-- "Each segment is of exactly one type, by whether each of its ends before clipping lies within the limits, edges included. Its stroke keeps an end that does and puts a point on an edge
-- for one that does not; EP's pen-up edges aside, only with both outside is it hidden."
abbrev in_in : List LineType
in_in = inside_to_inside ∷ []

abbrev in_out : List LineType
in_out = inside_to_outside ∷ []

abbrev out_in : List LineType
out_in = outside_to_inside ∷ []

abbrev out_out : List LineType
out_out = outside_to_outside ∷ []

abbrev line_types : List Row
line_types =
    typed ten "SP1;PU2,2;PD8,8;" in_in ∷
    taken ten "SP1;PU2,2;PD8,8;" (line 1 2 2 8 8 ∷ down 8 8 1 0 ∷ []) ∷
    typed ten "SP1;PU5,5;PD5,15;" in_out ∷
    taken ten "SP1;PU5,5;PD5,15;" (line 1 5 5 5 10 ∷ down 5 15 1 0 ∷ []) ∷
    typed ten "SP1;PU5,15;PD5,5;" out_in ∷
    taken ten "SP1;PU5,15;PD5,5;" (line 1 5 10 5 5 ∷ down 5 5 1 0 ∷ []) ∷
    -- figures (e) to (h)
    typed ten "SP1;PU-5,0;PD15,20;" out_out ∷
    typed ten "SP1;PU-5,5;PD5,15;" out_out ∷
    typed ten "SP1;PU-5,6;PD5,16;" out_out ∷
    typed ten "SP1;PU-1,0;PD1,1;" out_in ∷
    -- the edges are inside
    typed ten "SP1;PU0,0;PD10,10;" in_in ∷
    typed ten "SP1;PU10,5;PD20,5;" in_out ∷
    taken ten "SP1;PU10,5;PD20,5;" (line 1 10 5 10 5 ∷ down 20 5 1 0 ∷ []) ∷
    typed ten "SP1;PU20,5;PD10,5;" out_in ∷
    typed ten "SP1;PU10,-5;PD10,20;" out_out ∷
    taken ten "SP1;PU10,-5;PD10,20;" (line 1 10 0 10 10 ∷ down 10 20 1 0 ∷ []) ∷
    typed ten "SP1;PU5,5;PD5,5;" in_in ∷
    typed ten "SP1;PU15,5;PD15,5;" out_out ∷
    -- by the limits in force, and not by the window or the hard limits alone; where they have no point in common all is outside
    typed ten "SP1;IW2,2,8,8;PU0,5;PD10,5;" out_out ∷
    typed ten "SP1;IW5,-5,20,5;PU0,0;PD12,6;" out_out ∷
    taken ten "SP1;IW5,-5,20,5;PU0,0;PD12,6;" (line 1 5 3 10 5 ∷ down 12 6 1 0 ∷ []) ∷
    typed ten "SP1;IW20,20,30,30;PU5,5;PD25,25;" out_out ∷
    typed wide "SP1;IW0,0,5,10;RO90;PU0,0;PD100,100;" in_out ∷
    -- of located ends: 10.4 is 10, and 10.5 is 11
    typed ten "SP1;PU9.6,5;PD10.4,5,10.5,5;" (inside_to_inside ∷ in_out) ∷
    -- EP's pen-up edges have a type, and are hidden
    typed ten "SP1;PM0;PD5,0;PU5,5;PM2;EP;" (inside_to_inside ∷ inside_to_inside ∷ in_in) ∷
    taken ten "SP1;PM0;PD5,0;PU5,5;PM2;EP;" (line 1 0 0 5 0 ∷ hidden ∷ hidden ∷ up 0 0 1 42 ∷ []) ∷
    typed ten "SP1;CI12,90;" (outside_to_outside ∷ outside_to_outside ∷ outside_to_outside ∷ out_out) ∷
    []

-- ---- Document 02, CR 5: replies for the designers' packages

-- "Give the location and 1 for pen down or 0 for up, P1 and P2, window, the machine's hard limits (each left, bottom, right, top)"; "whole numbers in decimal with commas, closed by 13, 10; a minus
-- sign only below zero"; "OW without a window gives the hard limits turned back". A location is not turned, P1 and P2 are not put in order, a window is not turned or cut by the hard limits
abbrev replies : List Row
replies =
    take "PA3,-4;OA;PD;OA;" (says "3,-4,0" ∷ says "3,-4,1" ∷ seen (pos 3) (minus 4) 0 true 0 ∷ []) ∷
    take "PA-.5,.5;OA;" (says "0,1,0" ∷ up 0 1 0 0 ∷ []) ∷
    take "RO90;PA3,5;OA;" (says "3,5,0" ∷ up 3 5 0 0 ∷ []) ∷
    boxed "OP;IP1,2,3,4;OP;IP10,10;OP;IP5,5,1,1;OP;" (says "-4,-3,2,1" ∷ says "1,2,3,4" ∷ says "10,10,12,12" ∷ says "5,5,1,1" ∷ []) ∷
    boxed "OW;RO90;OW;RO180;OW;RO270;OW;" (says "-4,-3,2,1" ∷ says "-3,-2,1,4" ∷ says "-2,-1,4,3" ∷ says "-1,-4,3,2" ∷ []) ∷
    boxed "IW-5,7,100.5,-8;OW;RO90;OW;RO180;OW;RO270;OW;IW;OW;" (says "-5,-8,101,7" ∷ says "-5,-8,101,7" ∷ says "-5,-8,101,7" ∷ says "-5,-8,101,7" ∷ says "-1,-4,3,2" ∷ []) ∷
    taken (rect (minus 32768) (minus 32768) (pos 32767) (pos 32767)) "RO180;OW;" (says "-32767,-32767,32768,32768" ∷ up 0 0 0 0 ∷ []) ∷
    boxed "OH;RO90;OH;RO180;IP9,9;IW0,0,1,1;OH;" (says "-4,-3,2,1" ∷ says "-4,-3,2,1" ∷ says "-4,-3,2,1" ∷ []) ∷
    started (rect (pos 5) (pos 5) (pos 5) (pos 6)) 10 "OW;OH;" (says "0,0,1,1" ∷ says "0,0,1,1" ∷ up 0 0 0 0 ∷ []) ∷
    take "oa;Oe;" (says "0,0,0" ∷ says "0" ∷ up 0 0 0 0 ∷ []) ∷
    []

-- "and the latest 1, 2, 3, 6 or 7 that take gave, 0 if none since fresh, IN or OE": DF keeps it, and so does an IN or OE that is refused, whose own number is the latest then; so is
-- that of the letter which begins OE
abbrev last_refusals : List Row
last_refusals =
    take "OE;XX;OE;OE;" (says "0" ∷ refused 1 5 ∷ says "1" ∷ says "0" ∷ up 0 0 0 0 ∷ []) ∷
    take "XX;SP1,2;SP9;OE;" (refused 1 2 ∷ refused 2 9 ∷ refused 3 13 ∷ says "3" ∷ up 0 0 0 0 ∷ []) ∷
    take "SP9;SP1,2;XX;OE;" (refused 3 4 ∷ refused 2 10 ∷ refused 1 12 ∷ says "1" ∷ up 0 0 0 0 ∷ []) ∷
    take "IP0,0,10000,10000;SC0,1,0,1;PA101,0;OE;" (refused 6 36 ∷ says "6" ∷ up 0 0 0 0 ∷ []) ∷
    filled "PM0;PA" "1,0,1,0,1,0;PM2;OE;" (refused 7 458 ∷ says "7" ∷ up 0 0 0 1019 ∷ []) ∷
    take "XX;IN;OE;" (refused 1 2 ∷ says "0" ∷ up 0 0 0 0 ∷ []) ∷
    take "XX;DF;OE;" (refused 1 2 ∷ says "1" ∷ up 0 0 0 0 ∷ []) ∷
    take "XX;IN5;OE;" (refused 1 2 ∷ refused 2 7 ∷ says "2" ∷ up 0 0 0 0 ∷ []) ∷
    take "XX;OE5;OE;OE;" (refused 1 2 ∷ refused 2 7 ∷ says "2" ∷ says "0" ∷ up 0 0 0 0 ∷ []) ∷
    take "PA5OE;" (refused 2 4 ∷ says "2" ∷ up 0 0 0 0 ∷ []) ∷
    []

-- "Such an instruction takes no numbers, works in polygon mode too": it stores no bytes there. The manual's other output instructions are not known; "The reply is made when its instruction is
-- carried out": on the byte that ends it, which a blank does not
abbrev reply_forms : List Row
reply_forms =
    take "OA1,2;OP1;OW1;OH1;OE1;OA;" (refused 2 4 ∷ refused 2 10 ∷ refused 2 14 ∷ refused 2 18 ∷ refused 2 22 ∷ says "0,0,0" ∷ up 0 0 0 0 ∷ []) ∷
    taken ten "PM0;PD5,5;OA;OP;OW;OH;OE;PM2;OA;" (says "5,5,1" ∷ says "0,0,10,10" ∷ says "0,0,10,10" ∷ says "0,0,10,10" ∷ says "0" ∷ says "0,0,0" ∷ up 0 0 0 31 ∷ []) ∷
    take "PM0;SP1;OE;PM2;" (refused 1 6 ∷ says "1" ∷ up 0 0 0 11 ∷ []) ∷
    take "OC;OS;OI;OF;" (refused 1 2 ∷ refused 1 5 ∷ refused 1 8 ∷ refused 1 11 ∷ up 0 0 0 0 ∷ []) ∷
    take "PA5,5;OA\n;OA" (says "5,5,0" ∷ up 5 5 0 0 ∷ []) ∷
    []

-- "its reply is fetched by a call with a lent buffer. With no reply waiting that call writes nothing and answers length 0. While a reply waits a byte is refused with 20; feed stops there and does
-- not count it. Buffer bytes past a reply keep their content. (31: buffer shorter than the reply; nothing written, the reply still waits.)" A 20 is not remembered; a draw says idle and leaves the reply
abbrev fetches : List Row
fetches =
    called (held "OA;" ∷ fetch "......" ∷ fetch "......." ∷ fetch "......." ∷ []) (wrote 31 0 "......" ∷ wrote 0 7 "0,0,0\r\n" ∷ wrote 0 0 "......." ∷ told (up 0 0 0 0) ∷ []) ∷
    called (held "OH;" ∷ fetch "" ∷ fetch "............................" ∷ []) (wrote 31 0 "" ∷ wrote 0 25 "-10000,-7000,10000,7000\r\n..." ∷ told (up 0 0 0 0) ∷ []) ∷
    called (fetch "" ∷ fetch "..." ∷ []) (wrote 0 0 "" ∷ wrote 0 0 "..." ∷ told (up 0 0 0 0) ∷ []) ∷
    called (held "OA;XX;" ∷ fetch "......." ∷ held "OE;" ∷ fetch "...." ∷ [])
    (told (refused 20 4) ∷ told (refused 20 5) ∷ told (refused 20 6) ∷ wrote 0 7 "0,0,0\r\n" ∷ wrote 0 3 "0\r\n." ∷ told (up 0 0 0 0) ∷ []) ∷
    called (held "OA;" ∷ draw ∷ fetch "......." ∷ []) (told idle ∷ wrote 0 7 "0,0,0\r\n" ∷ told (up 0 0 0 0) ∷ []) ∷
    called (held "OAPA" ∷ fetch "......." ∷ held "A5,5;" ∷ []) (told (refused 20 4) ∷ wrote 0 7 "0,0,0\r\n" ∷ told (up 5 5 0 0) ∷ []) ∷
    called (held "SP1;PD5,5;" ∷ fetch "......." ∷ held "O" ∷ draw ∷ held "OA;" ∷ held "X" ∷ fetch "......." ∷ [])
    (wrote 0 0 "......." ∷ told (refused 20 1) ∷ told (line 1 0 0 5 5) ∷ told (refused 20 1) ∷ wrote 0 7 "5,5,1\r\n" ∷ told (down 5 5 1 0) ∷ []) ∷
    called (feed (lent "SP1;PD5,5;OA;PD6,6;" (blank ∷ [])) ∷ fetch "......." ∷ feed (lent "PD6,6;" (blank ∷ [])) ∷ [])
    (gave (fed 13 1 20 (path 0 0 5 5 ∷ [])) ∷ wrote 0 7 "5,5,1\r\n" ∷ gave (fed 6 1 0 (path 5 5 6 6 ∷ [])) ∷ told (down 6 6 1 0) ∷ []) ∷
    called (feed (lent "OA;" []) ∷ feed (lent "" []) ∷ feed (lent "X" []) ∷ []) (gave (fed 3 0 0 []) ∷ gave (fed 0 0 0 []) ∷ gave (fed 0 0 20 []) ∷ told (up 0 0 0 0) ∷ []) ∷
    []

-- ---- the table, heading by heading

abbrev pub table : List Row
table =
    fresh_calls ++ draw_calls ++ feed_calls
    ++ names ++ numbers ++ passed_over ++ counts ++ moments
    ++ positions ++ far_off ++ bases ++ modes ++ pens ++ pen_numbers ++ resets ++ corners ++ scales ++ turns ++ windows
    ++ strokes
    ++ polygon_modes ++ subpolygons ++ polygon_costs ++ full_polygons ++ outlines ++ rectangles
    ++ chord_angles ++ circles
    ++ drive_moves
    ++ orders
    ++ checked
    ++ arc_forms ++ arc_sweeps ++ arc_ways ++ arc_vertices ++ arc_ends ++ arc_chords ++ arc_ranges
    ++ fifth_decimal
    ++ turn_numbers ++ turn_images ++ turn_changes ++ turn_windows ++ turn_shapes
    ++ line_types
    ++ replies ++ last_refusals ++ reply_forms ++ fetches
