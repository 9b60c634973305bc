-- Five numbers, each of at most 20 bytes and with a byte after it, one after another.
use Rattle.std.proofs.Common.{ℕ, ◌+◌, ◌*◌, List, ◌++◌, get_or, ℤ, pos, arith, rules}
use Prim.Native.Char.{code}
use Rattle.textlines.specs.Text.{line_end, stroke_text}
use Rattle.decimals.specs.Decimal.{whole}
use Rattle.textlines.specs.TextLaws.{Begun, begun, begun_more, begun-room}
use Rattle.textlines.proofs.stroke_line.Goals as goal
use Rattle.textlines.proofs.stroke_line.Lts
use Rattle.textlines.proofs.stroke_line.Tie
use Rattle.textlines.proofs.stroke_line.Reads

abbrev After-put_whole : Type 0
After-put_whole = Lts.After-put_whole5 Tie.the-claims Reads.Pre Reads.Post Tie.handed_clauses

abbrev After-put_whole-x0 : Type 0
After-put_whole-x0 = Lts.After-put_whole Tie.the-claims Reads.Pre Reads.Post Tie.handed_clauses

abbrev After-put_whole-x1 : Type 0
After-put_whole-x1 = Lts.After-put_whole3 Tie.the-claims Reads.Pre Reads.Post Tie.handed_clauses

abbrev After-put_whole-y0 : Type 0
After-put_whole-y0 = Lts.After-put_whole2 Tie.the-claims Reads.Pre Reads.Post Tie.handed_clauses

abbrev After-put_whole-y1 : Type 0
After-put_whole-y1 = Lts.After-put_whole4 Tie.the-claims Reads.Pre Reads.Post Tie.handed_clauses

abbrev Start : Type 0
Start = Lts.Start Tie.the-claims Reads.Pre Reads.Post Tie.handed_clauses

abbrev nth : Start → ℕ → ℤ
nth s k = get_or s.args.numbers.now k (pos 0)

-- the line so far: k numbers stand in the buffer
abbrev Far : Start → ℕ → List ℕ → List ℕ → ℕ → Type 0
Far s k text after end = Begun k text s.args.out.now after s.args.at end

abbrev start1 : After-put_whole-x0 → Start
start1 c = c.before.before.before.before

abbrev text1 : Start → List ℕ
text1 s = whole (nth s (s.args.i * 5)) (code " ")

one : (c : After-put_whole-x0) → Far (start1 c) 1 (text1 (start1 c)) c.put_whole-x0.new.out c.put_whole-x0.result
one c = begun_more (code " ") (begun c.args.out.now c.requires.longest_in_bounds) (search rules) c.put_whole-x0.ensures

abbrev start2 : After-put_whole-y0 → Start
start2 c = start1 c.before.before.before.before.before

abbrev text2 : Start → List ℕ
text2 s = text1 s ++ whole (nth s (s.args.i * 5 + 1)) (code " ")

two : (c : After-put_whole-y0) → Far (start2 c) 2 (text2 (start2 c)) c.put_whole-y0.new.out c.put_whole-y0.result
two c = begun_more (code " ") (one c.before.before.before.before.before) (search rules) c.put_whole-y0.ensures

abbrev start3 : After-put_whole-x1 → Start
start3 c = start2 c.before.before.before.before.before

abbrev text3 : Start → List ℕ
text3 s = text2 s ++ whole (nth s (s.args.i * 5 + 2)) (code " ")

three : (c : After-put_whole-x1) → Far (start3 c) 3 (text3 (start3 c)) c.put_whole-x1.new.out c.put_whole-x1.result
three c = begun_more (code " ") (two c.before.before.before.before.before) (search rules) c.put_whole-x1.ensures

abbrev start4 : After-put_whole-y1 → Start
start4 c = start3 c.before.before.before.before.before

abbrev text4 : Start → List ℕ
text4 s = text3 s ++ whole (nth s (s.args.i * 5 + 3)) (code " ")

four : (c : After-put_whole-y1) → Far (start4 c) 4 (text4 (start4 c)) c.put_whole-y1.new.out c.put_whole-y1.result
four c = begun_more (code " ") (three c.before.before.before.before.before) (search rules) c.put_whole-y1.ensures

abbrev start5 : After-put_whole → Start
start5 c = start4 c.before.before.before.before.before

abbrev text5 : Start → List ℕ
text5 s = text4 s ++ whole (nth s (s.args.i * 5 + 4)) line_end

five : (c : After-put_whole) → Far (start5 c) 5 (text5 (start5 c)) c.put_whole.new.out c.put_whole.result
five c = begun_more line_end (four c.before.before.before.before.before) (search rules) c.put_whole.ensures

pub put_whole-x0-requires : goal.put_whole-x0-requires
put_whole-x0-requires c = let s = c.before.before.before in begun-room (nth s (s.args.i * 5)) (code " ") (begun s.args.out.now s.requires.longest_in_bounds) s.requires.longest_in_bounds tt (search rules)

pub put_whole-y0-requires : goal.put_whole-y0-requires
put_whole-y0-requires c = let s = c.before.before.before.before.before.before.before.before in begun-room (nth s (s.args.i * 5 + 1)) (code " ") (one (search)) s.requires.longest_in_bounds tt (search rules)

pub put_whole-x1-requires : goal.put_whole-x1-requires
put_whole-x1-requires c = let s = c.before.before.before.before.before.before.before.before.before.before.before.before.before in begun-room (nth s (s.args.i * 5 + 2)) (code " ") (two (search)) s.requires.longest_in_bounds tt (search rules)

pub put_whole-y1-requires : goal.put_whole-y1-requires
put_whole-y1-requires c = let s = c.before.before.before.before.before.before.before.before.before.before.before.before.before.before.before.before.before.before in begun-room (nth s (s.args.i * 5 + 3)) (code " ") (three (search)) s.requires.longest_in_bounds tt (search rules)

pub put_whole-requires : goal.put_whole-requires
put_whole-requires c = let s = c.before.before.before.before.before.before.before.before.before.before.before.before.before.before.before.before.before.before.before.before.before.before.before in begun-room (nth s (s.args.i * 5 + 4)) line_end (four (search)) s.requires.longest_in_bounds tt (search rules)

pub returns : goal.returns
unfolding stroke_text
returns c = let f = five (search) in record { puts = f.puts; upper_bound = omega (arith, f.short, f.puts.ends) }
