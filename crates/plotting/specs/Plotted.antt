-- Printing by blocks: how far it is, and what a part of it does. From fresh on, the parts put together are the lines of the whole input.
use Rattle.std.specs.Prelude.{Bool, true, false, List, [], ◌++◌, ◌≡◌, ℕ, ◌+◌, ◌*◌, ◌^◌, ◌≤◌, ◌<◌, length, drop}
use Rattle.machine.specs.declared.Machine.{Machine}
use Rattle.machine.specs.declared.Fetched.{Fetched}
use Rattle.textlines.specs.Text.{longest}
use Rattle.decimals.specs.Puts.{Puts}
use Rattle.plotting.specs.declared.Plot.{Plot}
use Rattle.hpgl.specs.Numbers.{most_reply}
use Rattle.printed.specs.Printed.{printed}

-- what is still to be printed, where `later` are the bytes of the blocks to come
abbrev pub due : Plot → List ℕ → List ℕ → List ℕ
due p block later = printed p.machine.state (drop p.at block ++ later) (p.before + p.at)

abbrev pub begun_of : Machine → ℕ → Plot
begun_of m n = record { machine = m; before = n; at = 0; length = 0; more = true }

abbrev pub emptied_of : Plot → Plot
emptied_of p = record { machine = p.machine; before = p.before; at = p.at; length = 0; more = p.more }

-- after a plot and a fetch
abbrev pub moved_of : Plot → ℕ → Fetched → ℕ → Bool → Plot
moved_of p at f end more = record { machine = f.machine; before = p.before; at = at; length = end + f.length; more = more }

-- a plot that may go on with a block of bytes: its place is in the block, no count of bytes leaves 64 bits, and where there is no more all of
-- the block is printed
pub record Ready (p : Plot) (block : List ℕ) : Type 0 where
  pub place : p.at ≤ length block
  pub count : p.before + length block < 2 ^ 64
  pub ends : p.more ≡ false → (p.at ≡ length block) × (due p block [] ≡ [])

-- one plot has at most so many marks, of five numbers each, and its lines with a reply after them so many bytes
abbrev pub most_marks : ℕ
most_marks = 256

abbrev pub most : ℕ
most = most_marks * longest + most_reply

-- From p to q some text was printed: whatever comes later, what was due is that text and what is due now. It stands in the buffer, after what
-- was there, and the rest of the buffer is as before.
pub record Plotted (p q : Plot) (block before after : List ℕ) : Type 0 where
  pub text : List ℕ
  pub prints : (later : List ℕ) → due p block later ≡ text ++ due q block later
  pub puts : Puts text before after p.length q.length
  pub ready : Ready q block
  pub earlier : q.before ≡ p.before
