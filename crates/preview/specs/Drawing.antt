-- How far a drawing is, after a feed and at the start of a block. A reply is fetched and forgotten.
use Rattle.std.specs.Prelude.{Bool, true, cond, List, ℕ, ◌+◌, ◌-◌, eqb, ltb, length, take, drop}
use Rattle.hpgl.specs.declared.Look.{Look}
use Rattle.hpgl.specs.Machine.{fetch_state, look_at}
use Rattle.hpgl.proofs.ValidKept.{usable-fetch}
use Rattle.machine.specs.declared.Machine.{Machine}
use Rattle.machine.specs.Machines.{machine_of}
use Rattle.feeding.proofs.FeedLaws.{feed-usable}
use Rattle.feeding.specs.Feed.{feed_of}
use Rattle.feed.specs.declared.Listed.{Listed}
use Rattle.feed.specs.Fed.{listed_of}
use Rattle.preview.specs.Listings.{listed_as}
use Rattle.console.specs.Sums.{added}
use Rattle.counting.specs.Names.{letters_before}
use Rattle.noting.specs.Inks.{inks_of}
use Rattle.noting.specs.Refusals.{refuses, refused_of}
use Rattle.noting.specs.Astray.{kind_at, moves_of, changes_of, astray_of, part_end}
use Rattle.tracing.specs.declared.Hand.{Hand}
use Rattle.captions.specs.declared.Painted.{Painted}
use Rattle.preview.specs.declared.strokes.Drawing.{Drawing}

-- a buffer that takes every reply (`reply-short` in ReplyLaws.antt of hpgl)
abbrev pub reply_bytes : ℕ
reply_bytes = 37

abbrev pub quiet_of : Machine → Machine
quiet_of m = machine_of (fetch_state m.state reply_bytes) (usable-fetch reply_bytes m.usable)

unfoldable pub one_of : Bool → ℕ
one_of b = cond b 1 0

-- some of a block is left after a feed: it stopped, or it was of a part alone
unfoldable pub goes_on : ℕ → ℕ → ℕ → Bool
goes_on number at long = cond (eqb number 0) (ltb at long) true

-- feed counts the bytes from the place on; how far the text is then no contract can say
abbrev pub after_of : Drawing → Listed → List ℕ → Look → Look → Hand → Drawing
after_of d l block before seen hand = record {
  machine = quiet_of l.fed.machine;
  before = d.before;
  letters = d.letters;
  at = d.at + l.fed.taken;
  inks = inks_of d.inks (take l.fed.stored l.list);
  refusals = refused_of d.refusals d.letters block (d.at + l.fed.taken) l.fed.number (added d.before (d.at + l.fed.taken));
  refused = added d.refused (one_of (refuses l.fed.number));
  moves = added d.moves (one_of (moves_of (kind_at d.letters block (d.at + l.fed.taken) l.fed.number)));
  harms = added d.harms (one_of (changes_of (kind_at d.letters block (d.at + l.fed.taken) l.fed.number)));
  astray = astray_of d.astray (moves_of (kind_at d.letters block (d.at + l.fed.taken) l.fed.number)) before seen;
  more = goes_on l.fed.number (d.at + l.fed.taken) (length block);
  hand = hand;
}

-- what is left of a block, or a part of that while the carriage is astray
abbrev pub part_of : Drawing → List ℕ → List ℕ
part_of d block = take (part_end block d.at d.astray - d.at) (drop d.at block)

-- a feed of it
abbrev pub fed_of : Drawing → List ℕ → Listed
fed_of d block = listed_as (listed_of (feed_of d.machine.state (part_of d block) 64)) (feed-usable d.machine.state (part_of d block) 0 64 d.machine.usable)

abbrev pub step_of : Drawing → List ℕ → Hand → Drawing
step_of d block hand = after_of d (fed_of d block) block (look_at d.machine.state) (look_at (fed_of d block).fed.machine.state) hand

abbrev pub begun_of : Drawing → ℕ → Drawing
begun_of d before = record {
  machine = d.machine;
  before = before;
  letters = d.letters;
  at = 0;
  inks = d.inks;
  refusals = d.refusals;
  refused = d.refused;
  moves = d.moves;
  harms = d.harms;
  astray = d.astray;
  more = true;
  hand = d.hand;
}

-- a block is done, and its text written out: its last letters are kept
abbrev pub flushed_of : Drawing → List ℕ → Drawing
flushed_of d block = record {
  machine = d.machine;
  before = d.before;
  letters = letters_before d.letters block (length block);
  at = d.at;
  inks = d.inks;
  refusals = d.refusals;
  refused = d.refused;
  moves = d.moves;
  harms = d.harms;
  astray = d.astray;
  more = d.more;
  hand = d.hand;
}

-- at the end, after so many bytes
abbrev pub ended_of : Drawing → ℕ → Bool → Painted
ended_of d before unread = record {
  inks = d.inks;
  refusals = d.refusals;
  refused = d.refused;
  moves = d.moves;
  harms = d.harms;
  read = before;
  unread = unread;
}
