-- What `search` is handed where a definition goes by tests on numbers: `rules` for unsigned ones, `rules64` for those of i64 too.
use borrow.Author.Rules.{rules as goal_rules}
use borrow.Author.Tests.{lt-ltb, le-ltb, le-leb, lt-leb, eq-eqb, ne_eqb}
use Rattle.exact.specs.Fit.{signed64}

pub ruleset rules = (goal_rules, lt-ltb, le-ltb, le-leb, lt-leb, eq-eqb, ne_eqb)

pub ruleset rules64 = (rules, signed64)
