-- An event that is carried out leaves nothing to remember.
use Rattle.std.specs.Prelude.{◌≡◌, ℕ}
use Rattle.std.proofs.Common.{ap}
use Rattle.hpgl.specs.declared.Acted.{Acted}
use Rattle.hpgl.specs.Replies.{remembered, remembering}
use Rattle.hpgl.specs.Rules.{noting, noted}

pub noted-none : (t : Acted) → t.number ≡ 0 → noted t ≡ t
unfolding noted noting remembering remembered
noted-none t e = λ i. record { core = ap (λ (k : ℕ). noting k t.core) e i; action = t.action; number = t.number }
