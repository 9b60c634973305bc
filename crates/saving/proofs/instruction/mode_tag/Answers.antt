use Rattle.exact.proofs.Rules.{rules}
use Rattle.saved.specs.SavedReader.{mode_tag}
use Rattle.saving.proofs.instruction.mode_tag.Goals as goal

pub returns-in-Idle : goal.returns-in-Idle
unfolding mode_tag
returns-in-Idle c = search (rules, c.in-Idle.is)

pub returns-in-First : goal.returns-in-First
unfolding mode_tag
returns-in-First c = search (rules, c.in-First.is)

pub returns-in-Parameters : goal.returns-in-Parameters
unfolding mode_tag
returns-in-Parameters c = search (rules, c.in-Parameters.is)

pub returns-in-InNumber : goal.returns-in-InNumber
unfolding mode_tag
returns-in-InNumber c = search (rules, c.in-InNumber.is)

pub returns-in-PassOver : goal.returns-in-PassOver
unfolding mode_tag
returns-in-PassOver c = search (rules, c.in-PassOver.is)

pub returns-in-Label : goal.returns-in-Label
unfolding mode_tag
returns-in-Label c = search (rules, c.in-Label.is)
