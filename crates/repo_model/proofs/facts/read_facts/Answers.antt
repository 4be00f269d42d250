use Rattle.std.proofs.Common.{rules}
use Rattle.repo_model.specs.{Facts.{facts_of}, FirstFault.{presence_fault, value_fault}}
use Rattle.repo_model.proofs.facts.read_facts.Goals as goal

pub returns-clause-facts : goal.returns-clause-facts
unfolding facts_of presence_fault value_fault
returns-clause-facts c = search rules
