use Rattle.repo_model.proofs.Form.{clause_form, conflict_packages}
use Rattle.repo_model.proofs.laws.repository_is_of_packages.Goals as goal

pub returns : goal.returns
returns c = λ home stanzas. record { clauses = clause_form home stanzas; conflicts = conflict_packages home stanzas }
