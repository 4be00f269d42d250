use Rattle.std.proofs.Common.{◌≡◌, IfOk, List, ℕ, subst}
use Rattle.repo_model.specs.Goals.{one_version, packages_named}
use Rattle.status_check.proofs.classes.numbers_of.Goals as goal

pub returns : goal.returns
returns c =
    subst (λ (name : List ℕ). IfOk c.versioned.result (λ numbers. numbers.items ≡ packages_named c.args.suite.now.packages (one_version name c.args.facts.now.version))) c.as_slice.ensures c.versioned.ensures
