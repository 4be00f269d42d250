use Rattle.repo_model.proofs.Chosen.{clause_gathered}
use Rattle.repo_model.proofs.clauses.joined_clause.Goals as goal

pub returns : goal.returns
returns c =
    clause_gathered c.args.home.now c.args.packages.now c.args.element.now c.sort_once.new.numbers.items c.in_ok-numbers.numbers.items c.sort_once.ensures.ascending c.sort_once.ensures.same
    c.in_ok-numbers.ensures
