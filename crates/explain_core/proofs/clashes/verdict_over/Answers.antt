use Rattle.std.proofs.Common.{ap, length, map, subst, sym, ◌∙◌}
use Rattle.clause_pool.specs.Interned.{row_at}
use Rattle.row_book.specs.Book.{lists_of_pairs}
use Rattle.clause_solver.proofs.AnyConflicts.{fit_clauses}
use Rattle.explain_core.proofs.ClashLoop.{over_is}
use Rattle.explain_core.proofs.clashes.verdict_over.Goals as goal

pub verdict_in-requires-clause-clauses : goal.verdict_in-requires-clause-clauses
verdict_in-requires-clause-clauses c =
    let asked = c.args.asked.now in
    ap (map (row_at asked.book.pool.now)) (c.in_ok-chosen.ensures.rows ∙ c.as_slice.ensures) ∙ ap (λ R. R.clauses) (sym asked.of_book)

pub verdict_in-requires-clause-goals : goal.verdict_in-requires-clause-goals
verdict_in-requires-clause-goals c =
    let asked = c.args.asked.now in
    fit_clauses asked.book.pool.now asked.book.book.now asked.solver c.args.goals.now asked.of_book c.requires.goals

pub returns : goal.returns
returns c =
    let asked = c.args.asked.now in
    over_is asked.book.pool.now asked.book.book.now c.in_ok-chosen.chosen c.args.pairs.now c.args.goals.now c.args.budget c.in_ok-verdict.verdict
    (c.in_ok-chosen.ensures.rows ∙ c.as_slice.ensures)
    (c.in_ok-chosen.ensures.conflicts ∙ ap (λ r. lists_of_pairs c.args.pairs.now (length r)) c.as_slice.ensures)
    c.in_ok-chosen.ensures.sound c.requires.goals c.in_ok-verdict.ensures
