use Rattle.std.proofs.Common.{◌∙◌, ap, subst, sym}
use Rattle.clause_pool.specs.Interned.{clauses_at, OfPool}
use Rattle.listed.specs.Lists.{In}
use Rattle.row_book.proofs.Books.{row_ascending}
use Rattle.clause_flatten.proofs.Tidied.{kept_within, tidied_row}
use Rattle.clause_flatten.proofs.tidy_rows.tidy_row.Goals as goal

pub kept_clauses-requires-clause-rising : goal.kept_clauses-requires-clause-rising
kept_clauses-requires-clause-rising c d i =
    row_ascending c.args.pool.now c.requires.pool c.args.row c.requires.row d (subst (λ ids. In d (clauses_at c.args.pool.now ids)) c.row.ensures.lent i)

pub returns-clause-of_pool : goal.returns-clause-of_pool
returns-clause-of_pool c =
    subst (OfPool c.args.pool.now) (sym c.of.ensures) (λ id i. c.row.ensures.of_pool id (kept_within c.args.pool.now c.args.number c.row.result.now c.in_ok-kept.kept.items c.in_ok-kept.ensures id i))

pub returns-clause-tidied : goal.returns-clause-tidied
returns-clause-tidied c =
    ap (clauses_at c.args.pool.now) c.of.ensures
    ∙ tidied_row c.args.pool.now c.args.number c.args.row c.row.result.now c.in_ok-kept.kept.items c.requires.pool c.requires.row c.row.ensures.lent c.in_ok-kept.ensures
