use Rattle.std.proofs.Common.{◌<◌, sym, subst}
use Rattle.clause_pool.specs.Interned.{clauses_at}
use Rattle.listed.specs.Lists.{In}
use Rattle.listed.proofs.Lists.{In_at}
use Rattle.explain_core.proofs.reach.meet_needs.Goals as goal

pub row-requires-2 : goal.row-requires-2
row-requires-2 c = c.requires.sound.rows.of_pool c.row.result (subst (λ id. In id c.args.book.now.rows) (sym c.row.ensures) (In_at c.args.book.now.rows c.args.«package» 0 c.requires.number))

pub meet_row-requires-clause-fit : goal.meet_row-requires-clause-fit
meet_row-requires-clause-fit c = λ d i n j.
    subst (λ k. n < k) (sym c.requires.size)
    (c.requires.sound.rows.numbers c.row.result (subst (λ id. In id c.args.book.now.rows) (sym c.row.ensures) (In_at c.args.book.now.rows c.args.«package» 0 c.requires.number)) d
    (subst (λ ids. In d (clauses_at c.args.pool.now ids)) c.row-2.ensures.lent i) n j)
