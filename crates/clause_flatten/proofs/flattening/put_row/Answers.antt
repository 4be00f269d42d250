use Rattle.std.proofs.{Common.{◌≡◌}, lemmas.Result.{IfOk-weaker}}
use Rattle.clause_pool.specs.Interned.{IsIdOf, clauses_at, row_at}
use Rattle.clause_families.proofs.Families.{row_interned}
use Rattle.clause_flatten.proofs.flattening.put_row.Goals as goal

pub returns-clause-ok : goal.returns-clause-ok
returns-clause-ok c =
    IfOk-weaker c.intern_row.result (IsIdOf c.intern_row.new.self.rows c.args.clauses.now)
    (λ id. row_at c.intern_row.new.self id ≡ clauses_at c.args.pool.now c.args.clauses.now)
    (λ id at. row_interned c.args.pool.now c.intern_row.new.self c.args.clauses.now id c.intern_row.ensures.kept c.requires.of_pool at)
    c.intern_row.ensures.ok
