use Rattle.std.proofs.{Common.{◌≡◌, ◌++◌, ◌∙◌}, lemmas.Result.{IfOk-weaker}}
use Rattle.clause_pool.specs.{Interned.{clauses_at}, Clauses.{apart_from, minimal_of, in_row_order}}
use Rattle.clause_families.specs.{Families.{all_unions}, Unions.{substituted}}
use Rattle.clause_families.proofs.Rewritten.{unions_minimal, useful_of_pool, useful_there}
use Rattle.clause_families.proofs.rewriting.rewrite.Goals as goal

pub with_unions-requires-clause-useful : goal.with_unions-requires-clause-useful
with_unions-requires-clause-useful c =
    useful_of_pool c.args.pool.now c.args.user c.args.spent c.args.row.now c.args.others.now c.in_ok-useful.useful.items c.as_slice.result.now c.requires.pool c.requires.row c.requires.others c.requires.apart
    c.as_slice.ensures.value c.in_ok-useful.ensures

pub with_unions-requires-clause-own : goal.with_unions-requires-clause-own
with_unions-requires-clause-own c d i =
    c.requires.own d
    (useful_there c.args.pool.now c.args.user c.args.spent c.args.row.now c.args.others.now c.in_ok-useful.useful.items c.as_slice.result.now c.requires.pool c.requires.row c.requires.others c.requires.apart
    c.as_slice.ensures.value c.in_ok-useful.ensures d i)

pub returns-clause-ok : goal.returns-clause-ok
returns-clause-ok c =
    IfOk-weaker c.with_unions.result
    (λ ids. clauses_at c.with_unions.new.pool ids.items ≡ minimal_of (in_row_order (apart_from c.args.spent (clauses_at c.args.pool.now c.args.row.now)
    ++ all_unions c.args.spent (clauses_at c.args.pool.now c.args.row.now) (clauses_at c.args.pool.now c.as_slice.result.now))))
    (λ ids. clauses_at c.with_unions.new.pool ids.items ≡ in_row_order (substituted c.args.user c.args.spent (clauses_at c.args.pool.now c.args.row.now) (clauses_at c.args.pool.now c.args.others.now)))
    (λ ids e. e
    ∙ unions_minimal c.args.pool.now c.args.user c.args.spent c.args.row.now c.args.others.now c.in_ok-useful.useful.items c.as_slice.result.now c.requires.pool c.requires.row c.requires.others c.requires.apart
    c.as_slice.ensures.value c.in_ok-useful.ensures)
    c.with_unions.ensures.ok
