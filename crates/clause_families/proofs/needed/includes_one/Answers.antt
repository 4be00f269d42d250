use Rattle.std.proofs.{Common.{◌≡◌, ◌∙◌, false, sym}, lemmas.Bool.{OnFalse_from, OnTrue_from}}
use Rattle.clause_pool.specs.{Interned.{clauses_at}, Clauses.{apart_from}}
use Rattle.clause_families.specs.{Inclusion.{has_shorter}, Families.{IncludesOneOf}}
use Rattle.clause_families.proofs.Sifted.{row_clear, row_found, shorter_found}
use Rattle.clause_families.proofs.needed.includes_one.Goals as goal

pub has_shorter-requires-clause-tree : goal.has_shorter-requires-clause-tree
has_shorter-requires-clause-tree c = record { family = apart_from c.args.number (clauses_at c.args.pool.now c.args.row.now); tells = c.requires.kept c.in-Some.tree c.in-Some.is }

pub returns-in-Some-clause-found : goal.returns-in-Some-clause-found
returns-in-Some-clause-found c =
    OnTrue_from c.has_shorter.result (IncludesOneOf (apart_from c.args.number (clauses_at c.args.pool.now c.args.row.now)) c.args.clause.now)
    (λ h. shorter_found (apart_from c.args.number (clauses_at c.args.pool.now c.args.row.now)) c.args.clause.now
    (sym (c.has_shorter.ensures (apart_from c.args.number (clauses_at c.args.pool.now c.args.row.now)) (c.requires.kept c.in-Some.tree c.in-Some.is)) ∙ h))

pub returns-in-None-clause-found : goal.returns-in-None-clause-found
returns-in-None-clause-found c =
    OnTrue_from c.row_includes_one.result (IncludesOneOf (apart_from c.args.number (clauses_at c.args.pool.now c.args.row.now)) c.args.clause.now)
    (λ h. row_found c.args.number (clauses_at c.args.pool.now c.args.row.now) c.args.clause.now c.requires.apart (sym c.row_includes_one.ensures ∙ h))

pub returns-in-None-clause-clear : goal.returns-in-None-clause-clear
returns-in-None-clause-clear c =
    OnFalse_from c.row_includes_one.result (has_shorter (apart_from c.args.number (clauses_at c.args.pool.now c.args.row.now)) c.args.clause.now ≡ false)
    (λ h. row_clear c.args.number (clauses_at c.args.pool.now c.args.row.now) c.args.clause.now (sym c.row_includes_one.ensures ∙ h))
