use Rattle.std.proofs.Common.{◌∙◌, ap, map}
use Rattle.clause_pool.specs.Clauses.{minimal_of}
use Rattle.class_merge.proofs.Families.{tidy_book}
use Rattle.class_merge.proofs.merging.interned.Goals as goal

pub returns-clause-book : goal.returns-clause-book
returns-clause-book c = λ Q are.
    tidy_book Q c.args.made are c.family_rows.new.pool _ c.in_ok-rows.rows.items (c.family_rows.ensures.kept.sound c.requires.pool) (c.in_ok-rows.ensures.rows ∙ ap (map minimal_of) c.deref.ensures.value) c.in_ok-rows.ensures.of_pool
    c.of.ensures c.of-2.ensures
