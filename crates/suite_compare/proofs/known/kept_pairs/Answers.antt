use Rattle.std.proofs.Common.{◌≡◌, ◌∙◌, ap, map, subst, sym}
use Rattle.clause_pool.specs.Interned.{row_at}
use Rattle.row_book.specs.Book.{AreConflicts, RowsFit, repository_of}
use Rattle.row_book.proofs.Repositories.{repository_same}
use Rattle.suite_compare.{specs.Kinds.{kernel_in}, proofs.Alike.{all_bad_alike}}
use Rattle.suite_compare.proofs.known.kept_pairs.Goals as goal

pub returns-clause-known : goal.returns-clause-known
returns-clause-known c =
    let kernel : repository_of c.carry.new.into c.in_ok-book.book ≡ kernel_in c.args.judge.now =
    c.in_ok-book.ensures.same.repository
    ∙ repository_same (repository_of c.args.judge.now.kernel.pool.now c.in_ok-copy.copy) (kernel_in c.args.judge.now) (ap (map (row_at c.args.judge.now.kernel.pool.now)) c.in_ok-copy.ensures.rows) c.in_ok-copy.ensures.conflicts in
    record {
      sound = c.in_ok-book.ensures.same.sound (record {
        rows = subst (RowsFit c.args.judge.now.kernel.pool.now) (sym c.in_ok-copy.ensures.rows) c.args.judge.now.kernel.sound.rows;
        conflicts = subst AreConflicts (sym c.in_ok-copy.ensures.conflicts) c.args.judge.now.kernel.sound.conflicts;
      });
      bad = λ judge alike.
          all_bad_alike c.args.judge.now judge (alike.kernel ∙ kernel) (alike.kinds ∙ c.in_ok-kinds.ensures ∙ c.deref.ensures.value) alike.budget c.args.lists.items c.requires;
    }
