use Rattle.std.proofs.Common.{◌<◌, ◌∙◌, length, sym, subst, ap}
use Rattle.row_book.specs.Book.{AreConflicts, RowsFit}
use Rattle.row_book.proofs.Pairs.{length_pairs, pairs_conflict}
use Rattle.row_book.proofs.book.Book.build.Goals as goal

pub invariant_of-result-clause-few : goal.invariant_of-result-clause-few
invariant_of-result-clause-few c =
    subst (λ rows. length rows < 4294967295) (sym (c.of.ensures ∙ c.in_ok-rows.ensures.items)) c.requires.few

pub invariant_of-result-clause-paired : goal.invariant_of-result-clause-paired
invariant_of-result-clause-paired c =
    ap length (c.of-2.ensures ∙ c.in_ok-conflicts.ensures) ∙ length_pairs c.args.pairs.now (length c.args.rows.now)
    ∙ sym (ap length (c.of.ensures ∙ c.in_ok-rows.ensures.items))

pub returns-clause-sound : goal.returns-clause-sound
returns-clause-sound c = record {
  rows =
      let fit : RowsFit c.args.pool.now c.args.rows.now = record { is_pool = c.clause_count.ensures.sound; of_pool = c.requires.rows; numbers = c.requires.numbers } in
      subst (λ rows. RowsFit c.args.pool.now rows) (sym (c.of.ensures ∙ c.in_ok-rows.ensures.items)) fit;
  conflicts =
      subst (λ table. AreConflicts table) (sym (c.of-2.ensures ∙ c.in_ok-conflicts.ensures))
      (pairs_conflict c.args.pairs.now (length c.args.rows.now) c.requires.pairs);
}
