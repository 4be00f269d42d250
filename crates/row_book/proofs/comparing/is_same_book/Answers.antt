use Rattle.std.proofs.Common.{◌≡◌, ◌∙◌, ap, arith, length, sym}
use Rattle.listed.proofs.Lists.{In_at}
use Rattle.clause_pool.specs.Interned.{row_at}
use Rattle.row_book.specs.Book.{repository_of}
use Rattle.row_book.proofs.{Repositories.{repository_same, same_rows}, Compared.{same_mapped}}
use Rattle.row_book.proofs.comparing.is_same_book.Goals as goal

pub is_same_row-requires-clause-one : goal.is_same_row-requires-clause-one
is_same_row-requires-clause-one c = rw c.row.ensures (c.requires.one.rows.of_pool _ (In_at c.args.book.now.rows c.loop-number.number 0 (omega arith)))

pub is_same_row-requires-clause-other : goal.is_same_row-requires-clause-other
is_same_row-requires-clause-other c =
    let conflicts : c.args.book.now.conflicts ≡ c.args.other.now.conflicts =
    sym c.as_slice.ensures ∙ same_rows c.as_slice.result.now c.as_slice-2.result.now (sym c.are_same_lists.ensures ∙ c.if-not-are_same_lists.false)
    ∙ c.as_slice-2.ensures in
    let size : length c.args.book.now.rows ≡ length c.args.other.now.rows = sym c.args.book.now.paired ∙ ap length conflicts ∙ c.args.other.now.paired in
    rw c.row-in-loop-number.ensures (c.requires.other.rows.of_pool _ (In_at c.args.other.now.rows c.loop-number.number 0 (omega arith)))

pub returns : goal.returns
returns c =
    let conflicts : c.args.book.now.conflicts ≡ c.args.other.now.conflicts =
    sym c.as_slice.ensures ∙ same_rows c.as_slice.result.now c.as_slice-2.result.now (sym c.are_same_lists.ensures ∙ c.if-not-are_same_lists.false)
    ∙ c.as_slice-2.ensures in
    let size : length c.args.book.now.rows ≡ length c.args.other.now.rows = sym c.args.book.now.paired ∙ ap length conflicts ∙ c.args.other.now.paired in
    repository_same (repository_of c.args.pool.now c.args.book.now) (repository_of c.args.other_pool.now c.args.other.now)
    (same_mapped (row_at c.args.pool.now) (row_at c.args.other_pool.now) c.args.book.now.rows c.args.other.now.rows size
    (λ k l. c.loop-number.invariant k (omega arith))) conflicts
