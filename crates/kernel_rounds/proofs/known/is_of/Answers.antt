use Rattle.std.proofs.lemmas.Bool.{OnTrue_at, OnTrue_from}
use Rattle.row_book.specs.Book.{repository_of}
use Rattle.kernel_rounds.specs.Known.{AreRoundsOf}
use Rattle.kernel_rounds.proofs.known.is_of.Goals as goal

pub returns : goal.returns
returns c = OnTrue_from c.is_same_book.result (AreRoundsOf c.args.known.now c.args.limit (repository_of c.args.pool.now c.args.first.now)) (λ same. record {
  limit_is = c.if-known-limit.false;
  is = OnTrue_at same c.is_same_book.ensures;
})
