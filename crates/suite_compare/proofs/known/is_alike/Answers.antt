use Rattle.std.proofs.{Common.{◌∙◌, sym}, lemmas.Bool.{OnTrue_at, OnTrue_from}}
use Rattle.row_book.proofs.Repositories.{same_rows}
use Rattle.suite_compare.specs.Known.{IsAskedAlike}
use Rattle.suite_compare.proofs.known.is_alike.Goals as goal

pub returns : goal.returns
returns c = OnTrue_from c.is_same_book.result (IsAskedAlike c.args.known.now c.args.judge.now) (λ same. record {
  kernel = sym (OnTrue_at same c.is_same_book.ensures);
  kinds = sym (sym c.deref.ensures.value ∙ same_rows c.deref.result.now c.deref-2.result.now (sym c.are_same_lists.ensures ∙ c.if-not-are_same_lists.false) ∙ c.deref-2.ensures.value);
  budget = sym c.if-known-judge.false;
})
