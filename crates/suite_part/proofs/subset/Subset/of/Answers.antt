use Rattle.std.proofs.Common.{◌∙◌, ap, length, map}
use Rattle.row_book.specs.{Numbers.{numbers}, Parts.{place_in}}
use Rattle.suite_part.proofs.subset.Subset.of.Goals as goal

pub invariant_of-result : goal.invariant_of-result
invariant_of-result c = record {
  numbered = c.in_ok-places.ensures ∙ ap (λ flags. map (place_in flags) (numbers (length flags) 0)) c.deref.ensures.value;
}
