use Rattle.std.proofs.Common.{◌≡◌, map}
use Rattle.row_book.specs.{Numbers.{numbers}, Parts.{place_in}}
use Rattle.suite_part.proofs.subset.places_in.Given as goal

abbrev pub invariant-loop-flag : goal.invariant-loop-flag
invariant-loop-flag l = record {
  made : l.places.items ≡ map (place_in l.flags) (numbers l.flag-index 0);
  counted : l.count ≡ place_in l.flags l.flag-index;
}
