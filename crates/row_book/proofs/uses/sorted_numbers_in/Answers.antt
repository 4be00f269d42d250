use Rattle.std.proofs.{Common.{◌∙◌, eqb, sym}, lemmas.List.Sorted.{IsNonDecreasingBy-from_sort, list_any-IsPermutation}}
use Rattle.row_book.proofs.uses.sorted_numbers_in.Goals as goal

pub returns-clause-members : goal.returns-clause-members
returns-clause-members c = λ n. sym (list_any-IsPermutation (λ m. eqb n m) c.in_ok-found.found.items c.sort_unstable.new.self.items c.sort_unstable.ensures.permutation) ∙ c.in_ok-found.ensures n

pub returns-clause-sorted : goal.returns-clause-sorted
returns-clause-sorted c = IsNonDecreasingBy-from_sort (λ x. x) c.sort_unstable.new.self.items c.sort_unstable.ensures.sorted
