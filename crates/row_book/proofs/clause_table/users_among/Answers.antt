use Rattle.std.proofs.{Common.{◌∙◌, ap, eqb, get_or, sym}, lemmas.List.{get_or_default, take_all}}
use Rattle.std.proofs.lemmas.List.Sorted.{IsNonDecreasingBy-from_sort, list_any-IsPermutation}
use Rattle.std.specs.List.{list_any}
use Rattle.listed.specs.Lists.{has}
use Rattle.row_book.specs.Uses.{list_in}
use Rattle.row_book.proofs.Holders.{gathered, gathered_more}
use Rattle.row_book.proofs.clause_table.users_among.Goals as goal

pub loop-place-preserved : goal.loop-place-preserved
loop-place-preserved c = λ m.
    let k = c.loop-place.place-index in
    let place = get_or c.args.places.now k 0 in
    gathered_more c.args.users.now c.args.places.now k place c.loop-place.found.items c.list_at.result.now c.extend_from_slice.new.self.items
    c.loop-place-test.true (get_or_default c.args.places.now k 0 place c.loop-place-test.true) c.list_at.ensures c.in_ok-extend_from_slice.ensures.items m (c.loop-place.invariant m)

pub returns : goal.returns
returns c =
    gathered (λ m. list_any (λ d. has (list_in c.args.users.now d) m) c.args.places.now) c.loop-place.found.items c.sort_unstable.new.self.items c.dedup.new.self.items
    (λ m. sym (list_any-IsPermutation (λ k. eqb m k) c.loop-place.found.items c.sort_unstable.new.self.items c.sort_unstable.ensures.permutation))
    (IsNonDecreasingBy-from_sort (λ x. x) c.sort_unstable.new.self.items c.sort_unstable.ensures.sorted) c.dedup.ensures.filtered
    (λ m. c.loop-place.invariant m ∙ ap (list_any (λ d. has (list_in c.args.users.now d) m)) (take_all c.loop-place.place-index c.args.places.now c.loop-place-test.false))
