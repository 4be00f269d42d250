use Rattle.std.proofs.Common.{◌∙◌, ◌<◌, length, subst, sym}
use Rattle.listed.proofs.Lists.{In_at}
use Rattle.suite_compare.proofs.{Judged.{bad_within}, Named.{both_new, both_old}, Paired.{listed_below, pair_lines_are, told_within}}
use Rattle.suite_compare.proofs.comparison.put_pair_lines.Goals as goal

pub all_partners-requires-clause-olds : goal.all_partners-requires-clause-olds
all_partners-requires-clause-olds c = λ a l. listed_below c.args.sides.now.common.kind_of.items _ _ c.args.sides.now.old_long c.args.sides.now.old_within _ (c.in_ok-table.ensures.paired.only_old _ (In_at c.in_ok-table.table.kind_pairs.old.items a 0 l))

pub all_partners-requires-clause-count : goal.all_partners-requires-clause-count
all_partners-requires-clause-count c = c.in_ok-table.ensures.count ∙ sym c.requires.long

pub all_partners-requires-clause-bad : goal.all_partners-requires-clause-bad
all_partners-requires-clause-bad c = λ k b i. bad_within c.args.sides.now.side.judge c.args.bad.now k b c.requires i

pub tell_pairs-requires-clause-kind_pairs : goal.tell_pairs-requires-clause-kind_pairs
tell_pairs-requires-clause-kind_pairs c = c.in_ok-table.ensures.paired.long ∙ c.args.sides.now.long

pub tell_pairs-requires-clause-within : goal.tell_pairs-requires-clause-within
tell_pairs-requires-clause-within c = λ i l. rw (c.deref.ensures.value, c.in_ok-partners.ensures.long) (c.in_ok-table.ensures.paired.within i (subst (λ z. i < z) (sym c.args.sides.now.long) l))

pub tell_pairs-requires-clause-told : goal.tell_pairs-requires-clause-told
tell_pairs-requires-clause-told c = rw c.deref.ensures.value
    (told_within (length c.args.sides.now.common.names.items) c.args.sides.now.old.now.judge c.args.sides.now.side.judge c.in_ok-table.table c.args.bad.now c.in_ok-partners.partners.items (c.in_ok-table.ensures.paired.long ∙ c.args.sides.now.long)
    c.in_ok-table.ensures.fits c.in_ok-table.ensures.count c.requires c.in_ok-partners.ensures)

pub tell_pairs-requires-clause-undecided : goal.tell_pairs-requires-clause-undecided
tell_pairs-requires-clause-undecided c = rw c.deref.ensures.value (λ a l. (c.in_ok-partners.ensures.each a (subst (λ z. a < z) c.in_ok-partners.ensures.long l)).undecided_ascending)

pub returns : goal.returns
returns c = λ v w are.
    let told = pair_lines_are c.args.sides.now.common.names.items c.args.sides.now.old.now c.args.sides.now.side c.args.sides.now.common.kind_of.items c.in_ok-table.table c.args.bad.now c.in_ok-partners.partners.items v w
    (both_old c.args.sides.now) (both_new c.args.sides.now) c.in_ok-table.ensures.paired c.in_ok-table.ensures.fits c.requires c.in_ok-partners.ensures are.old are.new in
    rw (c.deref.ensures.value, told) at c.in_ok-tell_pairs.ensures
