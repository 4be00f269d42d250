use Rattle.std.{proofs.Common.{◌++◌, [], get_or, sym, ◌∙◌, ap}, specs.List.{flat_map}, proofs.lemmas.List.{append-nil, take_all}}
use Rattle.listed.proofs.Lists.{In_at}
use Rattle.row_book.specs.Book.{listed_for}
use Rattle.suite_compare.{specs.Suspects.{facing}, proofs.Groups.{behind_more}, proofs.Chosen.{all_suspects, chosen_fit, conflicts_within, facing_suspects}}
use Rattle.suite_compare.proofs.suspect.Choices.suspects.Goals as goal

pub classes_at-choice-requires : goal.classes_at-choice-requires
classes_at-choice-requires c = rw (c.as_slice-choices.ensures.value, c.requires.choices.chosen.long) c.requires.kind

pub returns-then-is_empty : goal.returns-then-is_empty
returns-then-is_empty c = all_suspects c.args.kernel.now.book.now.conflicts c.args.self.now.firsts.items c.args.kind c.in_ok-all.all.items (rw c.as_slice-choices.ensures.value at c.in_ok-all.ensures)

pub loop-class-init : goal.loop-class-init
loop-class-init c = c.in_ok-found.ensures.items ∙ c.as_slice-free.ensures.value ∙ sym (append-nil c.args.self.now.without.items)

pub against-conflicts-requires : goal.against-conflicts-requires
against-conflicts-requires c = rw (c.classes_at-choice.ensures, c.as_slice-choices.ensures.value)
    (chosen_fit c.args.kernel.now.pool.now c.args.kernel.now.book.now c.args.kinds.now c.args.self.now.firsts.items _ c.requires.choices.chosen _ (In_at c.args.self.now.firsts.items c.args.kind [] (rw c.requires.choices.chosen.long c.requires.kind))
    _ (In_at (listed_for c.args.self.now.firsts.items c.args.kind) c.loop-class.class-index 0 (rw (c.classes_at-choice.ensures, c.as_slice-choices.ensures.value) at c.loop-class-test.true)))

pub add_holders-requires : goal.add_holders-requires
add_holders-requires c = λ i l. rw c.as_slice-holders.ensures.value (conflicts_within c.args.kernel.now.pool.now c.args.kernel.now.book.now (get_or c.classes_at-choice.result.now c.loop-class.class-index 0) c.against-conflicts.result.now c.args.self.now.holders.items
    c.args.kernel.now.sound c.against-conflicts.ensures c.requires.choices.size _ (In_at c.against-conflicts.result.now i 0 l))

pub loop-class-preserved : goal.loop-class-preserved
loop-class-preserved c = behind_more (λ q. flat_map (listed_for c.args.self.now.holders.items) (listed_for c.args.kernel.now.book.now.conflicts q)) c.classes_at-choice.result.now c.loop-class.class-index 0 c.args.self.now.without.items c.loop-class.found.items c.add_holders.new.found.items _ c.loop-class-test.true
    (rw c.as_slice-holders.ensures.value at c.in_ok-add_holders.ensures) c.loop-class.invariant (ap (flat_map (listed_for c.args.self.now.holders.items)) (sym c.against-conflicts.ensures))

pub returns : goal.returns
returns c = facing_suspects c.args.kernel.now.book.now.conflicts c.args.self.now.firsts.items c.args.self.now.holders.items c.args.kind c.classes_at-choice.result.now c.args.self.now.without.items c.loop-class.found.items c.sort_once.new.numbers.items
    (c.classes_at-choice.ensures ∙ ap (λ z. listed_for z c.args.kind) c.as_slice-choices.ensures.value) (sym c.is_empty.ensures ∙ c.if-is_empty.false) c.requires.choices.holders c.requires.choices.without
    (c.loop-class.invariant ∙ ap (λ z. c.args.self.now.without.items ++ facing c.args.kernel.now.book.now.conflicts c.args.self.now.holders.items z) (take_all c.loop-class.class-index c.classes_at-choice.result.now c.loop-class-test.false)) c.sort_once.ensures.same
