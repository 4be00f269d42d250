use Rattle.std.proofs.{Common.{◌≡◌, ◌<◌, ◌∙◌, [], ap, arith, false, get_or, length, subst, sym}, lemmas.List.{get_or_read}}
use Rattle.row_book.proofs.{PartSound.{conflict_in_book}, Placed.{made_less, made_more}}
use Rattle.listed.specs.Lists.{In}
use Rattle.row_book.specs.Parts.{chosen_in}
use Rattle.suite_part.proofs.part.conflicts_in.Goals as goal
use Rattle.suite_part.proofs.part.conflicts_in.Goals.{then-index+in_ok-list+in_ok-push, else-index}

pub among-requires : goal.among-requires
among-requires c = λ n i.
    subst (λ z. n < z) (sym c.requires.flags) (conflict_in_book c.args.book.now c.requires.conflicts c.loop-number.number n (subst (λ z. In n z) c.against.ensures i))

pub loop-number-preserved : goal.loop-number-preserved
loop-number-preserved c =
    let flags = c.args.chosen.now.flags.items in
    let book = c.args.book.now in
    let place = c.loop-number.number in
    let size = c.requires.flags in
    let paired = book.paired in
    let in_rows : place < length book.rows = subst (λ z. place < z) c.size-number-end.ensures c.loop-number-test.true in
    let in_flags : place < length flags = omega arith in
    let in_lists : place < length book.conflicts = omega arith in
    let read : c.index.result.now ≡ get_or flags place false = get_or_read flags place c.index.result.now in_flags c.index.ensures false in
    elim c.if-index.branch [
      | then-index+in_ok-list+in_ok-push w ↦
          let among : w.in_ok-list.list.items ≡ chosen_in flags (get_or book.conflicts place []) = w.in_ok-list.ensures ∙ ap (chosen_in flags) w.against.ensures in
          made_more (chosen_in flags) flags book.conflicts place [] in_flags in_lists c.loop-number.lists.items c.loop-number.invariant c.if-index.lists.items w.of.result
          (sym read ∙ w.if-index.true) (w.of.ensures ∙ among) (ap (λ v. v.items) w.lists-is ∙ w.in_ok-push.ensures.items)
      | else-index w ↦
          ap (λ v. v.items) w.lists-is ∙ made_less (chosen_in flags) flags book.conflicts place [] in_flags in_lists c.loop-number.lists.items c.loop-number.invariant (sym read ∙ w.if-index.false)
    ]
