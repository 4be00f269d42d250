use Rattle.std.proofs.Common.{◌∙◌, ap, sym}
use Rattle.listed.specs.Lists.{has}
use Rattle.row_book.proofs.Tables.{wanted_passed, wanted_pushed}
use Rattle.row_book.proofs.uses.add_wanted.Goals as goal
use Rattle.row_book.proofs.uses.add_wanted.Goals.{then-holds_sorted+in_ok-push, else-holds_sorted}

pub loop-number-preserved : goal.loop-number-preserved
loop-number-preserved c = λ n.
    elim c.if-holds_sorted.branch [
      | then-holds_sorted+in_ok-push w ↦
          ap (λ v. has v.items n) w.found-is
          ∙ wanted_pushed c.args.found.now.items c.loop-number.found.items w.push.new.self.items c.args.clause.now c.args.wanted.now c.loop-number.number-index
          c.loop-number-test.true (sym w.if-holds_sorted.true ∙ c.holds_sorted.ensures) w.in_ok-push.ensures.items n (c.loop-number.invariant n)
      | else-holds_sorted w ↦
          ap (λ v. has v.items n) w.found-is
          ∙ wanted_passed c.args.found.now.items c.loop-number.found.items c.args.clause.now c.args.wanted.now c.loop-number.number-index
          c.loop-number-test.true (sym w.if-holds_sorted.false ∙ c.holds_sorted.ensures) n (c.loop-number.invariant n)
    ]
