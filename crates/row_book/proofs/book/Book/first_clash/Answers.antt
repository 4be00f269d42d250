use Rattle.std.proofs.Common.{◌∙◌, ◌&&◌, ltb, sym, ap, arith}
use Rattle.std.specs.List.{find}
use Rattle.row_book.specs.Flags.{flag}
use Rattle.row_book.proofs.Faults.{no_clash_more, no_clash_skip, no_clash_all, clash_first}
use Rattle.row_book.proofs.book.Book.first_clash.Goals as goal
use Rattle.row_book.proofs.book.Book.first_clash.Goals.{then-is_member+in_default, else-is_member}

pub returns-in-Some : goal.returns-in-Some
returns-in-Some c =
    clash_first c.args.self.now.conflicts c.args.chosen.now c.loop-low.low c.in-Some.high c.requires.conflicts (sym c.if-is_member.ensures) c.loop-low.invariant
    (sym (c.in-Some.ensures ∙ ap (find (λ n. ltb c.loop-low.low n && flag c.args.chosen.now n)) c.against.ensures))

pub loop-low-preserved : goal.loop-low-preserved
loop-low-preserved c =
    elim c.if-is_member.branch [
      | then-is_member+in_default w ↦
          no_clash_more c.args.self.now.conflicts c.args.chosen.now c.loop-low.low c.loop-low.invariant
          (sym (w.in_default.ensures ∙ ap (find (λ n. ltb c.loop-low.low n && flag c.args.chosen.now n)) w.against.ensures))
      | else-is_member w ↦
          no_clash_skip c.args.self.now.conflicts c.args.chosen.now c.loop-low.low c.loop-low.invariant (sym w.if-is_member.ensures)
    ]

pub returns : goal.returns
returns c =
    no_clash_all c.args.self.now.conflicts c.args.chosen.now c.loop-low.low (let e : _ = c.requires.flags in omega arith) c.loop-low.invariant
