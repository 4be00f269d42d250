use Rattle.std.proofs.{Common.{◌∙◌, ◌||◌, ap, arith, sym}, lemmas.List.{take_all}}
use Rattle.listed.specs.Lists.{has, is_inside}
use Rattle.listed.proofs.Lists.{item_in}
use Rattle.clause_prune.specs.Filing.{tell_within}
use Rattle.clause_prune.proofs.Files.{told_more, told_not}
use Rattle.clause_prune.proofs.filing.push_packages.Goals as goal
use Rattle.clause_prune.proofs.filing.push_packages.Goals.{then-is_inside_ascending+in_ok-push, else-is_inside_ascending}

pub slice-requires : goal.slice-requires
slice-requires c = c.requires.of_pool c.entry-item.result (item_in c.args.list.now c.loop-entry.entry-index c.entry-item.result (omega arith) c.entry-item.is)

pub loop-entry-preserved : goal.loop-entry-preserved
loop-entry-preserved c = λ n.
    elim c.if-is_inside_ascending.branch [
      | then-is_inside_ascending+in_ok-push w ↦
          ap (λ v. has v.items n) w.found-is
          ∙ told_more c.args.pool.now c.args.list.now c.args.clause.now c.args.found.now.items c.loop-entry.entry-index c.entry-item.result c.loop-entry.found.items c.loop-entry-test.true (sym c.entry-item.is)
          w.push.new.self.items n (ap (λ z. is_inside z c.args.clause.now) (sym c.slice.ensures.lent) ∙ sym c.is_inside_ascending.ensures ∙ w.if-is_inside_ascending.true) w.in_ok-push.ensures.items (c.loop-entry.invariant n)
      | else-is_inside_ascending w ↦
          ap (λ v. has v.items n) w.found-is
          ∙ told_not c.args.pool.now c.args.list.now c.args.clause.now c.args.found.now.items c.loop-entry.entry-index c.entry-item.result c.loop-entry.found.items c.loop-entry-test.true (sym c.entry-item.is)
          n (ap (λ z. is_inside z c.args.clause.now) (sym c.slice.ensures.lent) ∙ sym c.is_inside_ascending.ensures ∙ w.if-is_inside_ascending.false) (c.loop-entry.invariant n)
    ]

pub returns : goal.returns
returns c = λ n.
    c.loop-entry.invariant n
    ∙ ap (λ z. has c.args.found.now.items n || tell_within c.args.pool.now z c.args.clause.now n) (take_all c.loop-entry.entry-index c.args.list.now c.loop-entry-test.false)
