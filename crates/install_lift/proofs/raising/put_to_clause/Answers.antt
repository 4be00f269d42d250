use Rattle.std.proofs.Common.{◌≡◌, ◌<◌, ◌∙◌, length, get_or, refl, sym, subst}
use Rattle.row_book.specs.Flags.{flag}
use Rattle.row_book.proofs.Flags.{flag_in}
use Rattle.install_lift.proofs.Naming.{puts_first, puts_up, puts_down}
use Rattle.install_lift.proofs.raising.put_to_clause.Goals as goal
use Rattle.install_lift.proofs.raising.put_to_clause.Goals.{then-is_up+in_ok-put, else-is_up}

pub loop-n-init : goal.loop-n-init
loop-n-init c = puts_first (flag c.args.more.now) c.args.number c.args.table.now

pub loop-n-preserved : goal.loop-n-preserved
loop-n-preserved c =
    let long : length c.args.more.now ≡ length c.loop-n.table = c.requires ∙ sym c.loop-n.invariant.size in
    elim c.if-is_up.branch [
      | then-is_up+in_ok-put w ↦
          rw w.table-is (puts_up (flag c.args.more.now) c.args.clause.now c.loop-n.n-index (get_or c.args.clause.now c.loop-n.n-index 0) c.args.number c.args.table.now c.loop-n.table w.put.new.self c.loop-n-test.true refl
          (subst (λ k. get_or c.args.clause.now c.loop-n.n-index 0 < k) long (flag_in c.args.more.now (get_or c.args.clause.now c.loop-n.n-index 0) (sym c.is_up.ensures ∙ w.if-is_up.true))) w.in_ok-put.ensures c.loop-n.invariant)
      | else-is_up w ↦ rw w.table-is (puts_down (flag c.args.more.now) c.args.clause.now c.loop-n.n-index (get_or c.args.clause.now c.loop-n.n-index 0) c.args.number c.args.table.now c.loop-n.table c.loop-n-test.true refl (sym c.is_up.ensures ∙ w.if-is_up.false) c.loop-n.invariant)
    ]
