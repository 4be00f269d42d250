use Rattle.std.proofs.{Common.{◌<◌, ◌∙◌, ap, false, length, arith, sym}, lemmas.List.{length-map, length-set}}
use Rattle.row_book.specs.{Book.{repository_of}, Flags.{flag}}
use Rattle.install_lift.proofs.Lowering.{next_out, next_served, next_taken}
use Rattle.install_lift.proofs.raising.sweep.Goals as goal

pub loop-number-preserved-then-not-is_up : goal.loop-number-preserved-then-not-is_up
loop-number-preserved-then-not-is_up c = record {
  long = c.loop-number.invariant.long;
  lowering = next_out (repository_of c.args.pool.now c.args.book.now) (flag c.args.set.now) (flag c.loop-number.more) c.loop-number.number c.loop-number.table c.loop-number.work.items (sym c.is_up.ensures ∙ c.if-not-is_up.true)
      c.loop-number.invariant.lowering;
}

pub loop-number-preserved-then-is_served : goal.loop-number-preserved-then-is_served
loop-number-preserved-then-is_served c =
    let lt : c.loop-number.number < length c.args.book.now.rows = omega (arith, c.size-number-end.ensures, c.loop-number-test.true) in
    record {
      long = c.loop-number.invariant.long;
      lowering = next_served (repository_of c.args.pool.now c.args.book.now) (flag c.args.set.now) (flag c.loop-number.more) c.loop-number.number c.loop-number.table c.put_user.new.table c.loop-number.work.items
          (rw length-map lt) (sym c.is_served.ensures ∙ c.if-is_served.true) c.in_ok-put_user.ensures c.loop-number.invariant.lowering;
    }

pub loop-number-preserved : goal.loop-number-preserved
loop-number-preserved c =
    let lt : c.loop-number.number < length c.args.book.now.rows = omega (arith, c.size-number-end.ensures, c.loop-number-test.true) in
    record {
      long = ap length c.take_out.ensures.more ∙ length-set c.loop-number.more c.loop-number.number false ∙ c.loop-number.invariant.long;
      lowering = next_taken c.args.pool.now c.args.book.now (flag c.args.set.now) c.loop-number.number c.loop-number.table c.loop-number.more c.take_out.new.more c.loop-number.work.items c.take_out.new.work.items lt
          (sym c.is_served.ensures ∙ c.if-is_served.false) (sym c.is_up.ensures ∙ c.if-not-is_up.false) c.take_out.ensures.more c.in_ok-take_out.ensures.work c.loop-number.invariant.lowering;
    }
