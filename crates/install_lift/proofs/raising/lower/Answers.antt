use Rattle.std.proofs.{Common.{◌≡◌, ◌∙◌, ◌++◌, [], false, length, arith, sym, ap}, lemmas.Grind.{common_steps}}
use Rattle.std.proofs.lemmas.List.{length_push, length-append, length-map, length-set, nil_from_length}
use Rattle.std.specs.List.{sum_by}
use Rattle.row_book.specs.{Book.{listed_for, repository_of}, Flags.{flag}}
use Rattle.row_book.proofs.Flags.{flag_in}
use Rattle.install_lift.proofs.Lowering.{lowered, pop_out, pop_served, taken_out, list_few, fewer_up, less_work}
use Rattle.install_lift.proofs.raising.lower.Goals as goal

pub loop-number-preserved-then-not-is_up : goal.loop-number-preserved-then-not-is_up
loop-number-preserved-then-not-is_up c = record {
  long = c.loop-number.invariant.long;
  lowering = pop_out (repository_of c.args.pool.now c.args.book.now) (flag c.args.set.now) (flag c.loop-number.more) (length c.args.book.now.rows) c.args.table.now c.loop-number.work.items c.pop.new.self.items c.in-Some.number
      c.in-Some.ensures.items (sym c.is_up.ensures ∙ c.if-not-is_up.true) c.loop-number.invariant.lowering;
}

pub loop-number-preserved-then-is_served : goal.loop-number-preserved-then-is_served
loop-number-preserved-then-is_served c = record {
  long = c.loop-number.invariant.long;
  lowering = pop_served (repository_of c.args.pool.now c.args.book.now) (flag c.args.set.now) (flag c.loop-number.more) (length c.args.book.now.rows) c.args.table.now c.loop-number.work.items c.pop.new.self.items c.in-Some.number
      c.in-Some.ensures.items (sym c.is_served.ensures ∙ c.if-is_served.true) c.loop-number.invariant.lowering;
}

pub loop-number-smaller : goal.loop-number-smaller
loop-number-smaller c =
    let p = c.in-Some.number in
    let up = sym c.is_up.ensures ∙ c.if-not-is_up.false in
    let less = fewer_up c.loop-number.more p (flag_in c.loop-number.more p up) up in
    let work : length c.take_out.new.work.items ≡ length (c.pop.new.self.items ++ listed_for c.args.table.now p) = ap length c.in_ok-take_out.ensures.work in
    rw (c.take_out.ensures.more, work, length-append) (less_work _ _ (sum_by length c.args.table.now) (length c.loop-number.work.items) (length c.pop.new.self.items) (length (listed_for c.args.table.now p)) less
    (ap length c.in-Some.ensures.items ∙ length_push c.pop.new.self.items p) (list_few c.args.table.now p))

pub loop-number-preserved : goal.loop-number-preserved
loop-number-preserved c = record {
  long = ap length c.take_out.ensures.more ∙ length-set c.loop-number.more c.in-Some.number false ∙ c.loop-number.invariant.long;
  lowering = taken_out c.args.pool.now c.args.book.now (flag c.args.set.now) (length c.args.book.now.rows) c.args.table.now c.loop-number.more c.take_out.new.more c.loop-number.work.items c.pop.new.self.items c.take_out.new.work.items
      c.in-Some.number c.in-Some.ensures.items (sym c.is_served.ensures ∙ c.if-is_served.false) (sym c.is_up.ensures ∙ c.if-not-is_up.false) c.take_out.ensures.more c.in_ok-take_out.ensures.work c.loop-number.invariant.lowering;
}

pub returns : goal.returns
returns c =
    let e : c.loop-number.work.items ≡ [] = grind (arith, common_steps, nil_from_length) in
    lowered (repository_of c.args.pool.now c.args.book.now) (flag c.args.set.now) (flag c.loop-number.more) (length c.args.book.now.rows) c.args.table.now c.loop-number.work.items (sym (length-map c.args.book.now.rows _)) e
    c.loop-number.invariant.lowering
