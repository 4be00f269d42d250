use Rattle.std.proofs.Common.{◌≡◌, ◌∙◌, arith, eqb-true, subst, sym}
use Rattle.listed.specs.Lists.{In}
use Rattle.listed.proofs.Lists.{item_in}
use Rattle.row_book.proofs.Differences.{difference_more, difference_none, difference_rest, difference_same}
use Rattle.row_book.proofs.changes.note_changes.Goals as goal

pub walk-init : goal.walk-init
walk-init c = record {
  old_in = omega arith;
  new_in = omega arith;
  lost = difference_none c.args.old.now c.args.new.now c.args.lost.now.items c.requires.none_lost;
  gained = difference_none c.args.new.now c.args.old.now c.args.gained.now.items c.requires.none_gained;
}

-- both rows have the clause
pub walk-preserved-then-eq : goal.walk-preserved-then-eq
walk-preserved-then-eq c =
    let same : c.index-old-i.result ≡ c.index-new-j.result = eqb-true c.index-old-i.result c.index-new-j.result (sym c.eq.ensures ∙ c.if-eq.true) in
    record {
      old_in = omega arith;
      new_in = omega arith;
      lost = difference_same c.args.old.now c.args.new.now c.walk.lost.items c.walk.i c.index-old-i.result c.walk-test.true c.index-old-i.is
          (subst (λ z. In z c.args.new.now) (sym same) (item_in c.args.new.now c.walk.j c.index-new-j.result c.if-j-new.true c.index-new-j.is)) c.walk.invariant.lost;
      gained = difference_same c.args.new.now c.args.old.now c.walk.gained.items c.walk.j c.index-new-j.result c.if-j-new.true c.index-new-j.is
          (subst (λ z. In z c.args.old.now) same (item_in c.args.old.now c.walk.i c.index-old-i.result c.walk-test.true c.index-old-i.is)) c.walk.invariant.gained;
    }

pub slice-requires : goal.slice-requires
slice-requires c = c.requires.old c.index-old-i.result (item_in c.args.old.now c.walk.i c.index-old-i.result c.walk-test.true c.index-old-i.is)

pub slice-requires-else-eq : goal.slice-requires-else-eq
slice-requires-else-eq c = c.requires.new c.index-new-j.result (item_in c.args.new.now c.walk.j c.index-new-j.result c.if-j-new.true c.index-new-j.is)

-- the old row's clause is passed
pub walk-preserved-then-lt : goal.walk-preserved-then-lt
walk-preserved-then-lt c = record {
  old_in = omega arith;
  new_in = c.walk.invariant.new_in;
  lost = difference_more c.args.old.now c.args.new.now c.walk.lost.items c.push.new.self.items c.walk.i c.index-old-i.result c.walk-test.true c.index-old-i.is
      c.in_ok-push.ensures.items c.walk.invariant.lost;
  gained = c.walk.invariant.gained;
}

-- the new row's clause is passed
pub walk-preserved : goal.walk-preserved
walk-preserved c = record {
  old_in = c.walk.invariant.old_in;
  new_in = omega arith;
  lost = c.walk.invariant.lost;
  gained = difference_more c.args.new.now c.args.old.now c.walk.gained.items c.push-else-lt.new.self.items c.walk.j c.index-new-j.result c.if-j-new.true c.index-new-j.is
      c.in_ok-push-2.ensures.items c.walk.invariant.gained;
}

-- what was not walked is noted
pub returns-clause-lost : goal.returns-clause-lost
returns-clause-lost c =
    difference_rest c.args.old.now c.args.new.now c.walk.lost.items c.extend_from_slice.new.self.items c.walk.i c.in_ok-extend_from_slice.ensures.items c.walk.invariant.lost

pub returns-clause-gained : goal.returns-clause-gained
returns-clause-gained c =
    difference_rest c.args.new.now c.args.old.now c.walk.gained.items c.extend_from_slice-2.new.self.items c.walk.j c.in_ok-extend_from_slice-2.ensures.items c.walk.invariant.gained
