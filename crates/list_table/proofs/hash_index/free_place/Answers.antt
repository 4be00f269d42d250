use Rattle.std.proofs.Common.{◌≡◌, ◌<◌, length, arith, subst, sym}
use Rattle.list_table.specs.Index.{home, Reaches}
use Rattle.list_table.proofs.Index.{home_below, some_place, Reaches_first, Reaches_next, Reaches_turn, Filled_more, not_all_filled}
use Rattle.list_table.proofs.hash_index.free_place.Goals as goal
use Rattle.list_table.proofs.hash_index.free_place.Goals.{then-place-size, else-place-size}

pub loop-init : goal.loop-init
loop-init c =
    let start : home c.args.hash (length c.args.places.now) < length c.args.places.now = home_below c.args.hash (length c.args.places.now) (some_place c.args.places.now c.requires) in
    record {
      start = start;
      reached = subst (λ p. Reaches (length c.args.places.now) (home c.args.hash (length c.args.places.now)) 0 p) (sym c.home-place.ensures) (Reaches_first (length c.args.places.now) (home c.args.hash (length c.args.places.now)) start);
      filled = λ k q l r. absurd (omega arith);
    }

pub returns-then-entry-eq0 : goal.returns-then-entry-eq0
returns-then-entry-eq0 c = record {
  steps = c.loop.counter;
  short = c.loop-test.true;
  reached = c.loop.invariant.reached;
  empty = c.if-entry-eq0.true;
  filled = c.loop.invariant.filled;
}

pub loop-preserved : goal.loop-preserved
loop-preserved c = record {
  start = c.loop.invariant.start;
  reached = elim c.if-place-size.branch [
    | then-place-size w ↦ rw w.place-is (Reaches_turn (length c.args.places.now) (home c.args.hash (length c.args.places.now)) c.loop.counter c.loop.place c.loop.invariant.start c.loop-test.true c.loop.invariant.reached (omega arith))
    | else-place-size w ↦ rw w.place-is (Reaches_next (length c.args.places.now) (home c.args.hash (length c.args.places.now)) c.loop.counter c.loop.place c.loop.invariant.start c.loop-test.true c.loop.invariant.reached (omega (arith, c.loop.invariant.reached.0)))
  ];
  filled = Filled_more c.args.places.now (home c.args.hash (length c.args.places.now)) c.loop.counter c.loop.place c.loop.invariant.reached (omega (arith, c.if-entry-eq0.false)) c.loop.invariant.filled;
}

pub returns : goal.returns
returns c =
    let last : c.loop.counter ≡ length c.args.places.now = omega arith in
    absurd (not_all_filled c.args.places.now (home c.args.hash (length c.args.places.now)) c.loop.invariant.start c.requires (rw last at c.loop.invariant.filled))
