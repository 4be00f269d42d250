use Rattle.std.proofs.Common.{◌≡◌, ◌<◌, ◌+◌, ◌-◌, [], length, get_or, arith, subst, sym, ap, ◌∙◌}
use Rattle.list_table.specs.Index.{home, Reaches, place_at}
use Rattle.list_table.proofs.Index.{home_below, Reaches_first, Reaches_next, Reaches_turn, Passed_none, Passed_more, none_at_end, none_at_empty}
use Rattle.list_table.proofs.hash_index.find_in.Goals as goal
use Rattle.list_table.proofs.hash_index.find_in.Goals.{then-place-size, else-place-size, else-kept-wanted-via-then-kept-wanted+else-same}
use Rattle.list_table.proofs.hash_index.find_in.Goals.{else-kept-wanted-via-else-kept-wanted}

pub loop-init : goal.loop-init
loop-init g c =
    let size : 0 < length c.args.places.now = omega (arith, c.if-size-eq0.false) in
    let start : home (g.T.Item.hash_of c.args.items.now) (length c.args.places.now) < length c.args.places.now = home_below (g.T.Item.hash_of c.args.items.now) (length c.args.places.now) size in
    let first : c.home-place.result ≡ home (g.T.Item.hash_of c.args.items.now) (length c.args.places.now) = c.home-place.ensures ∙ ap (λ h. home h (length c.args.places.now)) c.requires.hash in
    record {
      start = start;
      reached = subst (λ p. Reaches (length c.args.places.now) (home (g.T.Item.hash_of c.args.items.now) (length c.args.places.now)) 0 p) (sym first) (Reaches_first (length c.args.places.now) (home (g.T.Item.hash_of c.args.items.now) (length c.args.places.now)) start);
      passed = Passed_none g.T.Item.hash_of c.args.places.now c.args.lists.now c.args.items.now (g.T.Item.hash_of c.args.items.now) (home (g.T.Item.hash_of c.args.items.now) (length c.args.places.now));
    }

pub returns-then-entry-eq0-clause-none : goal.returns-then-entry-eq0-clause-none
returns-then-entry-eq0-clause-none g c =
    none_at_empty g.T.Item.hash_of c.args.places.now c.args.lists.now c.args.items.now c.loop.counter c.loop.place c.requires.table.index c.loop.invariant.reached c.if-entry-eq0.true c.loop.invariant.passed

pub loop-preserved : goal.loop-preserved
loop-preserved g c = record {
  start = c.loop.invariant.start;
  reached = elim c.if-place-size.branch [
    | then-place-size w ↦ rw w.place-is (Reaches_turn (length c.args.places.now) (home (g.T.Item.hash_of c.args.items.now) (length c.args.places.now)) c.loop.counter c.loop.place c.loop.invariant.start c.loop-test.true c.loop.invariant.reached (omega arith))
    | else-place-size w ↦ rw w.place-is (Reaches_next (length c.args.places.now) (home (g.T.Item.hash_of c.args.items.now) (length c.args.places.now)) c.loop.counter c.loop.place c.loop.invariant.start c.loop-test.true c.loop.invariant.reached (omega (arith, c.loop.invariant.reached.0)))
  ];
  passed = Passed_more g.T.Item.hash_of c.args.places.now c.args.lists.now c.args.items.now (g.T.Item.hash_of c.args.items.now) (home (g.T.Item.hash_of c.args.items.now) (length c.args.places.now)) c.loop.counter c.loop.place
      c.loop.invariant.reached (omega (arith, c.if-entry-eq0.false))
      (λ n e l i. elim c.else-kept-wanted.branch [
        | else-kept-wanted-via-then-kept-wanted+else-same w ↦
            let f : (place_at c.args.places.now c.loop.place).1 ≡ n + 1 = ap (λ p. p.1) e in
            let k : (place_at c.args.places.now c.loop.place).1 - 1 ≡ n = omega arith in
            let t : _ = w.same.ensures.1 (w.at.ensures ∙ ap (λ j. get_or c.args.lists.now j []) k ∙ i) in
            cc (t, w.if-same.false)
        | else-kept-wanted-via-else-kept-wanted w ↦
            let f : (place_at c.args.places.now c.loop.place).0 ≡ g.T.Item.hash_of c.args.items.now = ap (λ p. p.0) e in
            absurd (w.if-kept-wanted.false (f ∙ sym c.requires.hash))
      ])
      c.loop.invariant.passed;
}

pub returns-clause-none : goal.returns-clause-none
returns-clause-none g c =
    let last : c.loop.counter ≡ length c.args.places.now = omega arith in
    none_at_end g.T.Item.hash_of c.args.places.now c.args.lists.now c.args.items.now c.requires.table.index (rw last at c.loop.invariant.passed)
