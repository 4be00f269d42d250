use Rattle.std.proofs.{Common.{◌∙◌, ◌<◌, ◌≤◌, length, arith, sym, true}, lemmas.List.{length-set, take_all}}
use Rattle.row_book.specs.{Book.{repository_of}, Flags.{flag}}
use Rattle.listed.proofs.Lists.{item_in}
use Rattle.row_book.proofs.Lists.{any_hit}
use Rattle.install_lift.proofs.{Steps.{trimming_more, chosen_below, goals_more, goal_now, goals_next, goal_open, at_place}, Waits.{waits_more}}
use Rattle.install_lift.specs.Waiting.{is_waiting}
use Rattle.install_lift.proofs.trimming.trim_goals.Goals as goal

pub loop-place-preserved-then-hits_one : goal.loop-place-preserved-then-hits_one
loop-place-preserved-then-hits_one c =
    let lt : c.loop-place.place < length c.args.goals.now = omega (arith, c.loop-place-test.true, c.count-place-end.ensures.count) in
    let is = at_place c.args.goals.now c.loop-place.place c.at-goal.result.now lt c.at-goal.ensures.clause in
    record {
      long = c.loop-place.invariant.long;
      trimming = c.loop-place.invariant.trimming;
      waits = c.loop-place.invariant.waits;
      hit = goals_next (flag c.loop-place.set) c.args.goals.now c.loop-place.place c.at-goal.result.now lt is (sym c.hits_one.ensures ∙ c.if-hits_one.true) c.loop-place.invariant.hit;
    }

pub put_first-n-requires-clause-hit : goal.put_first-n-requires-clause-hit
put_first-n-requires-clause-hit c =
    let lt : c.loop-place.place < length c.args.goals.now = omega (arith, c.loop-place-test.true, c.count-place-end.ensures.count) in
    let is = at_place c.args.goals.now c.loop-place.place c.at-goal.result.now lt c.at-goal.ensures.clause in
    any_hit (flag c.args.chosen.now) c.at-goal.result.now (c.requires.hits c.at-goal.result.now (item_in c.args.goals.now c.loop-place.place c.at-goal.result.now lt is))

pub loop-place-preserved : goal.loop-place-preserved
loop-place-preserved c =
    let R = repository_of c.args.pool.now c.args.book.now in
    let g = c.at-goal.result.now in
    let upto : c.loop-place.place < length c.args.goals.now = omega (arith, c.loop-place-test.true, c.count-place-end.ensures.count) in
    let is = at_place c.args.goals.now c.loop-place.place g upto c.at-goal.ensures.clause in
    let first = c.put_first-n.ensures.first in
    let lt = chosen_below c.args.chosen.now c.loop-place.set g c.put_first-n.result c.loop-place.invariant.long first in
    let opened = goal_open R c.args.goals.now (flag c.loop-place.set) c.loop-place.place g upto is (sym c.hits_one.ensures ∙ c.if-hits_one.false) c.loop-place.invariant.hit in
    record {
      long = rw c.put_first-n.ensures.put (length-set c.loop-place.set c.put_first-n.result true ∙ c.loop-place.invariant.long);
      trimming = trimming_more R c.args.goals.now (flag c.args.chosen.now) c.loop-place.set c.put_first-n.new.set g c.put_first-n.result lt c.put_first-n.ensures.put opened first c.loop-place.invariant.trimming;
      waits = waits_more c.loop-place.set c.put_first-n.new.set (is_waiting c.loop-place.waiting) (is_waiting c.put.new.self) c.put_first-n.result lt c.put_first-n.ensures.put c.loop-place.invariant.waits c.in_ok-put.ensures.put;
      hit = goals_next (flag c.put_first-n.new.set) c.args.goals.now c.loop-place.place g upto is
          (goal_now c.loop-place.set c.put_first-n.new.set (flag c.args.chosen.now) c.put_first-n.result g lt c.put_first-n.ensures.put first)
          (goals_more c.loop-place.set c.put_first-n.new.set c.put_first-n.result _ lt c.put_first-n.ensures.put c.loop-place.invariant.hit);
    }

pub returns-clause-hit : goal.returns-clause-hit
returns-clause-hit c =
    let le : length c.args.goals.now ≤ c.loop-place.place = omega (arith, c.loop-place-test.false, c.count-place-end.ensures.count) in
    let h = c.loop-place.invariant.hit in
    rw (take_all c.loop-place.place c.args.goals.now le) at h
