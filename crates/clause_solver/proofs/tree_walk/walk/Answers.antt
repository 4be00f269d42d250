use Rattle.std.proofs.{Common.{◌≡◌, ◌∙◌, ◌++◌, ◌∷◌, [], ◌<◌, ◌+◌, ◌-◌, ◌*◌, ap, arith, length, refl, true}, lemmas.List.Elements.{All-nil, All-push}}
use Rattle.std.specs.Prelude.{map}
use Rattle.search_terms.specs.Closure.{negation, literal}
use Rattle.clause_solver.specs.{Engine.{sentences_in}, Starts.AreStarts.{at_root}}
use Rattle.clause_solver.proofs.{Stacking.{fewer_left}, Walking.{walk_first, walk_found, walk_spent, walk_down, walk_past, walk_refuted}, Calm.{calm_of}}
use Rattle.clause_solver.proofs.{Starting.{start_first, start_on, started_split, starts_on}, Climbing.{at_after, ready_split, ready_calm, split_less}}
use Rattle.clause_solver.proofs.tree_walk.walk.Goals as goal

pub loop-contradiction-init : goal.loop-contradiction-init
loop-contradiction-init c = record {
  classes = c.requires.classes;
  range = rw c.new.ensures.items (All-nil (λ k. k.class < c.args.formula.now.classes));
  walks = rw c.new.ensures.items (walk_first c.args.keeps c.args.formula.now.classes (sentences_in c.args.formula.now) c.args.log.now c.requires.empty);
  within = omega arith;
  starts = at_root c.new-2.ensures.items c.new-3.ensures.items;
  start = start_first c.args.formula.now.own.now c.args.trail.now.1 _ refl refl;
  at = rw (c.new.ensures.items, c.new-2.ensures.items) c.requires.root;
}

pub returns-then-failed-budget : goal.returns-then-failed-budget
returns-then-failed-budget c tree =
    walk_spent c.args.keeps c.args.formula.now.classes c.args.budget c.loop-contradiction.failed (sentences_in c.args.formula.now) c.loop-contradiction.log c.loop-contradiction.decisions.literals.items c.loop-contradiction.trail.1 tree
    (rw c.if-contradiction.true at c.loop-contradiction.invariant.at).0 c.if-failed-budget.true c.loop-contradiction.invariant.walks

pub backtrack-requires-clause-past : goal.backtrack-requires-clause-past
backtrack-requires-clause-past c =
    let e : c.args.keeps ≡ true → c.add_entry.new.log ≡ c.loop-contradiction.log ++ map negation c.loop-contradiction.decisions.literals.items ∷ [] = λ t. c.in_ok-add_entry.ensures t in
    walk_past c.args.keeps c.args.formula.now.classes c.loop-contradiction.failed (sentences_in c.args.formula.now) c.loop-contradiction.log c.add_entry.new.log c.loop-contradiction.decisions.literals.items
    (rw c.if-contradiction.true at c.loop-contradiction.invariant.at).0 e c.loop-contradiction.invariant.walks

pub decide-requires-clause-calm : goal.decide-requires-clause-calm
decide-requires-clause-calm c = ready_calm (sentences_in c.args.formula.now) c.backtrack.new.decisions.literals.items c.backtrack.new.decisions.levels.items c.backtrack.new.trail.1 c.in-Some.l (rw c.in-Some.is at c.in_ok-backtrack.ensures.ready)

pub loop-contradiction-smaller-in-Some : goal.loop-contradiction-smaller-in-Some
loop-contradiction-smaller-in-Some c =
    let within = c.loop-contradiction.invariant.within in
    let lt : c.loop-contradiction.failed < c.args.budget + 1 = omega arith in
    fewer_left c.args.budget c.loop-contradiction.failed c.args.formula.now.classes c.loop-contradiction.decisions.literals.items c.backtrack.new.decisions.literals.items lt

pub loop-contradiction-preserved-in-Some : goal.loop-contradiction-preserved-in-Some
loop-contradiction-preserved-in-Some c = record {
  classes = c.in_ok-contradiction-in-Some.ensures.classes ∙ c.in_ok-backtrack.ensures.classes ∙ c.loop-contradiction.invariant.classes;
  range = c.in_ok-backtrack.ensures.range;
  walks = rw c.in-Some.is at c.in_ok-backtrack.ensures.next;
  within = let le = c.loop-contradiction.invariant.within in let ne = c.if-failed-budget.false in omega (arith, le, ne);
  starts = starts_on c.args.formula.now.own.now c.backtrack.new.decisions.levels.items c.backtrack.new.decisions.starts.items c.backtrack.new.trail.1 c.decide.new.trail.1 c.backtrack.new.decisions.start c.in_ok-contradiction-in-Some.ensures.front.0
      (rw c.in-Some.is at c.in_ok-backtrack.ensures.started);
  start = start_on c.args.formula.now.own.now c.backtrack.new.trail.1 c.decide.new.trail.1 c.backtrack.new.decisions.start c.in_ok-contradiction-in-Some.ensures.front.0 c.in_ok-contradiction-in-Some.ensures.front.1
      (rw c.in-Some.is at c.in_ok-backtrack.ensures.started).here;
  at = at_after c.in_ok-contradiction-in-Some.contradiction (sentences_in c.args.formula.now) c.backtrack.new.decisions.literals.items c.backtrack.new.decisions.levels.items c.backtrack.new.trail.1 c.decide.new.trail.1 c.in-Some.l
      (rw c.in-Some.is at c.in_ok-backtrack.ensures.ready) c.in_ok-contradiction-in-Some.ensures.front c.in_ok-contradiction-in-Some.ensures.calm c.in_ok-contradiction-in-Some.ensures.contradiction;
}

pub returns-in-None : goal.returns-in-None
returns-in-None c tree =
    walk_refuted c.args.keeps c.args.formula.now.classes c.args.budget (c.loop-contradiction.failed + 1) (sentences_in c.args.formula.now) c.backtrack.new.log c.backtrack.new.trail.1 tree
    (let le = c.loop-contradiction.invariant.within in let ne = c.if-failed-budget.false in omega (arith, le, ne)) (rw c.in-None.is at c.in_ok-backtrack.ensures.end)

pub returns-in-Met : goal.returns-in-Met
returns-in-Met c tree =
    let F = sentences_in c.args.formula.now in
    let calm = calm_of F c.loop-contradiction.decisions.literals.items c.loop-contradiction.decisions.levels.items c.loop-contradiction.trail.1 (rw c.if-contradiction.false at c.loop-contradiction.invariant.at) in
    walk_found c.args.keeps c.args.formula.now.classes c.args.budget c.loop-contradiction.failed F c.loop-contradiction.log c.loop-contradiction.decisions.literals.items c.loop-contradiction.trail.1 tree
    (c.in-Met.ensures.node c.loop-contradiction.decisions.literals.items calm) c.loop-contradiction.invariant.within c.loop-contradiction.invariant.walks

pub decide-requires-in-Splits-clause-calm : goal.decide-requires-in-Splits-clause-calm
decide-requires-in-Splits-clause-calm c =
    (c.loop-contradiction.decisions.literals.items, calm_of (sentences_in c.args.formula.now) c.loop-contradiction.decisions.literals.items c.loop-contradiction.decisions.levels.items c.loop-contradiction.trail.1 (rw c.if-contradiction.false at c.loop-contradiction.invariant.at))

pub decide-requires-in-Splits-clause-class : goal.decide-requires-in-Splits-clause-class
decide-requires-in-Splits-clause-class c =
    let F = sentences_in c.args.formula.now in
    let calm = calm_of F c.loop-contradiction.decisions.literals.items c.loop-contradiction.decisions.levels.items c.loop-contradiction.trail.1 (rw c.if-contradiction.false at c.loop-contradiction.invariant.at) in
    rw c.loop-contradiction.invariant.classes (c.in-Splits.ensures.node c.loop-contradiction.decisions.literals.items calm).1

pub loop-contradiction-smaller : goal.loop-contradiction-smaller
loop-contradiction-smaller c =
    let F = sentences_in c.args.formula.now in
    let calm = calm_of F c.loop-contradiction.decisions.literals.items c.loop-contradiction.decisions.levels.items c.loop-contradiction.trail.1 (rw c.if-contradiction.false at c.loop-contradiction.invariant.at) in
    let here = c.in-Splits.ensures.node c.loop-contradiction.decisions.literals.items calm in
    split_less ((c.args.budget + 1 - c.loop-contradiction.failed) * (c.args.formula.now.classes + 1)) c.args.formula.now.classes c.push-in-Splits-2.new.self.items c.loop-contradiction.decisions.literals.items (literal c.in-Splits.class true) c.in_ok-push-in-Splits-3.ensures.items here.2

pub loop-contradiction-preserved : goal.loop-contradiction-preserved
loop-contradiction-preserved c =
    let F = sentences_in c.args.formula.now in
    let layered = rw c.if-contradiction.false at c.loop-contradiction.invariant.at in
    let calm = calm_of F c.loop-contradiction.decisions.literals.items c.loop-contradiction.decisions.levels.items c.loop-contradiction.trail.1 layered in
    let here = c.in-Splits.ensures.node c.loop-contradiction.decisions.literals.items calm in
    let l = literal c.in-Splits.class true in
    record {
      classes = c.in_ok-contradiction-in-Splits.ensures.classes ∙ c.loop-contradiction.invariant.classes;
      range = rw c.in_ok-push-in-Splits-3.ensures.items (All-push (λ k. k.class < c.args.formula.now.classes) c.loop-contradiction.decisions.literals.items l c.loop-contradiction.invariant.range here.1);
      walks = walk_down c.args.keeps c.args.formula.now.classes c.loop-contradiction.failed c.in-Splits.class F c.loop-contradiction.log c.loop-contradiction.decisions.literals.items c.push-in-Splits-2.new.self.items here.0 c.in_ok-push-in-Splits-3.ensures.items c.loop-contradiction.invariant.walks;
      within = c.loop-contradiction.invariant.within;
      starts = starts_on c.args.formula.now.own.now c.push.new.self.items c.push-in-Splits.new.self.items c.loop-contradiction.trail.1 c.decide-in-Splits.new.trail.1 c.node_at.new.start c.in_ok-contradiction-in-Splits.ensures.front.0
          (started_split c.args.formula.now.own.now c.loop-contradiction.decisions.levels.items c.push.new.self.items (length c.as_slice.result.now) c.loop-contradiction.decisions.starts.items c.push-in-Splits.new.self.items c.node_at.new.start c.loop-contradiction.trail.1
          (ap length c.as_slice.ensures.items) c.in_ok-push-in-Splits.ensures.items c.in_ok-push-in-Splits-2.ensures.items c.in-Splits.ensures.start c.loop-contradiction.invariant.starts);
      start = start_on c.args.formula.now.own.now c.loop-contradiction.trail.1 c.decide-in-Splits.new.trail.1 c.node_at.new.start c.in_ok-contradiction-in-Splits.ensures.front.0 c.in_ok-contradiction-in-Splits.ensures.front.1 c.in-Splits.ensures.start;
      at = at_after c.in_ok-contradiction-in-Splits.contradiction F c.push-in-Splits-2.new.self.items c.push.new.self.items c.loop-contradiction.trail.1 c.decide-in-Splits.new.trail.1 l
          (ready_split F c.loop-contradiction.decisions.literals.items c.push-in-Splits-2.new.self.items c.loop-contradiction.decisions.levels.items c.push.new.self.items (length c.as_slice.result.now) c.loop-contradiction.trail.1 l layered c.in_ok-push-in-Splits-3.ensures.items c.in_ok-push-in-Splits.ensures.items
          (ap length c.as_slice.ensures.items) (c.in-Splits.ensures.undecided))
          c.in_ok-contradiction-in-Splits.ensures.front c.in_ok-contradiction-in-Splits.ensures.calm c.in_ok-contradiction-in-Splits.ensures.contradiction;
    }
