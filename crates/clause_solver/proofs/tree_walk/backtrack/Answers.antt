use Rattle.std.proofs.Common.{◌≡◌, ◌∙◌, ◌++◌, ◌∷◌, [], ap, take, arith, true}
use Rattle.std.specs.Prelude.{map}
use Rattle.search_terms.specs.Closure.{negation}
use Rattle.clause_solver.specs.Engine.{sentences_in}
use Rattle.clause_solver.proofs.{Stacking.{range_front}, Walking.{walk_across, walk_up}, Calm.{fallen_of}, Starting.{has_start, popped, started_again}}
use Rattle.clause_solver.proofs.Climbing.{under_of, has_height, ready_of, range_again}
use Rattle.clause_solver.proofs.tree_walk.backtrack.Goals as goal

pub unreachable-requires : goal.unreachable-requires
unreachable-requires c =
    let more = has_height (sentences_in c.args.formula.now) c.loop-l.decisions.literals.items c.pop.new.self.items c.in-Some.l c.loop-l.decisions.levels.items c.loop-l.trail.1 c.in-Some.ensures.items c.loop-l.invariant.fallen in
    search (arith, more)

pub undo-requires : goal.undo-requires
undo-requires c =
    (under_of (sentences_in c.args.formula.now) c.loop-l.decisions.literals.items c.pop.new.self.items c.in-Some.l c.loop-l.decisions.levels.items c.pop-in-Some.new.self.items c.in-Some-pop.level c.loop-l.trail.1 c.in-Some.ensures.items c.in-Some-pop.ensures.items c.loop-l.invariant.fallen).within

pub returns-then-l-clause-range : goal.returns-then-l-clause-range
returns-then-l-clause-range c = range_again c.args.formula.now.classes c.loop-l.decisions.literals.items c.pop.new.self.items c.push-then-l-2.new.self.items c.in-Some.l c.in-Some.ensures.items c.in_ok-push-3.ensures.items c.loop-l.invariant.range

pub returns-then-l-clause-next : goal.returns-then-l-clause-next
returns-then-l-clause-next c =
    walk_across c.args.keeps c.args.formula.now.classes (sentences_in c.args.formula.now) c.loop-l.decisions.literals.items c.pop.new.self.items c.push-then-l-2.new.self.items c.in-Some.l c.args.failed c.loop-l.log
    c.in-Some.ensures.items c.if-l.true c.in_ok-push-3.ensures.items c.loop-l.invariant.past

pub returns-then-l-clause-ready : goal.returns-then-l-clause-ready
returns-then-l-clause-ready c =
    let F = sentences_in c.args.formula.now in
    let under = under_of F c.loop-l.decisions.literals.items c.pop.new.self.items c.in-Some.l c.loop-l.decisions.levels.items c.pop-in-Some.new.self.items c.in-Some-pop.level c.loop-l.trail.1 c.in-Some.ensures.items c.in-Some-pop.ensures.items c.loop-l.invariant.fallen in
    ready_of F c.pop.new.self.items c.push-then-l-2.new.self.items c.in-Some.l c.pop-in-Some.new.self.items c.push.new.self.items c.in-Some-pop.level c.loop-l.trail.1 c.undo.new.self.1 under c.if-l.true
    c.in_ok-push-3.ensures.items c.in_ok-push.ensures.items (ap (λ w. w.1) c.undo.ensures)

pub loop-l-preserved : goal.loop-l-preserved
loop-l-preserved c =
    let F = sentences_in c.args.formula.now in
    let e : c.args.keeps ≡ true → c.add_entry.new.log ≡ c.loop-l.log ++ map negation c.pop.new.self.items ∷ [] = λ t. c.in_ok-add_entry.ensures t in
    let under = under_of F c.loop-l.decisions.literals.items c.pop.new.self.items c.in-Some.l c.loop-l.decisions.levels.items c.pop-in-Some.new.self.items c.in-Some-pop.level c.loop-l.trail.1 c.in-Some.ensures.items c.in-Some-pop.ensures.items c.loop-l.invariant.fallen in
    let front : c.undo.new.self.1 ≡ take c.in-Some-pop.level c.loop-l.trail.1 = ap (λ w. w.1) c.undo.ensures in
    record {
      classes = ap (λ w. w.0) c.undo.ensures ∙ c.loop-l.invariant.classes;
      range = range_front c.args.formula.now.classes c.loop-l.decisions.literals.items c.pop.new.self.items c.in-Some.l c.in-Some.ensures.items c.loop-l.invariant.range;
      past = walk_up c.args.keeps c.args.formula.now.classes F c.loop-l.decisions.literals.items c.pop.new.self.items c.in-Some.l c.args.failed c.loop-l.log c.add_entry.new.log
          c.in-Some.ensures.items c.if-l.false e c.loop-l.invariant.past;
      starts = (popped c.args.formula.now.own.now c.loop-l.decisions.levels.items c.pop-in-Some.new.self.items c.in-Some-pop.level c.loop-l.decisions.starts.items c.pop-in-Some-2.new.self.items c.in-Some-pop-2.start c.loop-l.trail.1 c.undo.new.self.1
          c.in-Some-pop.ensures.items c.in-Some-pop-2.ensures.items front c.loop-l.invariant.starts).below;
      fallen = rw front (fallen_of F c.pop.new.self.items c.pop-in-Some.new.self.items (take c.in-Some-pop.level c.loop-l.trail.1) under.under);
    }

pub unreachable-requires-in_default-pop-2 : goal.unreachable-requires-in_default-pop-2
unreachable-requires-in_default-pop-2 c =
    let more = has_start c.args.formula.now.own.now c.loop-l.decisions.levels.items c.pop-in-Some.new.self.items c.in-Some-pop.level c.loop-l.decisions.starts.items c.loop-l.trail.1 c.in-Some-pop.ensures.items c.loop-l.invariant.starts in
    search (arith, more)

pub returns-then-l-clause-started : goal.returns-then-l-clause-started
returns-then-l-clause-started c =
    let own = c.args.formula.now.own.now in
    let front = ap (λ w. w.1) c.undo.ensures in
    let under = under_of (sentences_in c.args.formula.now) c.loop-l.decisions.literals.items c.pop.new.self.items c.in-Some.l c.loop-l.decisions.levels.items c.pop-in-Some.new.self.items c.in-Some-pop.level c.loop-l.trail.1 c.in-Some.ensures.items c.in-Some-pop.ensures.items c.loop-l.invariant.fallen in
    started_again own c.push.new.self.items c.pop-in-Some.new.self.items c.in-Some-pop.level c.push-then-l.new.self.items c.pop-in-Some-2.new.self.items c.in-Some-pop-2.start c.loop-l.trail.1 c.undo.new.self.1 under.within front
    c.in_ok-push.ensures.items c.in_ok-push-2.ensures.items
    (popped own c.loop-l.decisions.levels.items c.pop-in-Some.new.self.items c.in-Some-pop.level c.loop-l.decisions.starts.items c.pop-in-Some-2.new.self.items c.in-Some-pop-2.start c.loop-l.trail.1 c.undo.new.self.1
    c.in-Some-pop.ensures.items c.in-Some-pop-2.ensures.items front c.loop-l.invariant.starts)
