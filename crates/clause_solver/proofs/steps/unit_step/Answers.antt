use Rattle.std.proofs.{Common.{◌<◌, ◌∙◌, sym, ap}, lemmas.List.Elements.{All-contains}}
use Rattle.clause_solver.specs.Marking.{set_of_trail}
use Rattle.clause_solver.proofs.Running.{none_free, settle_put, settle_has, settle_not, free_is}
use Rattle.clause_solver.proofs.steps.unit_step.Goals as goal

pub returns-in_default-clause-refuted : goal.returns-in_default-clause-refuted
returns-in_default-clause-refuted c = none_free (set_of_trail c.args.trail.now.1) c.args.sentence.now (sym c.first_free.ensures ∙ c.in_default.is)

pub returns-then-has-clause-met : goal.returns-then-has-clause-met
returns-then-has-clause-met c = settle_has c.args.trail.now.1 c.args.sentence.now c.in-Some.l (sym c.first_free.ensures ∙ c.in-Some.is) (sym c.has.ensures ∙ c.if-has.true)

pub returns-then-not-is_forced-clause-met : goal.returns-then-not-is_forced-clause-met
returns-then-not-is_forced-clause-met c = settle_not c.args.trail.now.1 c.args.sentence.now c.in-Some.l (sym c.first_free.ensures ∙ c.in-Some.is) (sym c.is_forced.ensures ∙ c.if-not-is_forced.true)

pub put-requires-clause-class : goal.put-requires-clause-class
put-requires-clause-class c = All-contains (λ k. k.class < c.args.trail.now.0) c.args.sentence.now c.in-Some.l c.requires.ranged (free_is (set_of_trail c.args.trail.now.1) c.args.sentence.now c.in-Some.l (sym c.first_free.ensures ∙ c.in-Some.is)).0

pub returns-clause-runs : goal.returns-clause-runs
returns-clause-runs c =
    (settle_put c.args.trail.now.1 c.put.new.self.1 c.args.sentence.now c.in-Some.l c.requires.consistent (sym c.first_free.ensures ∙ c.in-Some.is) (sym c.is_forced.ensures ∙ c.if-not-is_forced.false) (ap (λ w. w.1) c.in_ok-put.ensures.ok)).0

pub returns-clause-met : goal.returns-clause-met
returns-clause-met c =
    (settle_put c.args.trail.now.1 c.put.new.self.1 c.args.sentence.now c.in-Some.l c.requires.consistent (sym c.first_free.ensures ∙ c.in-Some.is) (sym c.is_forced.ensures ∙ c.if-not-is_forced.false) (ap (λ w. w.1) c.in_ok-put.ensures.ok)).1
