use Rattle.std.proofs.{Common.{◌≡◌, ℕ, List, arith, length}, lemmas.Result.{IfErr-weaker, IfOk-weaker, on_ok_weaker}}
use Rattle.repo_model.specs.{Feeding.{IsSuiteOf}, declared.suite.Suite.{Suite}}
use Rattle.migrate_plan.specs.{Indexes.{AreMeasured, Texts}, declared.lengths.TextLengths.{TextLengths}}
use Rattle.migrate_plan.proofs.making.make_plan.Goals as goal

pub plan_between-requires-clause-old_short : goal.plan_between-requires-clause-old_short
plan_between-requires-clause-old_short c = rw c.lengths_of-lengths.ensures.old c.requires.old_short

pub plan_between-requires-clause-new_short : goal.plan_between-requires-clause-new_short
plan_between-requires-clause-new_short c = rw c.lengths_of-lengths.ensures.new c.requires.new_short

pub plan_between-requires-clause-limit : goal.plan_between-requires-clause-limit
plan_between-requires-clause-limit c = omega (arith, c.requires.old_limit, c.requires.limit)

abbrev both_of : List ℕ → List ℕ → Texts
both_of first second = record { old = first; new = second }

measured : (texts : Texts) (old new : Suite) (lengths : TextLengths) → IsSuiteOf texts.old old.packages old.home.name → IsSuiteOf texts.new new.packages new.home.name → lengths.old ≡ length texts.old → lengths.new ≡ length texts.new
    → AreMeasured texts old new lengths
measured texts old new lengths old_is new_is old_length_is new_length_is = record { suites = record { old_is = old_is; new_is = new_is }; old_length_is = old_length_is; new_length_is = new_length_is }

pub returns-clause-refused : goal.returns-clause-refused
returns-clause-refused c =
    let both = both_of c.args.old_bytes.now c.args.new_bytes.now in
    let are = measured both c.args.old.now.suite c.args.new.now c.lengths_of-lengths.result c.requires.old c.requires.new c.lengths_of-lengths.ensures.old c.lengths_of-lengths.ensures.new in
    IfErr-weaker c.plan_between.result _ _ (λ error refuses. refuses both are) c.plan_between.ensures.refused

pub returns-clause-accepted : goal.returns-clause-accepted
returns-clause-accepted c =
    let both = both_of c.args.old_bytes.now c.args.new_bytes.now in
    let are = measured both c.args.old.now.suite c.args.new.now c.lengths_of-lengths.result c.requires.old c.requires.new c.lengths_of-lengths.ensures.old c.lengths_of-lengths.ensures.new in
    on_ok_weaker c.plan_between.result (λ holds. holds both are) c.plan_between.ensures.accepted

pub returns-clause-plan : goal.returns-clause-plan
returns-clause-plan c =
    let both = both_of c.args.old_bytes.now c.args.new_bytes.now in
    let are = measured both c.args.old.now.suite c.args.new.now c.lengths_of-lengths.result c.requires.old c.requires.new c.lengths_of-lengths.ensures.old c.lengths_of-lengths.ensures.new in
    IfOk-weaker c.plan_between.result _ _ (λ made holds. holds both are) (rw (c.requires.old_limit, c.requires.old_hold) at c.plan_between.ensures.plan)

pub returns-clause-mixes : goal.returns-clause-mixes
returns-clause-mixes c =
    let both = both_of c.args.old_bytes.now c.args.new_bytes.now in
    let are = measured both c.args.old.now.suite c.args.new.now c.lengths_of-lengths.result c.requires.old c.requires.new c.lengths_of-lengths.ensures.old c.lengths_of-lengths.ensures.new in
    on_ok_weaker c.plan_between.result (λ holds. holds both are) c.plan_between.ensures.mixes

pub returns-clause-names : goal.returns-clause-names
returns-clause-names c =
    let both = both_of c.args.old_bytes.now c.args.new_bytes.now in
    let are = measured both c.args.old.now.suite c.args.new.now c.lengths_of-lengths.result c.requires.old c.requires.new c.lengths_of-lengths.ensures.old c.lengths_of-lengths.ensures.new in
    IfOk-weaker c.plan_between.result _ _ (λ made holds. holds both are) c.plan_between.ensures.names

pub returns-clause-each : goal.returns-clause-each
returns-clause-each c =
    let both = both_of c.args.old_bytes.now c.args.new_bytes.now in
    let are = measured both c.args.old.now.suite c.args.new.now c.lengths_of-lengths.result c.requires.old c.requires.new c.lengths_of-lengths.ensures.old c.lengths_of-lengths.ensures.new in
    IfOk-weaker c.plan_between.result _ _ (λ made holds. holds both are) (rw (c.requires.old_limit, c.requires.old_hold) at c.plan_between.ensures.each)

pub returns-clause-safely : goal.returns-clause-safely
returns-clause-safely c =
    let both = both_of c.args.old_bytes.now c.args.new_bytes.now in
    let are = measured both c.args.old.now.suite c.args.new.now c.lengths_of-lengths.result c.requires.old c.requires.new c.lengths_of-lengths.ensures.old c.lengths_of-lengths.ensures.new in
    IfOk-weaker c.plan_between.result _ _ (λ made holds. holds both are) (rw (c.requires.old_limit, c.requires.old_hold) at c.plan_between.ensures.safely)
