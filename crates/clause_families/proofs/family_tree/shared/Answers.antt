use Rattle.std.proofs.Common.{refl, arith, [], ◌≡◌, ◌+◌, length}
use Rattle.clause_families.proofs.{Grown.{begins_apart, begins_no_more, meets_apart, meets_more, meets_no_more}, Walked.{fewer_others}}
use Rattle.clause_families.proofs.family_tree.shared.Goals as goal
use Rattle.clause_families.proofs.family_tree.shared.Goals.{then-left-from-via-then-left-from, then-left-from-via-else-left-from+then-node-number}

pub loop-count-init : goal.loop-count-init
loop-count-init c = record { there_are = omega arith; still = λ tree e. record { now = tree; front = []; at = refl; is = e; same = omega arith; begin = refl } }

pub returns-in_default-clause-shared : goal.returns-in_default-clause-shared
returns-in_default-clause-shared c tree e =
    meets_no_more c.args.clause.now tree c.loop-count.from c.loop-count.left.now c.loop-count.count (c.loop-count.invariant.still tree e) (omega (arith, c.in_default.ensures.cases))

pub returns-then-left-from-clause-shared : goal.returns-then-left-from-clause-shared
returns-then-left-from-clause-shared c tree e =
    elim c.then-left-from.branch [
      | then-left-from-via-then-left-from w ↦
          meets_no_more c.args.clause.now tree c.loop-count.from c.loop-count.left.now c.loop-count.count (c.loop-count.invariant.still tree e) (omega (arith, w.if-left-from.true))
      | then-left-from-via-else-left-from+then-node-number w ↦
          meets_apart c.args.clause.now tree c.loop-count.from c.loop-count.left.now c.loop-count.count (c.loop-count.invariant.still tree e) c.in-Some.others.now c.in-Some.node.now c.in-Some.ensures.cases.0
          (omega (arith, w.if-left-from.false)) (omega arith) (λ s. let f : ⊥ = omega (arith, s, w.if-node-number.true) in f)
    ]

pub returns-in_default-clause-from : goal.returns-in_default-clause-from
returns-in_default-clause-from c tree e =
    begins_no_more c.args.clause.now tree c.loop-count.from c.loop-count.left.now c.loop-count.count (c.loop-count.invariant.still tree e) (omega (arith, c.in_default.ensures.cases))

pub returns-then-left-from-clause-from : goal.returns-then-left-from-clause-from
returns-then-left-from-clause-from c tree e =
    elim c.then-left-from.branch [
      | then-left-from-via-then-left-from w ↦
          begins_no_more c.args.clause.now tree c.loop-count.from c.loop-count.left.now c.loop-count.count (c.loop-count.invariant.still tree e) (omega (arith, w.if-left-from.true))
      | then-left-from-via-else-left-from+then-node-number w ↦
          begins_apart c.args.clause.now tree c.loop-count.from c.loop-count.left.now c.loop-count.count (c.loop-count.invariant.still tree e) c.in-Some.others.now c.in-Some.node.now c.in-Some.ensures.cases.0
          (omega (arith, w.if-left-from.false)) (omega arith) (λ s. let f : ⊥ = omega (arith, s, w.if-node-number.true) in f)
    ]

pub loop-count-preserved : goal.loop-count-preserved
loop-count-preserved c =
    let k : length c.loop-count.left.now ≡ length c.in-Some.others.now + 1 = fewer_others c.loop-count.left.now c.in-Some.others.now c.in-Some.node.now c.in-Some.ensures.cases.0 in
    record {
      there_are = omega (arith, c.loop-count.invariant.there_are);
      still = λ tree e.
          meets_more c.args.clause.now tree c.loop-count.from c.loop-count.left.now c.loop-count.count (c.loop-count.invariant.still tree e) c.in-Some.others.now c.in-Some.node.now c.in-Some.ensures.cases.0
          (omega arith) (omega arith) (omega arith);
    }
