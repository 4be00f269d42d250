use Rattle.std.proofs.{Common.{◌<◌, length, arith, refl}, lemmas.Bool.{both_ways}}
use Rattle.refutation_check.proofs.Logs.{follows_more, derives_from, derives_not}
use Rattle.refutation_check.proofs.derivation.derives.Goals as goal

pub returns-then-not-branch : goal.returns-then-not-branch
returns-then-not-branch c =
    let h = rw c.as_slice.ensures at c.in_ok-follows.ensures in
    let lt : c.loop-k.k < length c.args.log.now = omega arith in (
      (λ f. absurd (cc f)),
      (λ d. absurd (derives_not c.args.formula.now c.args.log.now c.loop-k.k c.index-log-k.result lt c.index-log-k.is (λ k. both_ways c.in_ok-follows.field-0 c.if-not-branch.true (h.1 k)) d)),
    )

pub loop-k-preserved : goal.loop-k-preserved
loop-k-preserved c =
    let h = rw c.as_slice.ensures at c.in_ok-follows.ensures in
    let lt : c.loop-k.k < length c.args.log.now = omega arith in
    follows_more c.args.formula.now c.args.log.now c.loop-k.k c.index-log-k.result lt c.index-log-k.is (h.0 c.if-not-branch.false) c.loop-k.invariant

pub returns : goal.returns
returns c = (
  (λ t. derives_from c.args.formula.now c.args.log.now c.loop-k.k (c.ends_empty.ensures.0 c.if-not-ends_empty.false) c.loop-k-test.false c.loop-k.invariant),
  (λ d. refl),
)
