-- Each step takes the lesser of the two first literals that are left.
use Rattle.std.proofs.Common.{ℕ, get_or, refl, inl, inr, arith, ◌≡◌, ◌∙◌}
use Rattle.clause_families.proofs.Merged.{merge_both, merge_ends, merge_next, merge_own, merge_spent}
use Rattle.clause_families.proofs.scratch.Clause.union_without.Goals as goal
use Rattle.clause_families.proofs.scratch.Clause.union_without.Goals.{then-merge-test+else-j-other, else-merge-test}

pub merge-preserved-then-own-spent : goal.merge-preserved-then-own-spent
merge-preserved-then-own-spent c =
    merge_spent c.args.spent c.args.clause.now c.args.other.now c.requires.clause c.requires.other c.merge.literals.items c.merge.i c.merge.j c.merge.invariant
    (get_or c.args.clause.now c.merge.i 0) c.merge-test.true refl c.if-own-spent.true

pub merge-preserved-then-own-next : goal.merge-preserved-then-own-next
merge-preserved-then-own-next c =
    merge_own c.args.spent c.args.clause.now c.args.other.now c.requires.clause c.requires.other c.merge.literals.items c.merge.i c.merge.j c.merge.invariant
    (get_or c.args.clause.now c.merge.i 0) c.merge-test.true refl (get_or c.args.other.now c.merge.j 0) c.if-j-other.true refl c.if-own-spent.false
    c.if-own-next.true c.push.new.self.items c.in_ok-push.ensures.ok

pub merge-preserved-then-next-own : goal.merge-preserved-then-next-own
merge-preserved-then-next-own c =
    merge_next c.args.spent c.args.clause.now c.args.other.now c.requires.clause c.requires.other c.merge.literals.items c.merge.i c.merge.j c.merge.invariant
    (get_or c.args.clause.now c.merge.i 0) c.merge-test.true refl (get_or c.args.other.now c.merge.j 0) c.if-j-other.true refl c.if-own-spent.false
    c.if-next-own.true c.push-then-next-own.new.self.items c.in_ok-push-2.ensures.ok

pub merge-preserved : goal.merge-preserved
merge-preserved c =
    let own : ℕ = get_or c.args.clause.now c.merge.i 0 in
    let next : ℕ = get_or c.args.other.now c.merge.j 0 in
    let same : own ≡ next = omega (arith, c.if-own-next.false, c.if-next-own.false) in
    merge_both c.args.spent c.args.clause.now c.args.other.now c.requires.clause c.requires.other c.merge.literals.items c.merge.i c.merge.j c.merge.invariant
    own c.merge-test.true refl next c.if-j-other.true refl c.if-own-spent.false
    same c.push-else-next-own.new.self.items c.in_ok-push-3.ensures.ok

pub returns : goal.returns
returns c =
    c.shrink_to_fit.ensures.items
    ∙ merge_ends c.args.spent c.args.clause.now c.args.other.now c.requires.clause c.requires.other c.merge.literals.items c.merge.i c.merge.j c.merge.invariant
    (elim c.merge-test.branch [ then-merge-test+else-j-other w ↦ inr w.if-j-other.false | else-merge-test w ↦ inl w.merge-test.false ])
    c.add_without.new.literals.items c.extend_from_slice.new.self.items c.in_ok-add_without.ensures c.in_ok-extend_from_slice.ensures.ok
