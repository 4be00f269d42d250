use Rattle.std.proofs.Common.{◌≡◌, ◌<◌, ◌∙◌, ap, arith, get_or, length, subst, sym, Some, ℕ}
use Rattle.clause_pool.specs.Interned.{clause_at}
use Rattle.row_book.specs.Pruning.{is_idle}
use Rattle.listed.specs.Lists.{In}
use Rattle.listed.proofs.Lists.{In_at}
use Rattle.clause_prune.specs.PrunedPackages.{left_with}
use Rattle.clause_prune.proofs.Passing.{find_first, find_nothing}
use Rattle.clause_prune.proofs.pruned_package.PrunedPackage.idle_by.Goals as goal

pub is_idle-requires-clause-member : goal.is_idle-requires-clause-member
is_idle-requires-clause-member c =
    let r = c.slice-member-items.result.now in
    subst (λ z. In (get_or r c.loop-member.member-index 0) z) c.slice-member-items.ensures.lent (In_at r c.loop-member.member-index 0 (omega arith))

pub is_idle-requires-clause-below : goal.is_idle-requires-clause-below
is_idle-requires-clause-below c =
    let r = c.slice-member-items.result.now in
    c.requires.members (get_or r c.loop-member.member-index 0) (subst (λ z. In (get_or r c.loop-member.member-index 0) z) c.slice-member-items.ensures.lent (In_at r c.loop-member.member-index 0 (omega arith)))

pub returns-then-is_idle : goal.returns-then-is_idle
returns-then-is_idle c =
    let d = clause_at c.args.self.now.pool.now c.args.clause in
    let i : ℕ = c.loop-member.member-index in
    let test = is_idle (left_with c.args.self.now c.args.left.now) c.args.self.now.number d in
    let l : i < length c.slice-member-items.result.now = omega arith in
    ap (λ z. Some (get_or z i 0)) c.slice-member-items.ensures.lent
    ∙ find_first test d i (subst (λ z. i < length z) c.slice-member-items.ensures.lent l) c.loop-member.invariant
    (ap (λ z. test (get_or z i 0)) (sym c.slice-member-items.ensures.lent) ∙ sym c.is_idle.ensures ∙ c.if-is_idle.true)

pub returns : goal.returns
returns c =
    let d = clause_at c.args.self.now.pool.now c.args.clause in
    let e : length d ≡ length c.slice-member-items.result.now = ap length (sym c.slice-member-items.ensures.lent) in
    find_nothing (is_idle (left_with c.args.self.now c.args.left.now) c.args.self.now.number d) d (λ k l. c.loop-member.invariant k (omega (arith, e)))
