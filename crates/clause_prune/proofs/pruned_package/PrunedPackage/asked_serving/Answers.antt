use Rattle.std.proofs.{Common.{◌≡◌, ◌++◌, ◌∙◌, ℕ, Bool, ap, filter, get_or, sym, arith}, lemmas.List.{take_all}}
use Rattle.row_book.specs.Pruning.{serves}
use Rattle.listed.proofs.Lists.{In_at}
use Rattle.clause_prune.specs.PrunedPackages.{bare_with}
use Rattle.clause_prune.proofs.{Forcing.{serves_not, serves_too}, Passing.{read_zero}}
use Rattle.clause_prune.proofs.pruned_package.PrunedPackage.asked_serving.Goals as goal
use Rattle.clause_prune.proofs.pruned_package.PrunedPackage.asked_serving.Goals.{then-serves+in_ok-push, else-serves}

pub serves-requires-clause-other : goal.serves-requires-clause-other
serves-requires-clause-other c = c.requires.asked _ (In_at c.args.asked.now c.loop-other.other-index 0 (omega arith))

pub loop-other-preserved : goal.loop-other-preserved
loop-other-preserved c =
    let test : ℕ → Bool = serves (bare_with c.args.self.now c.args.left.now) c.args.clause.now in
    let k : ℕ = c.loop-other.other-index in
    let e : get_or c.args.asked.now k 0 ≡ get_or c.args.asked.now k (get_or c.args.asked.now k 0) = sym (read_zero c.args.asked.now k (get_or c.args.asked.now k 0) c.loop-other-test.true) in
    elim c.if-serves.branch [
      | then-serves+in_ok-push w ↦
          ap (λ v. v.items) w.serving-is
          ∙ serves_too test c.args.clause.now c.args.asked.now k (get_or c.args.asked.now k 0) c.loop-other.serving.items c.loop-other-test.true e c.loop-other.invariant
          w.push.new.self.items (sym c.serves.ensures ∙ w.if-serves.true) w.in_ok-push.ensures.items
      | else-serves w ↦
          ap (λ v. v.items) w.serving-is
          ∙ serves_not test c.args.clause.now c.args.asked.now k (get_or c.args.asked.now k 0) c.loop-other.serving.items c.loop-other-test.true e c.loop-other.invariant
          (sym c.serves.ensures ∙ w.if-serves.false)
    ]

pub returns : goal.returns
returns c =
    let test : ℕ → Bool = serves (bare_with c.args.self.now c.args.left.now) c.args.clause.now in
    c.loop-other.invariant ∙ ap (λ xs. c.args.clause.now ++ filter test xs) (take_all c.loop-other.other-index c.args.asked.now c.loop-other-test.false)
