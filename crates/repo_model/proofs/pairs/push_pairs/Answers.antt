use Rattle.std.proofs.{Common.{◌+◌, ◌∷◌, ◌++◌, ◌∙◌, [], Global, Vec, ap, subst, sym, take, get_or, arith}, lemmas.List.{get_or_default}}
use Rattle.row_book.specs.declared.pair.Pair.{Pair}
use Rattle.repo_model.specs.Pairs.{Adds, IsPairWith}
use Rattle.repo_model.proofs.Paired.{with_left, with_pushed}
use Rattle.repo_model.proofs.pairs.push_pairs.Goals as goal
use Rattle.repo_model.proofs.pairs.push_pairs.Goals.{then-other-number+in_ok-push, else-other-number}

pub loop-other-preserved : goal.loop-other-preserved
loop-other-preserved c =
    let number = c.args.number in
    let others = c.args.others.now in
    let i = c.loop-other.other-index in
    let other = get_or others i 0 in
    let old = c.args.pairs.now.items in
    let mid = c.loop-other.pairs.items in
    elim c.if-other-number.branch [
      | then-other-number+in_ok-push w ↦ with_pushed number others i other (omega arith) (get_or_default others i 0 other (omega arith)) old mid c.loop-other.invariant c.if-other-number.pairs.items w.if-other-number.true
          (ap (λ (v : Vec Pair Global). v.items) w.pairs-is ∙ w.in_ok-push.ensures.items ∙ ap (λ pair. mid ++ pair ∷ []) w.pair_of.ensures)
      | else-other-number w ↦ subst (λ (v : Vec Pair Global). Adds (IsPairWith number (take (i + 1) others)) old v.items) (sym w.pairs-is)
          (with_left number others i other (omega arith) (get_or_default others i 0 other (omega arith)) old mid c.loop-other.invariant w.if-other-number.false)
    ]
