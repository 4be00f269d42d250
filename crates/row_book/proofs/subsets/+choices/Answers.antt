use Rattle.std.proofs.{Common.{◌↔◌, ◌<◌, ◌-◌, ◌++◌, ◌∷◌, [], true, IsTrue, arith, subst}, lemmas.Result.{IfOk-weaker}}
use Rattle.row_book.specs.Flags.{Extends}
use Rattle.row_book.proofs.Flags.{extends_last}
use Rattle.row_book.proofs.subsets.+choices.Goals as goal

pub extends-returns-clause-found : goal.extends-returns-clause-found
extends-returns-clause-found t c =
    let some : 0 < c.args.left = omega arith in
    IfOk-weaker c.extends_by-2.result
    (λ r. IsTrue r ↔ Extends c.args.clauses.now c.args.conflicts.now c.args.wanted.now (c.extends_by.new.flags.items ++ true ∷ []) (c.args.left - 1))
    (λ r. IsTrue r ↔ Extends c.args.clauses.now c.args.conflicts.now c.args.wanted.now c.args.flags.now.items c.args.left)
    (λ r h. extends_last c.args.clauses.now c.args.conflicts.now c.args.wanted.now c.args.flags.now.items c.args.left c.in_ok-is_found.is_found r some c.if-is_found.false
    c.in_ok-is_found.ensures.found
    (subst (λ f. IsTrue r ↔ Extends c.args.clauses.now c.args.conflicts.now c.args.wanted.now (f ++ true ∷ []) (c.args.left - 1)) c.in_ok-is_found.ensures.kept h))
    c.extends_by-2.ensures.found
