use Rattle.std.proofs.{Common.{◌≡◌, ◌↔◌, IsTrue, length, subst, []}, lemmas.Result.{IfOk-weaker}}
use Rattle.listed.specs.Lists.{has}
use Rattle.row_book.specs.{Repository.{Coinst}, Flags.{Extends}}
use Rattle.row_book.proofs.Flags.{extends_all}
use Rattle.row_book.proofs.subsets.is_coinst.Goals as goal

pub returns : goal.returns
returns c =
    let none : c.new-flags.result.items ≡ [] = c.new-flags.ensures.items in
    IfOk-weaker c.extends.result
    (λ r. IsTrue r ↔ Extends c.args.clauses.now c.args.conflicts.now c.args.wanted.now c.new-flags.result.items (length c.args.clauses.now))
    (λ r. IsTrue r ↔ Coinst (record { clauses = c.args.clauses.now; conflicts = c.args.conflicts.now }) (has c.args.wanted.now))
    (λ r h.
    let all : Extends c.args.clauses.now c.args.conflicts.now c.args.wanted.now [] (length c.args.clauses.now) ↔ Coinst (record { clauses = c.args.clauses.now; conflicts = c.args.conflicts.now }) (has c.args.wanted.now) =
    extends_all c.args.clauses.now c.args.conflicts.now c.args.wanted.now in
    let here : IsTrue r ↔ Extends c.args.clauses.now c.args.conflicts.now c.args.wanted.now [] (length c.args.clauses.now) =
    subst (λ f. IsTrue r ↔ Extends c.args.clauses.now c.args.conflicts.now c.args.wanted.now f (length c.args.clauses.now)) none h in
    ((λ t. all.0 (here.0 t)), (λ s. here.1 (all.1 s))))
    c.extends.ensures.found
