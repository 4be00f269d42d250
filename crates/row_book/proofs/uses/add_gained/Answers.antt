use Rattle.std.proofs.{Common.{◌∙◌, ◌||◌, ◌&&◌, ap, sym, eqb, subst}, lemmas.Result.{on_ok_weaker}}
use Rattle.listed.specs.Lists.{has}
use Rattle.row_book.specs.Uses.{list_in, IsListOf}
use Rattle.row_book.proofs.uses.add_gained.Goals as goal

pub add_to_each-answer-requires : goal.add_to_each-answer-requires
add_to_each-answer-requires c = λ n h. c.requires.within n (sym (c.in_ok-after.ensures n) ∙ ap (λ xs. has xs n) (sym c.as_slice.ensures.value) ∙ h)

pub returns-clause-ok : goal.returns-clause-ok
returns-clause-ok c =
    on_ok_weaker c.add_to_each-answer.result
    (λ f n a. subst (λ held. IsListOf (λ m. has (list_in c.args.table.now n) m || (held && eqb m c.args.package)) (list_in c.add_to_each-answer.new.table n))
    (ap (λ xs. has xs n) c.as_slice.ensures.value ∙ c.in_ok-after.ensures n) (f n a))
    c.add_to_each-answer.ensures.ok
