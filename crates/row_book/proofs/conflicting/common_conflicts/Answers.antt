use Rattle.std.proofs.Common.{◌≡◌, ◌<◌, ◌+◌, ◌∙◌, ◌++◌, ◌∷◌, ℕ, Bool, List, [], ap, append-nil, cond, filter, get_or, length, subst, sym, take}
use Rattle.std.proofs.lemmas.List.Elements.{filter_more}
use Rattle.std.specs.List.{list_all}
use Rattle.row_book.specs.{Book.{listed_for}, Facing.{against_in}}
use Rattle.row_book.proofs.conflicting.common_conflicts.Goals as goal
use Rattle.row_book.proofs.conflicting.common_conflicts.Goals.{then-is_against_each+in_ok-push, else-is_against_each}

-- one more element of a list that was lent
filter_step : (p : ℕ → Bool) (lent listed : List ℕ) (k : ℕ) → lent ≡ listed → k < length lent
    → filter p (take (k + 1) listed) ≡ filter p (take k listed) ++ cond (p (get_or lent k 0)) (get_or lent k 0 ∷ []) []
filter_step p lent listed k s l =
    subst (λ ys. filter p (take (k + 1) ys) ≡ filter p (take k ys) ++ cond (p (get_or lent k 0)) (get_or lent k 0 ∷ []) []) s (filter_more p lent k 0 l)

pub loop-number-preserved : goal.loop-number-preserved
loop-number-preserved c =
    let among = λ (n : ℕ). list_all (λ m. against_in c.args.table.now m n) c.args.others.now in
    let listed = listed_for c.args.table.now c.args.first in
    let lent = c.conflicts_of-number-items.result.now in
    let before = filter among (take c.loop-number.number-index listed) in
    let number = get_or lent c.loop-number.number-index 0 in
    let step : filter among (take (c.loop-number.number-index + 1) listed) ≡ before ++ cond (among number) (number ∷ []) [] =
    filter_step among lent listed c.loop-number.number-index c.conflicts_of-number-items.ensures c.loop-number-test.true in
    elim c.if-is_against_each.branch [
      | then-is_against_each+in_ok-push w ↦
          ap (λ v. v.items) w.common-is ∙ w.in_ok-push.ensures.items ∙ ap (λ xs. xs ++ number ∷ []) c.loop-number.invariant
          ∙ ap (λ b. before ++ cond b (number ∷ []) []) (sym w.if-is_against_each.true ∙ c.is_against_each.ensures)
          ∙ sym step
      | else-is_against_each w ↦
          ap (λ v. v.items) w.common-is ∙ c.loop-number.invariant ∙ sym (append-nil before)
          ∙ ap (λ b. before ++ cond b (number ∷ []) []) (sym w.if-is_against_each.false ∙ c.is_against_each.ensures)
          ∙ sym step
    ]
