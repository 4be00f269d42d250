use Rattle.std.{proofs.Common.{◌≡◌, ℕ, Bool, [], eqb, length, sym, ◌∙◌, ap, arith}, proofs.lemmas.List.{get_or_read}}
use Rattle.listed.proofs.Numbers.{number_kept, number_left}
use Rattle.row_book.specs.Book.{listed_for}
use Rattle.suite_compare.{specs.Suspects.{without_choice}, proofs.suspect.without_choice.Goals.{then-is_empty+in_ok-push, else-is_empty}}
use Rattle.suite_compare.proofs.suspect.without_choice.Goals as goal

pub loop-kind-preserved : goal.loop-kind-preserved
loop-kind-preserved c =
    let p : ℕ → Bool = λ k. eqb (length (listed_for c.args.choices.now k)) 0 in
    let told : p c.loop-kind.kind ≡ c.is_empty.result =
    ap (λ z. eqb (length z) 0) (sym (c.as_slice.ensures ∙ get_or_read c.args.choices.now c.loop-kind.kind c.index-choices-kind.result c.loop-kind-test.true c.index-choices-kind.is [])) ∙ sym c.is_empty.ensures in
    elim c.if-is_empty.branch [
      | then-is_empty+in_ok-push w ↦ number_kept p c.loop-kind.kind c.loop-kind.without.items c.if-is_empty.without.items (told ∙ w.if-is_empty.true) c.loop-kind.invariant (ap (λ v. v.items) w.without-is ∙ w.in_ok-push.ensures.items)
      | else-is_empty w ↦ ap (λ v. v.items) w.without-is ∙ number_left p c.loop-kind.kind c.loop-kind.without.items (told ∙ w.if-is_empty.false) c.loop-kind.invariant
    ]

pub returns : goal.returns
returns c = let e : c.loop-kind.kind ≡ length c.args.choices.now = omega (arith, c.loop-kind-test.false, c.loop-kind.auto.kind-end) in c.loop-kind.invariant ∙ ap (without_choice c.args.choices.now) e
