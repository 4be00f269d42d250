use Rattle.std.proofs.{Common.{sym, ap, ◌∙◌, ◌≡◌, ◌<◌, ◌+◌, ◌++◌, ◌∷◌, [], map, length, arith, subst}, lemmas.List.{length-map}}
use Rattle.repo_model.proofs.NameSteps.{IsTaken, taken_more, taken_again, taken_all}
use Rattle.repo_model.proofs.names.each_once.Goals as goal
use Rattle.repo_model.proofs.names.each_once.Goals.{then-not-is_repeated+in_ok-push, else-not-is_repeated}

pub loop-place-preserved : goal.loop-place-preserved
loop-place-preserved c =
    let sorted = map (λ name. name.now) c.args.sorted.now in
    let within : c.loop-place.place < length sorted = omega (arith, length-map c.args.sorted.now (λ name. name.now), c.loop-place-test.true) in
    elim c.if-not-is_repeated.branch [
      | then-not-is_repeated+in_ok-push w ↦ taken_more sorted c.loop-place.names c.if-not-is_repeated.names c.loop-place.place c.requires within
          (sym c.is_repeated.ensures ∙ w.if-not-is_repeated.true) c.loop-place.invariant
          (w.names-is ∙ w.in_ok-push.ensures.ok ∙ ap (λ name. c.loop-place.names ++ name ∷ []) (w.of.ensures ∙ w.name_at.ensures))
      | else-not-is_repeated w ↦ subst (IsTaken sorted (c.loop-place.place + 1)) (sym w.names-is)
          (taken_again sorted c.loop-place.names c.loop-place.place (sym c.is_repeated.ensures ∙ w.if-not-is_repeated.false) c.loop-place.invariant)
    ]

pub returns : goal.returns
returns c =
    let sorted = map (λ name. name.now) c.args.sorted.now in
    let end : c.loop-place.place ≡ length sorted = omega (arith, length-map c.args.sorted.now (λ name. name.now), c.loop-place-test.false, c.loop-place.auto.place-end) in
    taken_all sorted c.loop-place.names c.loop-place.place end c.loop-place.invariant
