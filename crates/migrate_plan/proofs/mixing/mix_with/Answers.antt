use Rattle.std.proofs.Common.{[], ◌∷◌, ◌++◌, ◌∙◌, ap, map}
use Rattle.migrate_plan.specs.Mix.{is_left, is_taken}
use Rattle.migrate_plan.proofs.MixedFacts.{home_mixed}
use Rattle.migrate_plan.proofs.mixing.mix_with.Goals as goal

pub returns-clause-left : goal.returns-clause-left
returns-clause-left c = c.in_ok-left.ensures ∙ ap (λ names. map (λ facts. is_left names facts.name) c.args.old.now.packages) (c.deref.ensures.value ∙ c.in_ok-names.ensures)

pub returns-clause-kept : goal.returns-clause-kept
returns-clause-kept c = c.in_ok-kept.ensures ∙ ap (λ names. map (λ facts. is_taken names facts.name) c.args.new.now.packages) (c.deref-2.ensures.value ∙ c.in_ok-names.ensures)

pub returns-clause-home : goal.returns-clause-home
returns-clause-home c =
    let names = c.args.taken.now ++ c.args.tried.now ∷ [] in
    λ texts are. home_mixed texts c.args.old.now c.args.new.now are names c.deref-3.result.now c.deref-4.result.now
    (c.deref-3.ensures.value ∙ c.in_ok-left.ensures ∙ ap (λ ns. map (λ facts. is_left ns facts.name) c.args.old.now.packages) (c.deref.ensures.value ∙ c.in_ok-names.ensures))
    (c.deref-4.ensures.value ∙ c.in_ok-kept.ensures ∙ ap (λ ns. map (λ facts. is_taken ns facts.name) c.args.new.now.packages) (c.deref-2.ensures.value ∙ c.in_ok-names.ensures))
    c.in_ok-home.home c.in_ok-home.ensures
