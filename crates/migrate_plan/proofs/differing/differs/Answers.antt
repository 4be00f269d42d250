use Rattle.std.proofs.Common.{◌∙◌, ◌<◌, ℕ, List, ap, ap₂, length, map, subst, sym}
use Rattle.std.specs.{Prelude.{not}, Cmp.Lexicographic.{pointwise}}
use Rattle.listed.specs.Lists.{In}
use Rattle.repo_model.specs.Stanzas.{stanza_at}
use Rattle.migrate_plan.specs.Differing.{differs, says_same}
use Rattle.migrate_plan.proofs.Named.{under_below, under_name}
use Rattle.migrate_plan.proofs.differing.differs.Goals as goal

pub say_same-requires-clause-old : goal.say_same-requires-clause-old
say_same-requires-clause-old c =
    let old = c.args.old.now.packages in
    subst (λ packages. (n : ℕ) → In n c.deref.result.now → n < length packages) (sym c.as_slice.ensures) (under_below old c.args.name.now c.deref.result.now (c.deref.ensures.value ∙ c.in_ok-olds.ensures))

pub say_same-requires-clause-new : goal.say_same-requires-clause-new
say_same-requires-clause-new c =
    let new = c.args.new.now.packages in
    subst (λ packages. (n : ℕ) → In n c.deref-2.result.now → n < length packages) (sym c.as_slice-2.ensures) (under_below new c.args.name.now c.deref-2.result.now (c.deref-2.ensures.value ∙ c.in_ok-news.ensures))

pub returns : goal.returns
unfolding differs
returns c =
    let old = c.args.old.now.packages in
    let new = c.args.new.now.packages in
    let name : List ℕ = c.args.name.now in
    ap not (c.say_same.ensures
    ∙ ap₂ (λ x y. pointwise says_same x y)
    (ap (λ packages. map (stanza_at packages) c.deref.result.now) c.as_slice.ensures ∙ under_name old name c.deref.result.now (c.deref.ensures.value ∙ c.in_ok-olds.ensures))
    (ap (λ packages. map (stanza_at packages) c.deref-2.result.now) c.as_slice-2.ensures ∙ under_name new name c.deref-2.result.now (c.deref-2.ensures.value ∙ c.in_ok-news.ensures)))
