use Rattle.std.proofs.{Common.{◌≡◌, List, ℕ, IfOk, ap, subst, take, get_or, ◌∙◌}, lemmas.List.{get_or_default}}
use Rattle.relation_fields.specs.declared.packages.PackageFacts.{PackageFacts}
use Rattle.package_register.specs.Numbers.{numbers_where}
use Rattle.virtual_provides.proofs.Built.{front_built}
use Rattle.repo_model.specs.{Pairs.{is_named}, Stanzas.{stanza_at, no_stanza}}
use Rattle.repo_model.proofs.pairs.earlier_named.Goals as goal

pub named-requires : goal.named-requires
named-requires c = front_built c.args.place c.args.packages.now c.args.names.now c.requires.built

pub returns : goal.returns
returns c =
    let packages = c.args.packages.now in
    let place = c.args.place in
    let same : get_or packages place c.index-packages-place.result ≡ stanza_at packages place = get_or_default packages place c.index-packages-place.result no_stanza c.requires.place in
    let named : c.as_slice.result.now ≡ (stanza_at packages place).name = c.as_slice.ensures ∙ ap (λ (s : PackageFacts). s.name) same in
    subst (λ (text : List ℕ). IfOk c.named.result (λ found. found.items ≡ numbers_where (is_named text) (take place packages))) named c.named.ensures
