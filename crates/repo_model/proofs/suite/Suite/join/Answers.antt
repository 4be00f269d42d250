use Rattle.std.proofs.{Common.{◌≤◌, ◌∙◌, ◌++◌, ap, ap₂, length, subst, sym, arith}, lemmas.List.Concat.{flat_map-append}}
use Rattle.std.specs.List.{items_where_true}
use Rattle.relation_fields.specs.declared.packages.PackageFacts.{PackageFacts}
use Rattle.virtual_provides.specs.Bearers.{IsBuiltFrom}
use Rattle.repo_model.specs.{Limits.{most_packages}, Needs.{needs_of_all}}
use Rattle.repo_model.proofs.Selected.{both_few}
use Rattle.repo_model.proofs.suite.Suite.join.Goals as goal

pub build-requires : goal.build-requires
build-requires c =
    let same = c.in_ok-append.ensures.ok
    ∙ ap₂ (λ xs ys. xs ++ ys) (c.in_ok-packages.ensures ∙ ap (items_where_true c.args.flags.now) c.as_slice-all.ensures) (c.in_ok-rest.ensures ∙ ap (items_where_true c.args.others.now) c.as_slice-more.ensures) in
    let few : length c.append.new.self ≤ most_packages =
    both_few most_packages c.args.flags.now c.args.others.now c.args.self.now.packages c.args.other.now.packages c.append.new.self c.requires.few same in
    let lent = ap length c.as_slice.ensures in
    omega arith

pub invariant_of-result-clause-few : goal.invariant_of-result-clause-few
invariant_of-result-clause-few c =
    both_few most_packages c.args.flags.now c.args.others.now c.args.self.now.packages c.args.other.now.packages c.append.new.self c.requires.few
    (c.in_ok-append.ensures.ok
    ∙ ap₂ (λ xs ys. xs ++ ys) (c.in_ok-packages.ensures ∙ ap (items_where_true c.args.flags.now) c.as_slice-all.ensures) (c.in_ok-rest.ensures ∙ ap (items_where_true c.args.others.now) c.as_slice-more.ensures))

pub invariant_of-result-clause-shared : goal.invariant_of-result-clause-shared
invariant_of-result-clause-shared c =
    let first = items_where_true c.args.flags.now c.as_slice-all.result.now in
    let second = items_where_true c.args.others.now c.as_slice-more.result.now in
    let same = c.in_ok-append.ensures.ok ∙ ap₂ (λ xs ys. xs ++ ys) c.in_ok-packages.ensures c.in_ok-rest.ensures in
    c.in_ok-put_elements.ensures ∙ ap₂ (λ xs ys. xs ++ ys) c.in_ok-elements.ensures c.in_ok-behind.ensures
    ∙ sym (flat_map-append (λ (facts : PackageFacts). facts.needs) first second) ∙ ap needs_of_all (sym same)

pub invariant_of-result-clause-named : goal.invariant_of-result-clause-named
invariant_of-result-clause-named c = subst (λ packages. IsBuiltFrom packages c.in_ok-names.names) c.as_slice.ensures c.in_ok-names.ensures

pub returns-clause-packages : goal.returns-clause-packages
returns-clause-packages c =
    c.in_ok-append.ensures.ok
    ∙ ap₂ (λ xs ys. xs ++ ys) (c.in_ok-packages.ensures ∙ ap (items_where_true c.args.flags.now) c.as_slice-all.ensures) (c.in_ok-rest.ensures ∙ ap (items_where_true c.args.others.now) c.as_slice-more.ensures)
