use Rattle.std.proofs.Common.{◌∙◌, ap, length, subst, sym, arith}
use Rattle.std.specs.List.{items_where_true}
use Rattle.virtual_provides.specs.Bearers.{IsBuiltFrom}
use Rattle.repo_model.specs.Needs.{needs_of_all}
use Rattle.repo_model.proofs.Selected.{chosen_few}
use Rattle.repo_model.proofs.suite.Suite.select.Goals as goal

pub build-requires : goal.build-requires
build-requires c =
    let few = chosen_few c.args.flags.now c.as_slice-all.result.now in
    omega (arith, few, ap length c.as_slice.ensures, ap length c.in_ok-packages.ensures, ap length c.as_slice-all.ensures, c.args.self.now.few)

pub invariant_of-result-clause-few : goal.invariant_of-result-clause-few
invariant_of-result-clause-few c =
    let few = chosen_few c.args.flags.now c.as_slice-all.result.now in
    omega (arith, few, ap length c.in_ok-packages.ensures, ap length c.as_slice-all.ensures, c.args.self.now.few)

pub invariant_of-result-clause-shared : goal.invariant_of-result-clause-shared
invariant_of-result-clause-shared c = c.in_ok-elements.ensures ∙ ap needs_of_all (sym c.in_ok-packages.ensures)

pub invariant_of-result-clause-named : goal.invariant_of-result-clause-named
invariant_of-result-clause-named c = subst (λ packages. IsBuiltFrom packages c.in_ok-names.names) c.as_slice.ensures c.in_ok-names.ensures
