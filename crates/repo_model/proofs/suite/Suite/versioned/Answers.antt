use Rattle.std.proofs.Common.{◌≡◌, ◌∙◌, IfOk, List, ℕ, ap, subst, sym}
use Rattle.package_register.specs.Numbers.{numbers_where}
use Rattle.virtual_provides.specs.Bearers.{IsBuiltFrom}
use Rattle.repo_model.specs.Goals.{is_named_by, one_version}
use Rattle.repo_model.proofs.Chosen.{numbers_chosen}
use Rattle.repo_model.proofs.suite.Suite.versioned.Goals as goal

pub versioned-requires : goal.versioned-requires
versioned-requires c = subst (λ packages. IsBuiltFrom packages c.args.self.now.names) (sym c.as_slice.ensures) c.args.self.now.named

pub returns : goal.returns
returns c =
    let asked = is_named_by (one_version c.args.name.now c.args.version.now) in
    subst (λ ns. IfOk c.versioned.result (λ made. made.items ≡ ns))
    (ap (numbers_where asked) c.as_slice.ensures ∙ numbers_chosen asked c.args.self.now.packages) c.versioned.ensures
