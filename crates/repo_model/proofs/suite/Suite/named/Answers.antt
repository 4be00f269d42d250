use Rattle.std.proofs.Common.{◌≡◌, ◌∙◌, IfOk, List, ℕ, ap, subst, sym}
use Rattle.std.specs.Str.{bytes_eq}
use Rattle.package_register.specs.Numbers.{numbers_where}
use Rattle.relation_fields.specs.declared.packages.PackageFacts.{PackageFacts}
use Rattle.virtual_provides.specs.Bearers.{IsBuiltFrom}
use Rattle.repo_model.proofs.Chosen.{named_is}
use Rattle.repo_model.proofs.suite.Suite.named.Goals as goal

pub named-requires : goal.named-requires
named-requires c = subst (λ packages. IsBuiltFrom packages c.args.self.now.names) (sym c.as_slice.ensures) c.args.self.now.named

pub returns : goal.returns
returns c =
    let name : List ℕ = c.args.name.now in
    subst (λ ns. IfOk c.named.result (λ made. made.items ≡ ns))
    (ap (numbers_where (λ (facts : PackageFacts). bytes_eq name facts.name)) c.as_slice.ensures ∙ named_is c.args.self.now.packages name) c.named.ensures
