use Rattle.std.proofs.Common.{◌∙◌, ap, subst, sym}
use Rattle.std.specs.List.{list_any}
use Rattle.virtual_provides.specs.Bearers.{IsBuiltFrom}
use Rattle.repo_model.specs.Pairs.{is_named}
use Rattle.repo_model.proofs.suite.Suite.has_name.Goals as goal

pub has_name-requires : goal.has_name-requires
has_name-requires c = subst (λ packages. IsBuiltFrom packages c.args.self.now.names) (sym c.as_slice.ensures) c.args.self.now.named

pub returns : goal.returns
returns c = c.has_name.ensures ∙ ap (list_any (is_named c.args.name.now)) c.as_slice.ensures
