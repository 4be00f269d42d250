use Rattle.std.proofs.Common.{length, sym, ap, subst, refl}
use Rattle.virtual_provides.specs.Bearers.{IsBuiltFrom}
use Rattle.repo_model.specs.Needs.{needs_of_all}
use Rattle.repo_model.proofs.Noted.{needs_more}
use Rattle.repo_model.proofs.building.Building.put.Goals as goal

pub returns-clause-built : goal.returns-clause-built
returns-clause-built c = record {
  named =
      subst (λ packages. IsBuiltFrom packages c.put.new.self) (sym c.in_ok-push.ensures.ok)
      (c.in_ok-put.ensures c.args.self.now.packages c.requires.built (ap length c.as_slice.ensures));
  noted = needs_more (needs_of_all c.args.self.now.packages) _ c.args.self.now.packages _ c.args.facts refl c.requires.noted c.in_ok-push.ensures.ok;
}
