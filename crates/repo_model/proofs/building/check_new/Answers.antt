use Rattle.std.proofs.Common.{None, Some, ap, refl}
use Rattle.std.specs.Option.{option_map}
use Rattle.relation_fields.specs.declared.packages.PackageFacts.{PackageFacts}
use Rattle.repo_model.specs.{Nameless.{named}, declared.fault.IndexFault.TheVariants.{Duplicate}}
use Rattle.repo_model.proofs.Indexed.{found_same}
use Rattle.repo_model.proofs.building.check_new.Goals as goal

pub returns-in-Some : goal.returns-in-Some
returns-in-Some c =
    ap (option_map (λ (first : PackageFacts). Duplicate first.line c.args.facts.now.line))
    (found_same (named c.args.facts.now c.args.name.now) c.args.packages.now c.args.name.now c.in_ok-same.same.items c.deref.result.now (Some c.in-Some.first.now) refl c.in_ok-same.ensures c.deref.ensures.value c.in-Some.ensures)

pub returns : goal.returns
returns c = (
  ap (option_map (λ (first : PackageFacts). Duplicate first.line c.args.facts.now.line))
      (found_same (named c.args.facts.now c.args.name.now) c.args.packages.now c.args.name.now c.in_ok-same.same.items c.deref.result.now None refl c.in_ok-same.ensures c.deref.ensures.value c.in-None.ensures),
  refl,
)
