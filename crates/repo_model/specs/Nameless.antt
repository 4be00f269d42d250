-- for the bodies of this crate alone
-- A package without its name.
use Rattle.std.specs.Prelude.{ℕ, List}
use Rattle.relation_fields.specs.declared.packages.PackageFacts.{PackageFacts}
use Rattle.repo_model.specs.declared.facts.NamelessFacts.{NamelessFacts}

abbrev pub nameless : PackageFacts → NamelessFacts
nameless facts = record {
  line = facts.line;
  version = facts.version;
  is_arch_dependent = facts.is_arch_dependent;
  needs = facts.needs;
  against = facts.against;
  provides = facts.provides;
}

-- the package with that name
abbrev pub named : NamelessFacts → List ℕ → PackageFacts
named facts name = record {
  line = facts.line;
  name = name;
  version = facts.version;
  is_arch_dependent = facts.is_arch_dependent;
  needs = facts.needs;
  against = facts.against;
  provides = facts.provides;
}
