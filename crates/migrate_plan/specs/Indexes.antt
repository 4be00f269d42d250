-- An old and a new index, by their texts and by what is kept of these.
use Rattle.std.specs.Prelude.{◌≡◌, ℕ, Bool, List, Option, None, length, if◌then◌else◌}
use Rattle.std.specs.List.{items_where_true, list_any}
use Rattle.relation_fields.specs.declared.packages.PackageFacts.{PackageFacts}
use Rattle.repo_model.specs.{Feeding.{IsSuiteOf}, declared.suite.Suite.{Suite}}
use Rattle.migrate_plan.specs.declared.lengths.TextLengths.{TextLengths}

-- the texts of an old and of a new index
pub record Texts : Type 0 where
  pub old : List ℕ
  pub new : List ℕ

-- texts whose suites these are
pub record AreTexts (texts : Texts) (old new : Suite) : Type 0 where
  pub old_is : IsSuiteOf texts.old old.packages old.home.name
  pub new_is : IsSuiteOf texts.new new.packages new.home.name

-- texts whose suites and lengths these are
pub record AreMeasured (texts : Texts) (old new : Suite) (lengths : TextLengths) : Type 0 where
  pub suites : AreTexts texts old new
  pub old_length_is : lengths.old ≡ length texts.old
  pub new_length_is : lengths.new ≡ length texts.new

-- whether one of the packages has an architecture other than `all`
abbrev pub has_arch_dependent : List PackageFacts → Bool
has_arch_dependent packages = list_any (λ facts. facts.is_arch_dependent) packages

-- the common architecture of a suite, if one of its packages whose flags are up has it
abbrev pub home_where : List Bool → Suite → Option (List ℕ)
home_where flags suite =
    if has_arch_dependent (items_where_true flags suite.packages) then suite.home.name else None
