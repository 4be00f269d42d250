-- What the repository of an index keeps of its stanzas.
use Rattle.std.specs.Prelude.{◌≡◌, ◌↔◌, List}
use Rattle.relation_fields.specs.declared.packages.Home.{Home}
use Rattle.relation_fields.specs.declared.packages.PackageFacts.{PackageFacts}
use Rattle.row_book.specs.{Repository.{Healthy}, Sets.{NumSet}}
use Rattle.row_book.specs.Sound.{BetweenPackages, SoundClauses}
use Rattle.repo_model.specs.Goals.{names_in, packages_named, CoinstGoals}
use Rattle.repo_model.specs.{declared.goals.Goal.{Goal}, Repository.{suite_repository}}
use Rattle.repo_model.specs.Stanzas.{HealthyStanzas}

-- a set of stanza numbers is healthy, judged on the stanzas, exactly if it is healthy in their
-- repository
abbrev pub KeepsHealth : Home → List PackageFacts → Type 0
KeepsHealth home stanzas =
    (I : NumSet) → (HealthyStanzas home stanzas I ↔ Healthy (suite_repository home stanzas) I)

-- the clauses of the repository are ascending, and its clauses and conflicts name only packages of
-- it
pub record IsOfPackages (home : Home) (stanzas : List PackageFacts) : Type 0 where
  pub clauses : SoundClauses (suite_repository home stanzas)
  pub conflicts : BetweenPackages (suite_repository home stanzas)

-- what a stanza says, without the number of its line
abbrev pub but_line : PackageFacts → PackageFacts
but_line facts = record facts { line = 0 }

-- Stanzas that differ only in the numbers of their lines have the same repository, the same names,
-- and for each goal the same packages. Goals are co-installable in both or in none.
pub record IgnoresLines (home : Home) (stanzas others : List PackageFacts) : Type 0 where
  pub repository : suite_repository home stanzas ≡ suite_repository home others
  pub names : names_in stanzas ≡ names_in others
  pub goals : (goal : Goal) → packages_named stanzas goal ≡ packages_named others goal
  pub verdicts : (goals : List Goal) → CoinstGoals home stanzas goals
      ↔ CoinstGoals home others goals
