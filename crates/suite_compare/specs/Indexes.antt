-- An index with the settings of its searches, and which of its names can be installed together. A
-- question of `query` names packages by words, which may ask for a version. What is said of those
-- has words of its own, in `claims`.
use Rattle.std.specs.Prelude.{◌≡◌, ℕ, ◌<◌, Bool, List, length, map}
use Rattle.clause_solver.specs.declared.outcomes.Verdict.{Verdict}
use Rattle.clause_solver.specs.declared.outcomes.Verdict.TheVariants.{Yes, No, Spent}
use Rattle.relation_fields.specs.declared.packages.Home.{Home}
use Rattle.relation_fields.specs.declared.packages.PackageFacts.{PackageFacts}
use Rattle.repo_model.specs.{Goals.{any_version, CoinstGoals}, Stanzas.{stanza_at}}
use Rattle.suite_compare.specs.{Asking.{HasVerdict}, Refusals.{home_in, packages_in}}

-- An index, what it says of its packages, and how a search in it is made. That is the clause limit
-- of its kernel, with hold or without, and the budget of failed leaves. With hold a package whose
-- elimination would pass the limit stays.
pub record SearchedIndex : Type 0 where
  pub text : List ℕ
  pub home : Home
  pub stanzas : List PackageFacts
  pub limit : ℕ
  pub hold : Bool
  pub budget : ℕ

-- an index of the packages that are read of its text
abbrev pub searched : List ℕ → ℕ → ℕ → Bool → SearchedIndex
searched text budget limit hold = record {
  text = text;
  home = home_in text;
  stanzas = packages_in text;
  limit = limit;
  hold = hold;
  budget = budget;
}

-- some package of the index has this name
abbrev pub HasPackageOf : SearchedIndex → List ℕ → Type 0
HasPackageOf s name = (n : ℕ) × (n < length s.stanzas) × ((stanza_at s.stanzas n).name ≡ name)

-- some healthy set of packages of the index has one of each of these names
abbrev pub Installable : SearchedIndex → List (List ℕ) → Type 0
Installable s names = CoinstGoals s.home s.stanzas (map any_version names)

-- the verdict on these names: by the stanzas, if the search tree that is computed is within the
-- budget
abbrev pub Judged : SearchedIndex → List (List ℕ) → Verdict → Type 0
Judged s names verdict =
    HasVerdict s.limit s.hold s.home s.stanzas s.budget (map any_version names) verdict

-- a verdict that has nothing to do with a budget
abbrev pub IsTrueOf : SearchedIndex → List (List ℕ) → Verdict → Type 0
IsTrueOf s names Yes = Installable s names
IsTrueOf s names No = ¬ (Installable s names)
IsTrueOf s names Spent = ⊥
