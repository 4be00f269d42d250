-- What a comparison of two indexes lists, said of the indexes alone. `Finds` is what it is for a
-- search to find a verdict on names. That is by the tree that is computed (`Judged`), or without a
-- budget (`IsTrueOf`). In the sentences on what is printed it is by the text of the kernel.
use Rattle.std.specs.Prelude.{ℕ, ◌≡◌, ◌↔◌, ◌⊎◌, ⊤, Bool, true, false, List, [], ◌∷◌}
use Rattle.clause_pool.specs.Lists.{Before}
use Rattle.clause_solver.specs.declared.outcomes.Verdict.{Verdict}
use Rattle.clause_solver.specs.declared.outcomes.Verdict.TheVariants.{Yes, No, Spent}
use Rattle.listed.specs.Lists.{In}
use Rattle.suite_compare.specs.Indexes.{SearchedIndex, HasPackageOf, Installable, IsTrueOf}
use Rattle.suite_compare.specs.declared.report.ReportLine.{ReportLine}
use Rattle.suite_compare.specs.declared.report.ReportLine.TheVariants.{Broken1, Broken2, Open1}
use Rattle.suite_compare.specs.declared.report.ReportLine.TheVariants.{Open2}

-- whether the line says `broken`
abbrev pub is_broken : ReportLine → Bool
is_broken (Broken1 name) = true
is_broken (Broken2 first second) = true
is_broken line = false

-- whether the line says `open`
abbrev pub says_open : ReportLine → Bool
says_open (Open1 name) = true
says_open (Open2 first second) = true
says_open line = false

-- the names of a line
abbrev pub names_of : ReportLine → List (List ℕ)
names_of (Broken1 a) = a ∷ []
names_of (Broken2 a b) = a ∷ b ∷ []
names_of (Open1 a) = a ∷ []
names_of (Open2 a b) = a ∷ b ∷ []

-- Names come before pairs. Names come in the order of bytes, and pairs in that of their first names
-- and then of their second ones.
abbrev pub Precedes : List (List ℕ) → List (List ℕ) → Type 0
Precedes (a ∷ []) (b ∷ []) = Before a b
Precedes (a ∷ []) (c ∷ d ∷ []) = ⊤
Precedes (a ∷ b ∷ []) (c ∷ d ∷ []) = Before a c ⊎ ((a ≡ c) × Before b d)
Precedes first second = ⊥

-- each line precedes all that come after it, so no two are about the same names
abbrev pub AreInOrder : List ReportLine → Type 0
AreInOrder [] = ⊤
AreInOrder (line ∷ more) = ((other : ReportLine) → In other more →
    Precedes (names_of line) (names_of other)) × AreInOrder more

-- both indexes have the name
abbrev pub BothHave : SearchedIndex → SearchedIndex → List ℕ → Type 0
BothHave old new name = HasPackageOf old name × HasPackageOf new name

-- What is asked: each name of both, and each two such names, in the order of their bytes, that are
-- each found installable alone in the newer one.
abbrev pub IsAsked : (SearchedIndex → List (List ℕ) → Verdict → Type 0) → SearchedIndex →
    SearchedIndex → List (List ℕ) → Type 0
IsAsked Finds old new (a ∷ []) = BothHave old new a
IsAsked Finds old new (a ∷ b ∷ []) = Before a b × BothHave old new a × BothHave old new b
    × Finds new (a ∷ []) Yes × Finds new (b ∷ []) Yes
IsAsked Finds old new names = ⊥

-- it is found that the older index can install these names together, and that the newer one cannot
abbrev pub IsBroken : (SearchedIndex → List (List ℕ) → Verdict → Type 0) → SearchedIndex →
    SearchedIndex → List (List ℕ) → Type 0
IsBroken Finds old new names = Finds old names Yes × Finds new names No

-- the newer search spends its budget; or it finds that these names cannot be installed together,
-- and the older search spends its budget
abbrev pub IsUndecided : (SearchedIndex → List (List ℕ) → Verdict → Type 0) → SearchedIndex →
    SearchedIndex → List (List ℕ) → Type 0
IsUndecided Finds old new names =
    Finds new names Spent ⊎ (Finds new names No × Finds old names Spent)

-- The list has a broken line for exactly those names and pairs that are asked and broken, and an
-- open line for exactly those that are asked and open. The lines are in order, no two about the
-- same names.
pub record ListsExactly (Finds : SearchedIndex → List (List ℕ) → Verdict → Type 0)
    (old new : SearchedIndex) (lines : List ReportLine) : Type 0 where
  pub broken : (l : ReportLine) → is_broken l ≡ true →
      (In l lines ↔ (IsAsked Finds old new (names_of l) × IsBroken Finds old new (names_of l)))
  pub undecided : (l : ReportLine) → says_open l ≡ true →
      (In l lines ↔ (IsAsked Finds old new (names_of l) × IsUndecided Finds old new (names_of l)))
  pub order : AreInOrder lines

-- no line is open
abbrev pub HasNoOpenLine : List ReportLine → Type 0
HasNoOpenLine lines = (l : ReportLine) → In l lines → says_open l ≡ false

-- The list has a broken line for exactly those names of both indexes that are lost. It has one for
-- exactly those pairs of them that are lost and whose names the newer index can each install alone.
-- No budget is spoken of.
abbrev pub ListsLosses : SearchedIndex → SearchedIndex → List ReportLine → Type 0
ListsLosses old new lines = (l : ReportLine) → is_broken l ≡ true →
    (In l lines ↔ (IsAsked IsTrueOf old new (names_of l) × IsBroken IsTrueOf old new (names_of l)))

-- Of the names that both indexes have, the new index can install each that the old one can, and
-- each two together that the old one can install together.
pub record LosesNothing (old new : SearchedIndex) : Type 0 where
  pub names : (name : List ℕ) → BothHave old new name → Installable old (name ∷ []) →
      Installable new (name ∷ [])
  pub pairs : (a b : List ℕ) → BothHave old new a → BothHave old new b →
      Installable old (a ∷ b ∷ []) → Installable new (a ∷ b ∷ [])
