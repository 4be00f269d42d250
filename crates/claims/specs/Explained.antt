-- What an explanation prints, and what its goals and conflicts are.
use Rattle.suite_compare.specs.Indexes.{SearchedIndex}
use Rattle.std.specs.Prelude.{◌≡◌, ◌↔◌, ℕ, ◌<◌, Bool, true, false, List, [], ◌∷◌, ◌++◌, codes}
use Rattle.std.specs.Prelude.{length, map, Option, Some, None, IfSome, unwrap_or, if◌then◌else◌}
use Rattle.std.specs.{Fmt.{decimal}, List.{AllZip, flat_map}}
use Rattle.coinst_words.specs.Usage.{Text}
use Rattle.explain_core.specs.{declared.explanation.Clash.{Clash}, OnStanzas.{HealthyButFor}}
use Rattle.explain_core.specs.{Only.{only, pair}, Reasons.{conflicts_reached}}
use Rattle.kernel_text.specs.KernelLines.{with_feed}
use Rattle.listed.specs.Lists.{Ascending, In}
use Rattle.relation_fields.specs.declared.packages.PackageFacts.{PackageFacts}
use Rattle.repo_model.specs.{Repository.{in_conflict, suite_repository}, Stanzas.{stanza_at}}
use Rattle.row_book.specs.{Sets.{NumSet}, declared.pair.Pair.{Pair}}
use Rattle.search_terms.specs.Form.{form}
use Rattle.claims.specs.{Goals.{CanMeet, HasEach, NamesPackage}, Search.{Searched}}
use Rattle.claims.specs.Settled.{IsPastBudget}

-- a goal that is printed; it is open if the search for the other goals is too long
pub record PrintedGoal : Type 0 where
  pub word : Text
  pub undecided : Bool

abbrev pub printed_package : PackageFacts → Text
printed_package s = s.name ++ codes " " ++ s.version

-- the conflicts, each by its two packages; or that they are open as a whole
abbrev pub printed_clashes : List PackageFacts → Option (List Clash) → Text
printed_clashes stanzas None = with_feed (codes "clashes-open")
printed_clashes stanzas (Some clashes) =
    flat_map (λ c. with_feed ((if c.unsettled then codes "clash-open" else codes "clash")
    ++ codes " " ++ printed_package (stanza_at stanzas c.first)
    ++ codes " " ++ printed_package (stanza_at stanzas c.second))) clashes

-- the goals, the conflicts, and the number of each, 0 of conflicts that are open as a whole
abbrev pub printed_core : List PackageFacts → List PrintedGoal → Option (List Clash) → Text
printed_core stanzas kept clashes =
    flat_map (λ g.
    with_feed ((if g.undecided then codes "goal-open " else codes "goal ") ++ g.word)) kept
    ++ printed_clashes stanzas clashes
    ++ with_feed (codes "end " ++ decimal (length kept)
    ++ codes " " ++ decimal (length (unwrap_or clashes [])))

-- One item after another is kept or left out. The others of an item are those before it that are
-- kept, and all those after it. An item is left out if the search for the others is not too long
-- and there is no solution. It is kept and open if that search is too long; and kept if there is a
-- solution.
pub data AreKept {X Y : Type 0} (item : Y → X) (is_open : Y → Bool)
    (IsLong Could : List X → Type 0) : List X → List X → List Y → Type 0 where
  none : {before : List X} → AreKept item is_open IsLong Could before [] []
  left_out : {before after : List X} {x : X} {kept : List Y} → ¬ (IsLong (before ++ after)) →
      ¬ (Could (before ++ after)) → AreKept item is_open IsLong Could before after kept →
      AreKept item is_open IsLong Could before (x ∷ after) kept
  stays : {before after : List X} {y : Y} {kept : List Y} →
      ((is_open y ≡ true) ↔ IsLong (before ++ after)) →
      (is_open y ≡ false → Could (before ++ after)) →
      AreKept item is_open IsLong Could (before ++ item y ∷ []) after kept →
      AreKept item is_open IsLong Could before (item y ∷ after) (y ∷ kept)

-- The printed goals are what is kept of the goals that were asked, and cannot be met together.
pub record IsCoreOfGoals (s : SearchedIndex) (goals : List Text)
    (kept : List PrintedGoal) : Type 0 where
  pub asked : AreKept (λ g. g.word) (λ g. g.undecided) (IsPastBudget s) (CanMeet s) [] goals kept
  pub impossible : ¬ (CanMeet s (map (λ g. g.word) kept))

-- the numbers of the packages that a goal names, ascending
abbrev pub ArePackagesFor : List PackageFacts → Text → List ℕ → Type 0
ArePackagesFor stanzas goal ns = Ascending ns
    × ((n : ℕ) → In n ns ↔ ((n < length stanzas)
    × NamesPackage goal (stanza_at stanzas n).name (stanza_at stanzas n).version))

-- if only these pairs were in conflict, more leaves than the budget would fail in the search for
-- packages, one of each of these lists
abbrev pub IsTooLongWith : SearchedIndex → List (List ℕ) → List Pair → Type 0
IsTooLongWith s wanted pairs = (found : Bool) × (leaves : ℕ)
    × Searched (form (only (suite_repository s.home s.stanzas) pairs) wanted) [] found leaves
    × (s.budget < leaves)

-- the goals could be met if only these pairs were in conflict
abbrev pub CouldMeet : SearchedIndex → List Clash → List Text → Type 0
CouldMeet s clashes goals =
    (whole : NumSet) × HealthyButFor s.home s.stanzas clashes whole × HasEach s.stanzas whole goals

-- pairs as conflicts, none of them open
abbrev pub as_clashes : List Pair → List Clash
as_clashes pairs = map (λ x. record { first = x.low; second = x.high; unsettled = false }) pairs

-- Each pair is of two packages in conflict. If only these were in conflict, the goals could not be
-- met. They are what is kept of all conflicts within reach of the packages that the goals name.
pub record AreReasonsFor (s : SearchedIndex) (goals : List Text) (wanted : List (List ℕ))
    (clashes : List Clash) : Type 0 where
  pub conflicts : (c : Clash) → In c clashes → (c.first < c.second) × (c.second < length s.stanzas)
      × (in_conflict s.home s.stanzas c.first c.second ≡ true)
  pub enough : ¬ (CouldMeet s clashes goals)
  pub kept : AreKept (λ c. pair c.first c.second) (λ c. c.unsettled) (IsTooLongWith s wanted)
      (λ pairs. CouldMeet s (as_clashes pairs) goals) []
      (conflicts_reached (suite_repository s.home s.stanzas) wanted) clashes

-- The conflicts are open as a whole exactly if the search with all conflicts within reach is too
-- long. If they are not open as a whole, they are reasons.
pub record AreConflictsFor (s : SearchedIndex) (goals : List Text)
    (clashes : Option (List Clash)) : Type 0 where
  pub wanted : List (List ℕ)
  pub named : AllZip (ArePackagesFor s.stanzas) goals wanted
  pub whole : (clashes ≡ None)
      ↔ IsTooLongWith s wanted (conflicts_reached (suite_repository s.home s.stanzas) wanted)
  pub reasons : IfSome clashes (AreReasonsFor s goals wanted)
