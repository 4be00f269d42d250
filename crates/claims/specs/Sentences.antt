-- The sentences for which all else is there: what each command prints means. Begin here, and look
-- up each word in the file that the line of its `use` names. Each sentence is said of the words of
-- a run, of what it read, of its exit status and of the bytes that it printed. What it read is each
-- file by its path, with its text, in the order of reading. That a report came, and no refusal, is
-- said by the clause `runs` of `run`, and not here.
use Rattle.suite_compare.specs.{Indexes.{HasPackageOf, SearchedIndex}, Listing.{ListsExactly}}
use Rattle.suite_compare.specs.declared.report.ReportLine.{ReportLine}
use Rattle.claims.specs.Settled.{Found, IsKernelText, IsPastBudget}
use Rattle.claims.specs.Answers.{printed_classes, printed_installation, printed_no}
use Rattle.claims.specs.{Answers.{printed_undecided}, Asked.{IsSearched}}
use Rattle.claims.specs.Certificates.{HasClassOfEach, IsTooLong, Refutes}
use Rattle.claims.specs.Classes.{classes_of, IsItsClass, IsOneOf}
use Rattle.claims.specs.Control.{IsStanza, stanza_groups}
use Rattle.claims.specs.Explained.{AreConflictsFor, IsCoreOfGoals, PrintedGoal, printed_core}
use Rattle.claims.specs.{Goals.{CanMeet, HasEach, all_stanzas}, Index.{GroupsSay, IndexSays}}
use Rattle.claims.specs.{Kernel.{PassesOnTheWay}, Plans.{Differs, IsMix, plan_status, printed_plan}}
use Rattle.claims.specs.Printed.{comparison_status, printed_comparison}
use Rattle.claims.specs.Systems.{IsOwnState, goal_word_of, has_package, is_foreign_group}
use Rattle.claims.specs.Systems.{is_own_group, printed_system, system_status}
use Rattle.claims.specs.Words.{AreOrdinary, asking_words, stored_words}
use Rattle.std.specs.Prelude.{◌≡◌, ℕ, ◌≤◌, ◌↔◌, ◌≢◌, count_by, filter, map, Bool, List, [], ◌∷◌}
use Rattle.std.specs.Prelude.{◌++◌, length, nat_lt, codes, Option, None, unwrap_or, ◌<◌}
use Rattle.std.specs.Fmt.{decimal}
use Rattle.byte_flow.specs.History.{OpenedFile}
use Rattle.clause_pool.specs.Lists.{InOrder}
use Rattle.coinst_words.specs.Usage.{Text}
use Rattle.explain_core.specs.declared.explanation.Clash.{Clash}
use Rattle.kernel_text.specs.{KernelLines.{with_feed}, KernelReads.{HasOneReading, KernelReads}}
use Rattle.kernel_text.specs.declared.member.Member.{Member}
use Rattle.listed.specs.Lists.{Ascending, In, has}
use Rattle.migrate_plan.specs.{Plan.{taken_in}, Promises.{planned_name}}
use Rattle.migrate_plan.specs.declared.plan.PlanLine.{PlanLine}
use Rattle.migrate_plan.specs.declared.plan.PlanLine.TheVariants.{Take, LeftLimit, LeftLine}
use Rattle.relation_fields.specs.declared.packages.Home.{Home}
use Rattle.relation_fields.specs.declared.packages.PackageFacts.{PackageFacts}
use Rattle.repo_model.specs.Repository.{suite_repository}
use Rattle.repo_model.specs.Stanzas.{stanza_at, CoinstStanzas, HealthyStanzas}
use Rattle.row_book.specs.{Repository.{Repository, Coinst, Healthy}, Sets.{NumSet, Is}}
use Rattle.search_terms.specs.declared.literals.Literal.{Literal}
use Rattle.status_check.specs.declared.report.OwnState.{OwnState}

-- `kernel`. The text is an index of these stanzas. The printed bytes read as exactly one format,
-- repository, list of members and list of held classes. Each member is a stanza, and each stanza is
-- in exactly one class. A set of stanzas can be installed together exactly if its classes can in
-- the repository.
pub record IsFaithfulKernel (text printed : Text) : Type 0 where
  pub home : Home
  pub stanzas : List PackageFacts
  pub index : IndexSays text home stanzas
  pub format : ℕ
  pub repository : Repository
  pub members : List Member
  pub held : List ℕ
  pub reads : KernelReads printed format repository members held
  pub no_other_reading : HasOneReading printed
  pub members_are_packages : (m : Member) → In m members → IsOneOf stanzas m
  pub each_in_one_class : (i : ℕ) → i < length stanzas →
      (k : ℕ) × IsItsClass (length repository.clauses) members (stanza_at stanzas i) k
  pub same_together : (S : NumSet) → ((n : ℕ) → Is S n → n < length stanzas) →
      (CoinstStanzas home stanzas S ↔ Coinst repository (classes_of stanzas members S))

-- What a run prints for `kernel`, with its options in the order of `asking_words`, is a faithful
-- kernel of the file that it read, with status 0. A number that is not given is the default; `run`
-- refuses 0 and numbers above a million. The clause `meaning` of `run` speaks of all other
-- spellings of the words too, and of `--json`.
abbrev pub KernelIsTrue : List Text → List OpenedFile → ℕ → Text → Type 0
KernelIsTrue words readings status printed = (limit : Option ℕ) (hold : Bool) (path : Text) →
    unwrap_or limit 65536 ≤ 1000000 →
    words ≡ asking_words (codes "kernel") None limit hold (path ∷ []) →
    (text : Text) × (readings ≡ (path, text) ∷ []) × (status ≡ 0) × IsFaithfulKernel text printed

-- `kernel` once more: what is printed is the text of the kernel of the index at the limit that was
-- asked for, and is settled.
abbrev pub KernelIsSettled : List Text → List OpenedFile → ℕ → Text → Type 0
KernelIsSettled words readings status printed = (limit : Option ℕ) (hold : Bool) (path : Text) →
    unwrap_or limit 65536 ≤ 1000000 →
    words ≡ asking_words (codes "kernel") None limit hold (path ∷ []) →
    (index : SearchedIndex) × (readings ≡ (path, index.text) ∷ []) × (status ≡ 0)
    × IsSearched None limit hold index × IsKernelText index printed

-- `query`. Yes, status 0: the printed packages are a healthy set that has one for each goal. No,
-- status 1: no healthy set has, and the printed log refutes the goals in the kernel text of the
-- index. Undecided, status 8, exactly if the search for the goals in that text is longer than the
-- budget.
pub data IsFaithfulAnswer (index : SearchedIndex) (goals : List Text) (status : ℕ)
    (printed : Text) : Type 0 where
  yes : status ≡ 0 → (set : List ℕ) → printed ≡ printed_installation index.stanzas set →
      ¬ (IsPastBudget index goals) → Ascending set →
      HealthyStanzas index.home index.stanzas (has set) → HasEach index.stanzas (has set) goals →
      IsFaithfulAnswer index goals status printed
  no : status ≡ 1 → (log : List (List Literal)) → printed ≡ printed_no log →
      ¬ (IsPastBudget index goals) → ¬ (CanMeet index goals) →
      ((kernel : Text) × IsKernelText index kernel × Refutes kernel goals log) →
      IsFaithfulAnswer index goals status printed
  undecided : status ≡ 8 → printed ≡ printed_undecided index.budget → IsPastBudget index goals →
      IsFaithfulAnswer index goals status printed

-- What a run prints for `query`, with its options in the order of `asking_words`, is a faithful
-- answer to its goals. Each goal names a package.
abbrev pub QueryIsTrue : List Text → List OpenedFile → ℕ → Text → Type 0
QueryIsTrue words readings status printed =
    (budget limit : Option ℕ) (hold : Bool) (path : Text) (goals : List Text) →
    unwrap_or budget 10000 ≤ 1000000 → unwrap_or limit 65536 ≤ 1000000 →
    AreOrdinary (path ∷ goals) →
    words ≡ asking_words (codes "query") budget limit hold (path ∷ goals) →
    (index : SearchedIndex) × (readings ≡ (path, index.text) ∷ [])
    × IndexSays index.text index.home index.stanzas × IsSearched budget limit hold index
    × HasEach index.stanzas (all_stanzas index.stanzas) goals
    × IsFaithfulAnswer index goals status printed

-- `query --kernel`. The text reads as one kernel. Yes, status 0: the printed classes can be
-- together, and have a member for each goal. No, status 1: no classes do, and the log refutes the
-- goals in the text. Undecided, status 8, exactly if the search for them is longer than the budget.
-- If the text is that of the kernel of an index, yes and no are the answer of the index.
pub data IsFaithfulStoredAnswer (kernel : Text) (repository : Repository) (members : List Member)
    (goals : List Text) (budget status : ℕ) (printed : Text) : Type 0 where
  yes : status ≡ 0 → (classes : List ℕ) → printed ≡ printed_classes classes →
      ¬ (IsTooLong kernel goals budget) → Ascending classes → Healthy repository (has classes) →
      HasClassOfEach members (has classes) goals →
      ((index : SearchedIndex) → IsKernelText index kernel → CanMeet index goals) →
      IsFaithfulStoredAnswer kernel repository members goals budget status printed
  no : status ≡ 1 → (log : List (List Literal)) → printed ≡ printed_no log →
      ¬ (IsTooLong kernel goals budget) →
      ((set : NumSet) → Healthy repository set → ¬ (HasClassOfEach members set goals)) →
      Refutes kernel goals log →
      ((index : SearchedIndex) → IsKernelText index kernel → ¬ (CanMeet index goals)) →
      IsFaithfulStoredAnswer kernel repository members goals budget status printed
  undecided : status ≡ 8 → printed ≡ printed_undecided budget → IsTooLong kernel goals budget →
      IsFaithfulStoredAnswer kernel repository members goals budget status printed

-- What a run prints for `query --kernel`, with its option in the order of `stored_words`, is a
-- faithful answer to its goals. Each goal names a member.
abbrev pub StoredQueryIsTrue : List Text → List OpenedFile → ℕ → Text → Type 0
StoredQueryIsTrue words readings status printed =
    (budget : Option ℕ) (path : Text) (goals : List Text) → unwrap_or budget 10000 ≤ 1000000 →
    AreOrdinary goals → words ≡ stored_words budget path goals →
    (kernel : Text) × (readings ≡ (path, kernel) ∷ []) × HasOneReading kernel
    × ((format : ℕ) × (repository : Repository) × (members : List Member) × (held : List ℕ)
    × KernelReads kernel format repository members held
    × HasClassOfEach members (λ k. nat_lt k (length repository.clauses)) goals
    × IsFaithfulStoredAnswer kernel repository members goals
    (unwrap_or budget 10000) status printed)

-- `compare`. Both texts are indexes. It is asked of each name of both, and of each pair of such
-- names that are found installable alone in the newer one. A line says `broken` of exactly those
-- that are found installable in the older one and found not to be in the newer one. It says `open`
-- of exactly those at which the newer search spends its budget, or finds them not installable and
-- the older search spends its budget. The lines are in order, no two about the same names.
pub record IsFaithfulList (old new : SearchedIndex) (lines : List ReportLine) : Type 0 where
  pub older : IndexSays old.text old.home old.stanzas
  pub newer : IndexSays new.text new.home new.stanzas
  pub lists : ListsExactly Found old new lines

-- What a run prints for `compare`, with its options in the order of `asking_words`, is the lines
-- of a faithful list for the two files. The status is that of these lines: 1 if one is broken, or
-- else 8 if one is open, or else 0.
abbrev pub CompareIsTrue : List Text → List OpenedFile → ℕ → Text → Type 0
CompareIsTrue words readings status printed =
    (budget limit : Option ℕ) (hold : Bool) (first second : Text) →
    unwrap_or budget 10000 ≤ 1000000 → unwrap_or limit 65536 ≤ 1000000 →
    words ≡ asking_words (codes "compare") budget limit hold (first ∷ second ∷ []) →
    (old new : SearchedIndex) × (readings ≡ (first, old.text) ∷ (second, new.text) ∷ [])
    × IsSearched budget limit hold old × IsSearched budget limit hold new
    × ((lines : List ReportLine) × IsFaithfulList old new lines
    × (printed ≡ printed_comparison lines) × (status ≡ comparison_status lines))

-- `explain`. Yes, status 0: the goals can be met. A core, status 1: the printed goals cannot, and
-- without any one that is not open the others can. If the conflicts are not open as a whole, the
-- printed ones are reasons enough for it. What is open is so exactly if a search for the others is
-- past the budget. Undecided, status 8, as above.
pub data IsFaithfulExplanation (index : SearchedIndex) (goals : List Text) (status : ℕ)
    (printed : Text) : Type 0 where
  yes : status ≡ 0 → printed ≡ with_feed (codes "yes") → ¬ (IsPastBudget index goals) →
      CanMeet index goals → IsFaithfulExplanation index goals status printed
  core : status ≡ 1 → (kept : List PrintedGoal) (clashes : Option (List Clash)) →
      printed ≡ printed_core index.stanzas kept clashes → ¬ (IsPastBudget index goals) →
      IsCoreOfGoals index goals kept →
      AreConflictsFor index (map (λ g. g.word) kept) clashes →
      IsFaithfulExplanation index goals status printed
  undecided : status ≡ 8 → printed ≡ printed_undecided index.budget → IsPastBudget index goals →
      IsFaithfulExplanation index goals status printed

-- What a run prints for `explain`, with its options in the order of `asking_words`, is a faithful
-- explanation of its goals. Each goal names a package.
abbrev pub ExplainIsTrue : List Text → List OpenedFile → ℕ → Text → Type 0
ExplainIsTrue words readings status printed =
    (budget limit : Option ℕ) (hold : Bool) (path : Text) (goals : List Text) →
    unwrap_or budget 10000 ≤ 1000000 → unwrap_or limit 65536 ≤ 1000000 →
    AreOrdinary (path ∷ goals) →
    words ≡ asking_words (codes "explain") budget limit hold (path ∷ goals) →
    (index : SearchedIndex) × (readings ≡ (path, index.text) ∷ [])
    × IndexSays index.text index.home index.stanzas × IsSearched budget limit hold index
    × HasEach index.stanzas (all_stanzas index.stanzas) goals
    × IsFaithfulExplanation index goals status printed

-- what `status` asks of the index by goals, the status of that answer, and what is printed of it
pub data IsSuiteAnswer (index : SearchedIndex) (goals : List Text) : ℕ → Text → Type 0 where
  suite_yes : ¬ (IsPastBudget index goals) → CanMeet index goals →
      IsSuiteAnswer index goals 0 (codes "yes")
  suite_no : ¬ (IsPastBudget index goals) → ¬ (CanMeet index goals) →
      IsSuiteAnswer index goals 1 (codes "no")
  suite_undecided : IsPastBudget index goals →
      IsSuiteAnswer index goals 8 (codes "undecided " ++ decimal index.budget)

-- `status`. The file is groups of fields. Its own packages are those that are installed and not
-- foreign to the index; a foreign one meets no need and is in no conflict. It is printed which of
-- them the index has, whether they stand together, and whether those that the index has can be
-- installed from it together, as `query` answers. The status is 1 if they do not stand together,
-- and else that of this answer.
pub record IsFaithfulSystem (index : SearchedIndex) (file : Text) (status : ℕ)
    (printed : Text) : Type 0 where
  pub groups : (group : List Text) → In group (stanza_groups file) → IsStanza group
  pub home : Home
  pub own : List PackageFacts
  pub own_say : GroupsSay (filter (is_own_group index.home) (stanza_groups file)) home own
  pub state : OwnState
  pub state_is : IsOwnState home own state
  pub answer : ℕ
  pub suite : Text
  pub answer_is : IsSuiteAnswer index
      (map goal_word_of (filter (has_package index) own)) answer suite
  pub status_is : status ≡ system_status state answer
  pub bytes_are : printed ≡ printed_system index own
      (count_by (is_foreign_group index.home) (stanza_groups file)) state suite

-- What a run prints for `status`, with its options in the order of `asking_words`, is a faithful
-- report on the file against the index, which is read first.
abbrev pub StatusIsTrue : List Text → List OpenedFile → ℕ → Text → Type 0
StatusIsTrue words readings status printed =
    (budget limit : Option ℕ) (hold : Bool) (path index_path : Text) →
    unwrap_or budget 10000 ≤ 1000000 → unwrap_or limit 65536 ≤ 1000000 →
    words ≡ asking_words (codes "status") budget limit hold (path ∷ index_path ∷ []) →
    (index : SearchedIndex) × (file : Text)
    × (readings ≡ (index_path, index.text) ∷ (path, file) ∷ [])
    × IndexSays index.text index.home index.stanzas × IsSearched budget limit hold index
    × IsFaithfulSystem index file status printed

-- `migrate`. There is a line for each name that differs, in order. A name is taken if the mix with
-- it and the names taken before is within the clause limit, and its comparison with the older index
-- has no lines. It is left if the mix passes the limit, or else for the first line of that
-- comparison. In the mix of all that are taken, any two names that could be installed together in
-- the older index still can. The two may be the same name.
abbrev pub IsRightStep : SearchedIndex → SearchedIndex → PlanLine → Type 0
IsRightStep old mix (Take name) =
    (¬ (PassesOnTheWay mix.limit mix.hold (suite_repository mix.home mix.stanzas)))
    × IsFaithfulList old mix []
IsRightStep old mix (LeftLimit name) =
    PassesOnTheWay mix.limit mix.hold (suite_repository mix.home mix.stanzas)
IsRightStep old mix (LeftLine name line) =
    (¬ (PassesOnTheWay mix.limit mix.hold (suite_repository mix.home mix.stanzas)))
    × ((more : List ReportLine) × IsFaithfulList old mix (line ∷ more))

pub record IsFaithfulPlan (old new : SearchedIndex) (lines : List PlanLine) : Type 0 where
  pub older : IndexSays old.text old.home old.stanzas
  pub newer : IndexSays new.text new.home new.stanzas
  pub order : InOrder (map planned_name lines)
  pub names : (name : Text) → In name (map planned_name lines) ↔ Differs old new name
  pub each : (front back : List PlanLine) (l : PlanLine) → lines ≡ front ++ l ∷ back →
      (mix : SearchedIndex) × IsMix old new (taken_in front ++ planned_name l ∷ []) mix
      × IsRightStep old mix l
  pub last : taken_in lines ≢ [] → (mix : SearchedIndex) × IsMix old new (taken_in lines) mix
      × ((a b : Text) → HasPackageOf old a → HasPackageOf mix a →
      HasPackageOf old b → HasPackageOf mix b →
      CanMeet old (a ∷ b ∷ []) → CanMeet mix (a ∷ b ∷ []))

-- What a run prints for `migrate`, with its options in the order of `asking_words`, is the lines of
-- a faithful plan for the two files. The status is that of these lines: 1 if a name is left for a
-- broken line, or else 8 if a name is left, or else 0.
abbrev pub MigrateIsTrue : List Text → List OpenedFile → ℕ → Text → Type 0
MigrateIsTrue words readings status printed =
    (budget limit : Option ℕ) (hold : Bool) (first second : Text) →
    unwrap_or budget 10000 ≤ 1000000 → unwrap_or limit 65536 ≤ 1000000 →
    words ≡ asking_words (codes "migrate") budget limit hold (first ∷ second ∷ []) →
    (old new : SearchedIndex) × (readings ≡ (first, old.text) ∷ (second, new.text) ∷ [])
    × IsSearched budget limit hold old
    × ((lines : List PlanLine) × IsFaithfulPlan old new lines
    × (printed ≡ printed_plan lines) × (status ≡ plan_status lines))
