-- That the short definitions say the same as those that the code keeps.
use Rattle.relation_fields.specs.declared.packages.Home.{Home}
use Rattle.relation_fields.specs.declared.packages.PackageFacts.{PackageFacts}
use Rattle.suite_compare.specs.Indexes.{Judged, SearchedIndex, searched}
use Rattle.suite_compare.specs.Listing.{IsAsked, names_of, ListsExactly, is_broken}
use Rattle.suite_compare.specs.Refusals.{home_in, packages_in}
use Rattle.suite_compare.specs.declared.report.ReportLine.{ReportLine}
use Rattle.claims.specs.{Settled.{Found, IsKernelText}, Answers.{printed_installation, printed_no}}
use Rattle.claims.specs.{Control.{stanza_groups}, Explained.{printed_core}, Plans.{IsMix}}
use Rattle.claims.specs.{Systems.{is_own_group}, Goals.{all_stanzas}}
use Rattle.claims.specs.{Index.{GroupsSay, IndexSays, SaysTheSame}, Kernel.{SettlesTo}}
use Rattle.claims.specs.{Classes.{classes_of, IsItsClass, IsOneOf}, Words.{asking_words}}
use Rattle.claims.specs.Printed.{comparison_status, printed_comparison}
use Rattle.claims.specs.Sentences.{IsFaithfulAnswer, IsFaithfulExplanation, IsFaithfulKernel}
use Rattle.claims.specs.Sentences.{IsFaithfulList, IsFaithfulPlan, IsFaithfulStoredAnswer}
use Rattle.claims.specs.{Sentences.{IsFaithfulSystem}, Search.{Searched}}
use Rattle.std.specs.Prelude.{◌≡◌, ◌↔◌, ◌<◌, ◌≤◌, codes, length, false, true, Option, Some}
use Rattle.std.specs.Prelude.{unwrap_or, ℕ, Bool, List, [], ◌∷◌, ◌++◌, None, is_some, map, filter}
use Rattle.std.specs.List.{AllZip}
use Rattle.clause_solver.specs.declared.outcomes.Verdict.TheVariants.{Yes, No}
use Rattle.coinst_words.specs.{Usage.{Text}, Jobs.{job_of}, declared.job.Job.{Job}}
use Rattle.coinst_words.specs.declared.job.Job.TheVariants.{Kernel, Compare}
use Rattle.repo_model.specs.{Limits.{most_packages}, Facts.{facts_of}}
use Rattle.repo_model.specs.Repository.{suite_repository}
use Rattle.repo_model.specs.FirstFault.{first_fault, home_of, stanzas_of}
use Rattle.repo_model.specs.Stanzas.{stanza_at, CoinstStanzas, HealthyStanzas}
use Rattle.listed.specs.Lists.{In}
use Rattle.migrate_plan.specs.declared.plan.PlanLine.{PlanLine}
use Rattle.migrate_plan.specs.declared.plan.PlanLine.TheVariants.{Take}
use Rattle.kernel_text.specs.{KernelReads.{KernelReads}, KernelText.{format_of, kernel_text}}
use Rattle.kernel_text.specs.{Members.{kernel_members}, declared.member.Member.{Member}}
use Rattle.row_book.specs.Flattening.{packages}
use Rattle.row_book.specs.Rounds.{kernel, kernel_class, kernel_held, kernel_image}
use Rattle.row_book.specs.{Sound.{SoundRepository}, Sets.{NumSet, Is}}
use Rattle.row_book.specs.Repository.{Repository, Coinst}
use Rattle.search_terms.specs.Tree.{Tree, IsTree, failed_leaves, found_of}
use Rattle.search_terms.specs.declared.literals.Literal.{Literal}

-- a tree shows how its search ends
abbrev pub TreesAreSearches : Type 0
TreesAreSearches =
    (classes : ℕ) (formula : List (List Literal)) (tree : Tree) → IsTree classes formula [] tree →
    Searched formula [] (is_some (found_of tree)) (failed_leaves tree)

-- a search ends in one way
abbrev pub SearchesAreOne : Type 0
SearchesAreOne =
    (formula : List (List Literal)) (decisions : List Literal) (first second : Bool) (m n : ℕ) →
    Searched formula decisions first m → Searched formula decisions second n →
    (first ≡ second) × (m ≡ n)

-- an index without a fault is an index of the packages that are read of it
abbrev pub IndexesAreRead : Type 0
IndexesAreRead = (text : Text) → first_fault text ≡ None →
    IndexSays text (record { name = home_of (stanzas_of text) }) (map facts_of (stanzas_of text))

-- and an index of no more packages than there may be has no fault
abbrev pub IndexesAreAccepted : Type 0
IndexesAreAccepted = (text : Text) (home : Home) (stanzas : List PackageFacts) →
    IndexSays text home stanzas → length stanzas ≤ most_packages → first_fault text ≡ None

-- a text is an index of one list of packages and one home
abbrev pub IndexesAreOne : Type 0
IndexesAreOne = (text : Text) (home other : Home) (stanzas others : List PackageFacts) →
    IndexSays text home stanzas → IndexSays text other others →
    (home ≡ other) × AllZip SaysTheSame stanzas others

-- the kernel that is computed is the first repository that a round leaves as it is
abbrev pub KernelsAreKernels : Type 0
KernelsAreKernels =
    (limit : ℕ) (hold : Bool) (R : Repository) (sets : List NumSet) → SoundRepository R →
    SettlesTo limit hold R sets (kernel limit hold R) (map (kernel_image limit hold R) sets)

-- and there is one
abbrev pub KernelsAreOne : Type 0
KernelsAreOne =
    (limit : ℕ) (hold : Bool) (R : Repository) (sets : List NumSet)
    (K L : Repository) (images others : List NumSet) →
    SettlesTo limit hold R sets K images → SettlesTo limit hold R sets L others
    → (K ≡ L) × (images ≡ others)

-- What is kept of a printed kernel is the first sentence: a text without a fault, and bytes that
-- read for classes. Each stanza is in one of these, and they can be together exactly if the stanzas
-- can.
abbrev pub KernelsMeanThis : Type 0
KernelsMeanThis =
    (text printed : Text) (format : ℕ) (R : Repository) (members : List Member) (held : List ℕ) →
    first_fault text ≡ None → KernelReads printed format R members held
    → ((m : Member) → In m members → IsOneOf (map facts_of (stanzas_of text)) m)
    → ((i : ℕ) → i < length (map facts_of (stanzas_of text)) → (k : ℕ)
    × IsItsClass (length R.clauses) members (stanza_at (map facts_of (stanzas_of text)) i) k)
    → ((S : NumSet) → ((n : ℕ) → Is S n → n < length (map facts_of (stanzas_of text))) →
    (CoinstStanzas (record { name = home_of (stanzas_of text) })
    (map facts_of (stanzas_of text)) S
    ↔ Coinst R (classes_of (map facts_of (stanzas_of text)) members S)))
    → IsFaithfulKernel text printed

-- an index with the packages that are read of its text
abbrev pub as_read : SearchedIndex → SearchedIndex
as_read index = searched index.text index.budget index.limit index.hold

-- the text of the kernel of an index, at a limit, with hold or without
abbrev pub kernel_printed : ℕ → Bool → Home → List PackageFacts → Text
kernel_printed limit hold home stanzas =
    kernel_text (format_of hold) (kernel limit hold (suite_repository home stanzas))
    (kernel_members stanzas
    (map (kernel_class limit hold (suite_repository home stanzas))
    (packages (suite_repository home stanzas)))
    (length (kernel limit hold (suite_repository home stanzas)).clauses))
    (kernel_held limit hold (suite_repository home stanzas))

-- So the text of the kernel of an index is a faithful kernel of it.
abbrev pub PrintedKernelsAreFaithful : Type 0
PrintedKernelsAreFaithful = (text : Text) (limit : ℕ) (hold : Bool) → first_fault text ≡ None →
    IsFaithfulKernel text (kernel_printed limit hold (home_in text) (packages_in text))

-- and it is that of the kernel of the index as the sentences speak of it, so that they speak of
-- some text
abbrev pub KernelTextsAreThere : Type 0
KernelTextsAreThere = (index : SearchedIndex) → first_fault index.text ≡ None →
    IsKernelText (as_read index)
    (kernel_printed index.limit index.hold (home_in index.text) (packages_in index.text))

-- and it is the only one
abbrev pub KernelTextsAreOne : Type 0
KernelTextsAreOne = (index : SearchedIndex) (first second : Text) → IsKernelText index first →
    IsKernelText index second → first ≡ second

-- the words of a kernel ask for it, if they ask for anything: a path that looks like an option is
-- refused, and so is 0
abbrev pub KernelWordsAsk : Type 0
KernelWordsAsk = (limit : Option ℕ) (hold : Bool) (path : Text) (job : Job) →
    unwrap_or limit 65536 ≤ 1000000 →
    job_of (asking_words (codes "kernel") None limit hold (path ∷ [])) ≡ Some job →
    job ≡ Kernel path false (unwrap_or limit 65536) hold

-- and so do those of a comparison
abbrev pub CompareWordsAsk : Type 0
CompareWordsAsk = (budget limit : Option ℕ) (hold : Bool) (old new : Text) (job : Job) →
    unwrap_or budget 10000 ≤ 1000000 → unwrap_or limit 65536 ≤ 1000000 →
    job_of (asking_words (codes "compare") budget limit hold (old ∷ new ∷ [])) ≡ Some job
    → job ≡ Compare old new (unwrap_or budget 10000) (unwrap_or limit 65536) hold

-- and these words ask for something, so that the two sentences speak of some runs
pub record WordsAreTaken : Type 0 where
  pub kernel : job_of (asking_words (codes "kernel") None None false (codes "Packages" ∷ []))
      ≡ Some (Kernel (codes "Packages") false 65536 false)
  pub kernel_with_options : job_of (asking_words (codes "kernel") None (Some 4096) true
      (codes "Packages" ∷ []))
      ≡ Some (Kernel (codes "Packages") false 4096 true)
  pub compare : job_of (asking_words (codes "compare") None None false
      (codes "old" ∷ codes "new" ∷ []))
      ≡ Some (Compare (codes "old") (codes "new") 10000 65536 false)
  pub compare_with_options : job_of (asking_words (codes "compare") (Some 500) (Some 4096) true
      (codes "old" ∷ codes "new" ∷ []))
      ≡ Some (Compare (codes "old") (codes "new") 500 4096 true)

-- What is kept of a comparison is its sentence: two texts without a fault, and a list of exactly
-- what is broken and what is open.
abbrev pub ComparisonsMeanThis : Type 0
ComparisonsMeanThis =
    (old new : SearchedIndex) (lines : List ReportLine) → first_fault old.text ≡ None →
    first_fault new.text ≡ None → ListsExactly Judged (as_read old) (as_read new) lines →
    IsFaithfulList (as_read old) (as_read new) lines

-- an empty index, and what is printed for it: a kernel without classes, and a comparison without
-- lines
abbrev pub no_home : Home
no_home = record { name = None }

abbrev pub no_classes : Text
no_classes = codes "coinst-kernel 1" ++ 10 ∷ (codes "end 0 0" ++ 10 ∷ [])

abbrev pub no_lines : Text
no_lines = codes "end 0 0" ++ 10 ∷ []

abbrev pub empty_index : SearchedIndex
empty_index =
    record { text = []; home = no_home; stanzas = []; limit = 65536; hold = false; budget = 10000 }

-- an index of one package
abbrev pub a_package : Text
a_package = codes "Package: a" ++ 10 ∷ (codes "Version: 1" ++ 10 ∷ [])

-- The sentences are true of empty indexes, and the first is not of a kernel that lacks the package
-- of its index.
pub record EmptyIndexes : Type 0 where
  pub kernel : IsFaithfulKernel [] no_classes
  pub comparison : IsFaithfulList empty_index empty_index []
  pub printed : printed_comparison [] ≡ no_lines
  pub wrong : ¬ (IsFaithfulKernel a_package no_classes)

-- a repository without classes, a yes and nothing else, and a report on a machine without packages
abbrev pub no_repository : Repository
no_repository = record { clauses = []; conflicts = [] }

abbrev pub only_yes : Text
only_yes = codes "yes" ++ 10 ∷ []

abbrev pub no_packages : Text
no_packages = codes "foreign 0"
    ++ 10 ∷ (codes "self healthy" ++ 10 ∷ (codes "suite yes" ++ 10 ∷ (codes "end 0 0" ++ 10 ∷ [])))

-- The other sentences are true of these reports on an empty index. Its kernel text, which is
-- settled. A yes to no goals, from the index and from that text. An explanation of no goals. A
-- report on a machine without packages. A plan without names.
pub record TrueReports : Type 0 where
  pub settled : IsKernelText empty_index no_classes
  pub answer : IsFaithfulAnswer empty_index [] 0 only_yes
  pub answer_of_classes : IsFaithfulStoredAnswer no_classes no_repository [] [] 10000 0 only_yes
  pub explanation : IsFaithfulExplanation empty_index [] 0 only_yes
  pub system : IsFaithfulSystem empty_index [] 0 no_packages
  pub plan : IsFaithfulPlan empty_index empty_index []

-- a kernel of one class with one package
abbrev pub a_class : Text
a_class = codes "coinst-kernel 1"
    ++ 10 ∷ (codes "class 0" ++ 10 ∷ (codes "member a 1" ++ 10 ∷ (codes "end 1 1" ++ 10 ∷ [])))

-- a kernel of two classes that are alike
abbrev pub two_classes : Text
two_classes = codes "coinst-kernel 1" ++ 10 ∷ (codes "class 0" ++ 10 ∷ (codes "member a 1"
    ++ 10 ∷ (codes "class 1" ++ 10 ∷ (codes "member b 1" ++ 10 ∷ (codes "end 2 2" ++ 10 ∷ [])))))

-- The sentences are not true of these reports, each for one reason. A kernel with a package, for an
-- empty index. A kernel that is not settled. A yes without a package for a goal. A no for the one
-- package of an index. A no without a log. A list with a line twice. An explanation without a goal.
-- And a broken line ends with status 1, a machine with status 0 is healthy, and a name that is
-- taken breaks nothing.
pub record WrongReports : Type 0 where
  pub stranger : ¬ (IsFaithfulKernel [] a_class)
  pub two_alike : (index : SearchedIndex) → ¬ (IsKernelText index two_classes)
  pub no_package : (index : SearchedIndex) (status : ℕ) →
      ¬ (IsFaithfulAnswer index (codes "a" ∷ []) status (printed_installation index.stanzas []))
  pub no_for_a_package : (index : SearchedIndex) (log : List (List Literal)) (status : ℕ) →
      GroupsSay (stanza_groups a_package) index.home index.stanzas →
      ¬ (IsFaithfulAnswer index (codes "a" ∷ []) status (printed_no log))
  pub no_entry : (index : SearchedIndex) (goals : List Text) (status : ℕ) →
      first_fault index.text ≡ None →
      ¬ (IsFaithfulAnswer (as_read index) goals status (printed_no []))
  pub no_entry_of_classes : (kernel : Text) (R : Repository) (members : List Member)
      (goals : List Text) (budget status : ℕ) →
      ¬ (IsFaithfulStoredAnswer kernel R members goals budget status (printed_no []))
  pub line_twice : (old new : SearchedIndex) (l : ReportLine) →
      ¬ (IsFaithfulList old new (l ∷ l ∷ []))
  pub broken_lines_end_with_1 : (l : ReportLine) (lines : List ReportLine) → is_broken l ≡ true →
      comparison_status (l ∷ lines) ≡ 1
  pub no_goal : (index : SearchedIndex) (goals : List Text) (status : ℕ) →
      ¬ (IsFaithfulExplanation index goals status (printed_core index.stanzas [] (Some [])))
  pub well : (index : SearchedIndex) (file printed : Text) → IsFaithfulSystem index file 0 printed →
      (home : Home) × (own : List PackageFacts)
      × GroupsSay (filter (is_own_group index.home) (stanza_groups file)) home own
      × HealthyStanzas home own (all_stanzas own)
  pub taken : (old new : SearchedIndex) (name : Text) (lines : List PlanLine) →
      IsFaithfulPlan old new (Take name ∷ lines) →
      (mix : SearchedIndex) × IsMix old new (name ∷ []) mix
      × ((l : ReportLine) → is_broken l ≡ true → IsAsked Found old mix (names_of l) →
      Found old (names_of l) Yes → ¬ (Found mix (names_of l) No))
