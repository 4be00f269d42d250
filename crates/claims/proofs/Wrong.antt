-- Reports of which the sentences are not true.
use Rattle.relation_fields.specs.Spelling.{SpellsAlternatives, SpellsAtom}
use Rattle.suite_compare.specs.{Indexes.{SearchedIndex}, Listing.{AreInOrder, IsAsked, Precedes, names_of, is_broken, says_open}}
use Rattle.claims.specs.Settled.{Found}
use Rattle.std.proofs.Common.{◌≡◌, ℕ, ◌<◌, Bool, true, false, not, cond, ◌||◌, eqb, eqb-true, List, [], ◌∷◌, ◌++◌, Result, Ok, Err, Some, None, length, refl}
use Rattle.std.proofs.Common.{sym, ap, subst, ◌∙◌, arith, inl, inr, map}
use Rattle.std.specs.{Prelude.{codes, slice_index_or}, Fmt.{digits}, List.{AllZip, list_any}}
use Rattle.clause_solver.specs.declared.outcomes.Verdict.TheVariants.{Yes, No}
use Rattle.deb_version.specs.Grammar.{behind_epoch, epoch_of, is_version, revision_in, upstream_in}
use Rattle.clause_pool.proofs.Order.{before_asym}
use Rattle.coinst_words.specs.Usage.{Text}
use Rattle.kernel_text.specs.{KernelLines.{line_text, with_feed}, KernelReads.{KernelContent, content}, KernelText.{format_of}}
use Rattle.kernel_text.specs.{Reading.{number_limit, repository_of_reading}, StoredReading.{stored_reading}, declared.fault.KernelFault.{KernelFault}}
use Rattle.kernel_text.specs.declared.member.Member.{Member}
use Rattle.kernel_text.proofs.StoredReading.{texts_are_told}
use Rattle.listed.specs.Lists.{In, here}
use Rattle.listed.specs.Texts as white
use Rattle.listed.proofs.Lists.{In_cases, In_none}
use Rattle.migrate_plan.specs.{declared.plan.PlanLine.{PlanLine}, declared.plan.PlanLine.TheVariants.{Take}}
use Rattle.relation_fields.specs.{declared.packages.Home.{Home}, declared.packages.PackageFacts.{PackageFacts}}
use Rattle.repo_model.specs.{FirstFault.{first_fault}, Stanzas.{HealthyStanzas, stanza_at}}
use Rattle.row_book.specs.{Book.{lists_of_pairs}, Flattening.{held_of}, Numbers.{numbers}, Rounds.{Settled}, Sets.{NumSet}}
use Rattle.search_terms.specs.{Derives.{Derives}, declared.literals.Literal.{Literal}}
use Rattle.status_check.specs.{declared.report.OwnState.{OwnState}, declared.report.OwnState.TheVariants.{Healthy, Unhit, Clash as Clashing}}
use Rattle.suite_compare.specs.{declared.report.ReportLine.{ReportLine}, declared.report.ReportLine.TheVariants.{Broken1, Broken2, Open1, Open2}}
use Rattle.claims.specs.{Answers.{printed_installation, printed_no}, Certificates.{Refutes}, Control.{stanza_groups}, Explained.{PrintedGoal, printed_core}}
use Rattle.claims.specs.{Goals.{CanMeet, HasEach, all_stanzas}, Index.{GroupsSay, Says}, Plans.{IsMix}, Settled.{IsKernelText}}
use Rattle.claims.specs.{Laws.{WrongReports, a_class, a_package, as_read, two_classes}, Printed.{comparison_status}, Systems.{IsOwnState, system_status}}
use Rattle.claims.specs.Sentences.{IsFaithfulAnswer, IsFaithfulExplanation, IsFaithfulKernel, IsFaithfulList, IsFaithfulPlan, IsFaithfulStoredAnswer}
use Rattle.claims.specs.Sentences.{IsFaithfulSystem, IsRightStep}
use Rattle.claims.specs.Sentences.IsFaithfulAnswer.{yes as answer_yes, no as answer_no, undecided as answer_undecided}
use Rattle.claims.specs.Sentences.IsFaithfulStoredAnswer.{yes as classes_yes, no as classes_no, undecided as classes_undecided}
use Rattle.claims.specs.Sentences.IsFaithfulExplanation.{yes as yes_printed, core as core_printed, undecided as undecided_printed}
use Rattle.row_book.specs.Repository.{Repository}

pub nothing : {A B : Type 0} (R : A → B → Type 0) (ys : List B) → AllZip R [] ys → ys ≡ []
nothing R [] z = refl
nothing R (y ∷ ys) z = absurd z

-- the first byte of a text
abbrev head_of : Text → ℕ
head_of text = slice_index_or text 0 0

-- a kernel text with a package that an empty index has not
member_a : Member
member_a = record { class = 0; name = codes "a"; version = codes "1" }

abbrev content_of : Result KernelContent KernelFault → List Member
content_of (Ok c) = c.members
content_of (Err fault) = []

reads_a : content_of (stored_reading a_class) ≡ member_a ∷ []
unfolding stored_reading number_limit repository_of_reading member_a line_text digits is_version epoch_of behind_epoch upstream_in revision_in
reads_a = refl

pub empty_groups : stanza_groups [] ≡ []
unfolding stanza_groups
empty_groups = refl

stranger : ¬ (IsFaithfulKernel [] a_class)
stranger k =
    let read : stored_reading a_class ≡ Ok (content k.format k.repository k.members k.held) = (texts_are_told a_class k.format k.repository k.members k.held).0 k.reads in
    let them : k.members ≡ member_a ∷ [] = sym (ap content_of read) ∙ reads_a in
    let at = k.members_are_packages member_a (subst (λ ms. In member_a ms) (sym them) here) in
    let none : k.stanzas ≡ [] = nothing (Says k.home) k.stanzas (subst (λ groups. AllZip (Says k.home) groups k.stanzas) empty_groups k.index.each) in
    let low : at.0 < length k.stanzas = at.1 in
    let zero_long : length k.stanzas ≡ 0 = ap length none in
    omega (arith, low, zero_long)

-- a kernel text with two classes that are alike
abbrev two_empty : Repository
two_empty = record { clauses = [] ∷ [] ∷ []; conflicts = [] ∷ [] ∷ [] }

abbrev repository_in : Result KernelContent KernelFault → Repository
repository_in (Ok c) = c.repository
repository_in (Err fault) = two_empty

reads_two : repository_in (stored_reading two_classes) ≡ two_empty
unfolding stored_reading number_limit repository_of_reading line_text digits is_version epoch_of behind_epoch upstream_in revision_in numbers lists_of_pairs
reads_two = refl

two_alike : (index : SearchedIndex) → ¬ (IsKernelText index two_classes)
two_alike index k =
    let held : List ℕ = held_of index.limit index.hold k.repository in
    let read : stored_reading two_classes ≡ Ok (content (format_of index.hold) k.repository k.members held) = (texts_are_told two_classes (format_of index.hold) k.repository k.members held).0 k.reads in
    let is : k.repository ≡ two_empty = sym (ap repository_in read) ∙ reads_two in
    let settled : Settled index.limit index.hold two_empty = subst (Settled index.limit index.hold) is k.settled in
    let same : 1 ≡ 0 = settled.unlike 0 1 (omega arith) (omega arith) refl in
    omega (arith, same)

-- the package of an index of one
abbrev group : List Text
group = codes "Package: a" ∷ (codes "Version: 1" ∷ [])

one_group : stanza_groups a_package ≡ group ∷ []
unfolding stanza_groups
one_group = refl

is_a : (home : Home) (s : PackageFacts) → Says home group s → s.name ≡ codes "a"
unfolding white.trim_both white.trim_end white.trim_start
is_a home s it = let e : Some (codes "a") ≡ Some s.name = it.name.0 in let same : codes "a" ≡ s.name = cc in sym same

needs_none : (home : Home) (s : PackageFacts) → Says home group s → s.needs ≡ []
needs_none home s it = nothing {A = Text} SpellsAlternatives s.needs it.needs

against_none : (home : Home) (s : PackageFacts) → Says home group s → s.against ≡ []
against_none home s it = nothing {A = Text} SpellsAtom s.against it.against

abbrev first_alone : NumSet
first_alone n = eqb n 0

meets_a : (index : SearchedIndex) (s : PackageFacts) → index.stanzas ≡ s ∷ [] → Says index.home group s → CanMeet index (codes "a" ∷ [])
meets_a index s is it = subst (λ all. (whole : NumSet) × HealthyStanzas index.home all whole × HasEach all whole (codes "a" ∷ [])) (sym is) (
  first_alone,
  record {
    numbers = λ n i. (let z : n ≡ 0 = eqb-true n 0 i in omega (arith, z));
    needs = λ n i element j. absurd (In_none (subst (In element) (needs_none index.home s it) (subst (λ m. In element (stanza_at (s ∷ []) m).needs) (eqb-true n 0 i) j)));
    conflicts = λ m n i j apart atom k. absurd (In_none (subst (In atom) (against_none index.home s it) (subst (λ q. In atom (stanza_at (s ∷ []) q).against) (eqb-true m 0 i) k)));
    names = λ m n i j apart. absurd (apart (eqb-true m 0 i ∙ sym (eqb-true n 0 j)));
  },
  (λ goal i. elim (In_cases i) [ inl same ↦ (0, refl, inl (same ∙ sym (is_a index.home s it))) | inr j ↦ absurd (In_none j) ]),
)

there_are_packages : (index : SearchedIndex) → AllZip (Says index.home) (group ∷ []) index.stanzas → CanMeet index (codes "a" ∷ [])
there_are_packages index z = go index.stanzas refl z
  where
    go : (all : List PackageFacts) → index.stanzas ≡ all → AllZip (Says index.home) (group ∷ []) all → CanMeet index (codes "a" ∷ [])
    go [] is z = absurd z
    go (s ∷ all) is z = meets_a index s (is ∙ ap (λ more. s ∷ more) (nothing (Says index.home) all z.1)) z.0

no_is_wrong : (index : SearchedIndex) (log : List (List Literal)) (status : ℕ) → GroupsSay (stanza_groups a_package) index.home index.stanzas → ¬ (IsFaithfulAnswer index (codes "a" ∷ []) status (printed_no log))
no_is_wrong index log status says (answer_yes ends set e within order healthy each) = let h : 110 ≡ 121 = ap head_of e in omega (arith, h)
no_is_wrong index log status says (answer_no ends other e within none refutes) = none (there_are_packages index (subst (λ groups. AllZip (Says index.home) groups index.stanzas) one_group says.each))
no_is_wrong index log status says (answer_undecided ends e past) = let h : 110 ≡ 117 = ap head_of e in omega (arith, h)

-- without a package
longer : (stanzas : List PackageFacts) (n : ℕ) (set : List ℕ) → printed_installation stanzas [] ≡ printed_installation stanzas (n ∷ set) → ⊥
longer stanzas n set e = let h : 0 ≡ 105 = ap (λ (text : Text). slice_index_or text 4 0) e in omega (arith, h)

empty_is_wrong : (index : SearchedIndex) (status : ℕ) → ¬ (IsFaithfulAnswer index (codes "a" ∷ []) status (printed_installation index.stanzas []))
empty_is_wrong index status (answer_yes ends [] e within order healthy each) = let w = each (codes "a") here in absurd (let none : false ≡ true = w.1 in let wrong : ⊥ = cc in wrong)
empty_is_wrong index status (answer_yes ends (n ∷ set) e within order healthy each) = longer index.stanzas n set e
empty_is_wrong index status (answer_no ends log e within none refutes) = let h : 121 ≡ 110 = ap head_of e in omega (arith, h)
empty_is_wrong index status (answer_undecided ends e past) = let h : 121 ≡ 117 = ap head_of e in omega (arith, h)

-- a log without its last entry
no_entries : (log : List (List Literal)) → printed_no [] ≡ printed_no log → log ≡ []
no_entries [] e = refl
no_entries (entry ∷ log) e = let h : 0 ≡ 108 = ap (λ (text : Text). slice_index_or text 3 0) e in absurd (omega (arith, h))

derives_not : (formula : List (List Literal)) → ¬ (Derives formula [])
derives_not formula d = let last = d.last in let no : ⊥ = cc in no

no_entry : (index : SearchedIndex) (goals : List Text) (status : ℕ) → first_fault index.text ≡ None → ¬ (IsFaithfulAnswer (as_read index) goals status (printed_no []))
no_entry index goals status fine (answer_yes ends set e within order healthy each) = let h : 110 ≡ 121 = ap head_of e in omega (arith, h)
no_entry index goals status fine (answer_no ends log e within none refutes) =
    let shown : Refutes refutes.0 goals log = refutes.2 in
    derives_not shown.0 (subst (Derives shown.0) (no_entries log e) shown.2)
no_entry index goals status fine (answer_undecided ends e past) = let h : 110 ≡ 117 = ap head_of e in omega (arith, h)

stored_no_entry : (kernel : Text) (R : Repository) (members : List Member) (goals : List Text) (budget status : ℕ) → ¬ (IsFaithfulStoredAnswer kernel R members goals budget status (printed_no []))
stored_no_entry kernel R members goals budget status (classes_yes ends classes e within order healthy each index) = let h : 110 ≡ 121 = ap head_of e in omega (arith, h)
stored_no_entry kernel R members goals budget status (classes_no ends log e within none refutes index) = derives_not refutes.0 (subst (Derives refutes.0) (no_entries log e) refutes.2)
stored_no_entry kernel R members goals budget status (classes_undecided ends e past) = let h : 110 ≡ 117 = ap head_of e in omega (arith, h)

-- a line twice
no_self : (l : ReportLine) → Precedes (names_of l) (names_of l) → ⊥
no_self (Broken1 a) p = before_asym a a p p
no_self (Open1 a) p = before_asym a a p p
no_self (Broken2 a b) p = elim p [ inl first ↦ before_asym a a first first | inr second ↦ before_asym b b second.1 second.1 ]
no_self (Open2 a b) p = elim p [ inl first ↦ before_asym a a first first | inr second ↦ before_asym b b second.1 second.1 ]

line_twice : (old new : SearchedIndex) (l : ReportLine) → ¬ (IsFaithfulList old new (l ∷ l ∷ []))
line_twice old new l k = let order : AreInOrder (l ∷ l ∷ []) = k.lists.order in no_self l (order.0 l here)

broken_done : (l : ReportLine) (lines : List ReportLine) → is_broken l ≡ true → comparison_status (l ∷ lines) ≡ 1
broken_done l lines e = ap (λ b. cond (b || list_any is_broken lines) 1 (cond (list_any says_open (l ∷ lines)) 8 0)) e

-- no goal that is printed
pub meets_none : (index : SearchedIndex) → CanMeet index []
meets_none index = (
  (λ n. false),
  record {
    numbers = λ n i. absurd (let no : ⊥ = cc in no);
    needs = λ n i. absurd (let no : ⊥ = cc in no);
    conflicts = λ m n i. absurd (let no : ⊥ = cc in no);
    names = λ m n i. absurd (let no : ⊥ = cc in no);
  },
  (λ goal i. absurd (In_none i)),
)

goal_first : (b : Bool) (word rest : Text) → head_of (with_feed (cond b (codes "goal-open ") (codes "goal ") ++ word) ++ rest) ≡ 103
goal_first true word rest = refl
goal_first false word rest = refl

no_goal : (index : SearchedIndex) (goals : List Text) (status : ℕ) → ¬ (IsFaithfulExplanation index goals status (printed_core index.stanzas [] (Some [])))
no_goal index goals status (yes_printed ends e within met) = let h : 101 ≡ 121 = ap head_of e in omega (arith, h)
no_goal index goals status (core_printed ends kept clashes e within core conflicts) = go kept e core.impossible
  where
    go : (kept : List PrintedGoal) → printed_core index.stanzas [] (Some []) ≡ printed_core index.stanzas kept clashes → ¬ (CanMeet index (map (λ g. g.word) kept)) → ⊥
    go [] e none = none (meets_none index)
    go (g ∷ kept) e none = let h : 101 ≡ 103 = ap head_of e ∙ first g kept in omega (arith, h)
      where
        first : (g : PrintedGoal) (kept : List PrintedGoal) → head_of (printed_core index.stanzas (g ∷ kept) clashes) ≡ 103
        first g kept = by g.undecided
          where
            by : (b : Bool) → head_of (printed_core index.stanzas (record { word = g.word; undecided = b } ∷ kept) clashes) ≡ 103
            by true = refl
            by false = refl
no_goal index goals status (undecided_printed ends e past) = let h : 101 ≡ 117 = ap head_of e in omega (arith, h)

-- a machine that does not stand together
well : (index : SearchedIndex) (file printed : Text) (k : IsFaithfulSystem index file 0 printed) → HealthyStanzas k.home k.own (all_stanzas k.own)
well index file printed k = by k.state k.state_is k.status_is
  where
    by : (state : OwnState) → IsOwnState k.home k.own state → 0 ≡ system_status state k.answer → HealthyStanzas k.home k.own (all_stanzas k.own)
    by Healthy h e = h
    by (Unhit n) h e = absurd (let wrong : 0 ≡ 1 = e in omega (arith, wrong))
    by (Clashing m n) h e = absurd (let wrong : 0 ≡ 1 = e in omega (arith, wrong))

-- a name that is taken breaks nothing
taken_sound : (old new : SearchedIndex) (name : Text) (lines : List PlanLine) → IsFaithfulPlan old new (Take name ∷ lines) → (mix : SearchedIndex) × IsMix old new (name ∷ []) mix
    × ((l : ReportLine) → is_broken l ≡ true → IsAsked Found old mix (names_of l) → Found old (names_of l) Yes → ¬ (Found mix (names_of l) No))
taken_sound old new name lines k =
    let s = k.each [] lines (Take name) refl in
    let right : IsRightStep old s.0 (Take name) = s.2 in
    (s.0, s.1, (λ l broken asked can cannot. In_none ((((right.1).lists).broken l broken).1 (asked, (can, cannot)))))

pub wrong_reports : WrongReports
wrong_reports = record {
  stranger = stranger;
  two_alike = two_alike;
  no_package = empty_is_wrong;
  no_for_a_package = no_is_wrong;
  no_entry = no_entry;
  no_entry_of_classes = stored_no_entry;
  line_twice = line_twice;
  broken_lines_end_with_1 = broken_done;
  no_goal = no_goal;
  well = λ index file printed k. (k.home, k.own, k.own_say, well index file printed k);
  taken = taken_sound;
}
