-- The sentences of `query`, of an index and of a stored kernel, and that a printed kernel is settled, from what a report means.
use Rattle.suite_compare.specs.Indexes.{SearchedIndex, SearchedIndex, searched}
use Rattle.std.proofs.Common.{◌≡◌, ℕ, ◌<◌, ◌≤◌, Bool, true, false, List, [], None, length, refl, sym, ap, ap₂, subst, ◌∙◌, arith}
use Rattle.std.proofs.lemmas.Bool.Decides.{nat_tests}
use Rattle.std.specs.Prelude.{is_some, nat_lt, unwrap_or}
use Rattle.byte_flow.specs.History.{OpenedFile}
use Rattle.coinst_words.specs.{Jobs.{job_of}, Usage.{Text}, declared.job.Job.TheVariants.{Kernel, Query, StoredQuery}}
use Rattle.deb_version.specs.Names.{is_name}
use Rattle.kernel_text.specs.{KernelReads.{KernelContent, KernelReads}, KernelText.{format_of, kernel_text}, declared.member.Member.{Member}}
use Rattle.kernel_text.specs.Images as stored
use Rattle.kernel_text.specs.Serving.{images_in}
use Rattle.kernel_text.proofs.StoredReading.{one_reading}
use Rattle.listed.specs.Lists.{In, has}
use Rattle.listed.proofs.Lists.{In_at}
use Rattle.repo_model.specs.{FirstFault.{first_fault}, Goals.{CoinstGoals, is_named_by, packages_named}, Repository.{suite_repository}}
use Rattle.repo_model.specs.{Stanzas.{no_stanza, stanza_at}, declared.goals.Goal.{Goal}}
use Rattle.row_book.specs.Rounds.{kernel}
use Rattle.search_terms.specs.{Form.{form}, Tree.{Tree, failed_leaves, found_of}, declared.literals.Literal.{Literal}}
use Rattle.suite_compare.specs.{Asking.{asked_tree, tree_of}, Refusals.{home_in, packages_in}}
use Rattle.suite_compare.proofs.Deciding.{named_parts}
use Rattle.claims.specs.{Certificates.{HasClassOfEach, IsTooLong}, Goals.{CanMeet, HasEach, all_stanzas}, Laws.{kernel_printed, as_read}}
use Rattle.claims.specs.{Settled.{IsKernelText, IsPastBudget}, Search.{Searched}}
use Rattle.claims.specs.Sentences.{IsFaithfulAnswer, IsFaithfulStoredAnswer, KernelIsSettled, QueryIsTrue, StoredQueryIsTrue}
use Rattle.claims.specs.Sentences.IsFaithfulAnswer.{yes as answer_yes, no as answer_no, undecided as answer_undecided}
use Rattle.claims.specs.Sentences.IsFaithfulStoredAnswer.{yes as classes_yes, no as classes_no, undecided as classes_undecided}
use Rattle.claims.proofs.{AskingWords.{query_words_ask, stored_words_ask}, Budget.{asked_for, in_time as within_budget, past_from}, Goals.{AreGoals, goal_for, names_from}, Index.{indexes_are_read}}
use Rattle.claims.proofs.{KernelTexts.{asked_is_one, asks_this, member_below}, Meeting.{can_meet, each_from, meets_goals, says_named}}
use Rattle.claims.proofs.{PrintedKernels.{kernel_texts_are_there}, Search.{searches_are_one, trees_are_searches}}
use Rattle.claims.proofs.{StoredAsking.{classes_from, classes_to, index_meets, stored_asks, stored_meets}, Words.{kernel_words_ask}}
use Rattle.coinst_run.specs.{Status.{code_of, verdict_status}, declared.answer.ReportVerdict.{ReportVerdict}}
use Rattle.coinst_run.specs.{declared.answer.ReportVerdict.TheVariants.{Done, Negative, Undecided}, KernelMeaning.{KernelMeans}}
use Rattle.coinst_run.specs.{IndexKernel.{classed_kernel, index_kernel, members_for}, Meaning.{IsMeant, MeansJob}}
use Rattle.coinst_run.specs.{QueryMeaning.{MeansVerdict, NoMeans, QueryMeans, YesMeans}, QueryText.{no_text, undecided_text, yes_text}}
use Rattle.coinst_run.specs.StoredMeaning.{MeansStored, StoredMeans, StoredNo, StoredUndecided, StoredYes}
use Rattle.coinst_run.proofs.{QueryMeant.{formed}, StoredMeant.{is_tree}}
use Rattle.suite_compare.proofs.Gathering.{named_inside}

-- the printed kernel is the text of the kernel
kernel_is_printed : (text : List ℕ) (limit : ℕ) (hold : Bool) (printed : List ℕ) → KernelMeans text limit hold printed → printed ≡ kernel_printed limit hold (home_in text) (packages_in text)
unfolding index_kernel classed_kernel
kernel_is_printed text limit hold printed k =
    k.reads.lines
    ∙ ap₂ (λ R ms. kernel_text (format_of hold) R ms k.held) k.kernel k.people
    ∙ ap (λ hs. kernel_text (format_of hold) (kernel limit hold (suite_repository (home_in text) (packages_in text))) (members_for (packages_in text) (index_kernel limit hold (home_in text) (packages_in text))) hs) k.stay

pub kernel_is_settled : (words : List Text) (readings : List OpenedFile) (verdict : ReportVerdict) (printed : Text) → IsMeant words readings verdict printed → KernelIsSettled words readings (code_of (verdict_status verdict)) printed
kernel_is_settled words readings verdict printed m limit hold path low is =
    let n : ℕ = unwrap_or limit 65536 in
    let job = kernel_words_ask limit hold path m.job low (ap job_of (sym is) ∙ m.asked) in
    let means : MeansJob (Kernel path false n hold) readings verdict printed = subst (λ j. MeansJob j readings verdict printed) job m.means in
    let k : KernelMeans means.0 n hold printed = means.3 in
    let index : SearchedIndex = searched means.0 10000 n hold in (
      as_read index,
      means.1,
      ap (λ v. code_of (verdict_status v)) means.2,
      (refl, refl, refl),
      subst (IsKernelText (as_read index)) (sym (kernel_is_printed means.0 n hold printed k)) (kernel_texts_are_there index k.accepted),
    )

-- a query of an index
module _ (text : Text) (budget limit : ℕ) (hold : Bool) (words : List Text) (goals : List Goal) (z : AreGoals words goals) (accepted : first_fault text ≡ None) where
  abbrev index : SearchedIndex
  index = (searched text budget limit hold)

  pub named : (n : ℕ) → n < length (packages_in text) → is_name (stanza_at (packages_in text) n).name ≡ true
  named n l = ((formed text accepted).named (stanza_at (packages_in text) n) (In_at (packages_in text) n no_stanza l)).name

  pub in_time : failed_leaves (asked_tree limit hold (home_in text) (packages_in text) goals) ≤ budget → ¬ (IsPastBudget index words)
  in_time few = within_budget (searched text budget limit hold) words goals z few

  yes_so : (printed : Text) → YesMeans text goals budget limit hold printed → IsFaithfulAnswer index words 0 printed
  unfolding yes_text
  yes_so printed y = answer_yes refl y.numbers y.reads (in_time y.within) y.order y.serves.healthy (each_from (packages_in text) (has y.numbers) words goals z y.serves.each)

  pub cannot : ¬ (CoinstGoals (home_in text) (packages_in text) goals) → ¬ (CanMeet index words)
  cannot none c = none (meets_goals index words goals z named c)

  no_so : (printed : Text) → NoMeans text goals budget limit hold printed → IsFaithfulAnswer index words 1 printed
  unfolding no_text
  no_so printed n =
      let stored : Text = kernel_printed limit hold (home_in text) (packages_in text) in
      let there : IsKernelText index stored = kernel_texts_are_there (searched text budget limit hold) accepted in
      answer_no refl n.log n.reads (in_time n.within) (cannot n.refuted) (stored, there, (asked_for (searched text budget limit hold) words goals z, asks_this index stored there words goals z, n.derives))

  pub past : budget < failed_leaves (asked_tree limit hold (home_in text) (packages_in text) goals) → IsPastBudget index words
  past spent = past_from (searched text budget limit hold) words goals z accepted spent

  answered_so : (verdict : ReportVerdict) (printed : Text) → MeansVerdict text goals budget limit hold verdict printed → IsFaithfulAnswer index words (code_of (verdict_status verdict)) printed
  unfolding undecided_text
  answered_so Done printed m = yes_so printed m
  answered_so Negative printed m = no_so printed m
  answered_so Undecided printed m = answer_undecided refl m.reads (past m.spent)

  pub all_known : ((goal : Goal) → In goal goals → (n : ℕ) × In n (packages_named (packages_in text) goal)) → HasEach (packages_in text) (all_stanzas (packages_in text)) words
  all_known known word i =
      let g = goal_for words goals z word i in
      let n = known g.0 g.1 in
      let inside : n.0 < length (packages_in text) = named_inside (packages_in text) g.0 n.0 n.1 in
      let up : nat_lt n.0 (length (packages_in text)) ≡ true = grind (arith, nat_tests, inside) in
      (n.0, up, names_from word (stanza_at (packages_in text) n.0).name (stanza_at (packages_in text) n.0).version g.0 g.2 (named_parts (home_in text) (packages_in text) g.0 n.0 n.1))

pub query_is_true : (words : List Text) (readings : List OpenedFile) (verdict : ReportVerdict) (printed : Text) → IsMeant words readings verdict printed → QueryIsTrue words readings (code_of (verdict_status verdict)) printed
query_is_true words readings verdict printed m budget limit hold path goals low small o is =
    let b : ℕ = unwrap_or budget 10000 in
    let n : ℕ = unwrap_or limit 65536 in
    let w = query_words_ask budget limit hold low small path goals m.job o (ap job_of (sym is) ∙ m.asked) in
    let means : MeansJob (Query path w.0 b n hold) readings verdict printed = subst (λ j. MeansJob j readings verdict printed) w.2 m.means in
    let k : QueryMeans means.0 w.0 b n hold verdict printed = means.2 in (
      (searched means.0 b n hold),
      means.1,
      indexes_are_read means.0 k.accepted,
      (refl, refl, refl),
      all_known means.0 b n hold goals w.0 w.1 k.accepted k.known,
      answered_so means.0 b n hold goals w.0 w.1 k.accepted verdict printed k.means,
    )

-- a query of a stored kernel
module _ (text : Text) (c : KernelContent) (stands : KernelReads text c.format c.repository c.members c.held) (budget : ℕ) (words : List Text) (goals : List Goal) (z : AreGoals words goals) where
  abbrev Answers : ℕ → Text → Type 0
  Answers status printed = IsFaithfulStoredAnswer text c.repository c.members words budget status printed

  abbrev formula : List (List Literal)
  formula = form c.repository (images_in c goals)

  abbrev tree : Tree
  tree = tree_of c.repository (images_in c goals)

  stored_search : Searched formula [] (is_some (found_of tree)) (failed_leaves tree)
  stored_search = trees_are_searches (length c.repository.clauses) formula tree (is_tree c stands.writable goals)

  stored_in_time : failed_leaves tree ≤ budget → ¬ (IsTooLong text words budget)
  stored_in_time few long =
      let is : long.0 ≡ formula = asked_is_one text words long.0 formula long.1 (stored_asks text c stands words goals z) in
      let there : Searched formula [] long.2.0 long.2.1 = subst (λ f. Searched f [] long.2.0 long.2.1) is long.2.2 in
      let same : long.2.1 ≡ failed_leaves tree = (searches_are_one formula [] long.2.0 (is_some (found_of tree)) long.2.1 (failed_leaves tree) there stored_search).1 in
      let past : budget < long.2.1 = long.2.3 in
      omega (arith, few, same, past)

  stored_yes : (printed : Text) → StoredYes c goals budget printed → Answers 0 printed
  stored_yes printed y =
      classes_yes refl y.classes y.reads (stored_in_time y.within) y.order y.serves.healthy (classes_from text c stands words goals z (has y.classes) y.serves)
      (λ s k. can_meet s words goals z (index_meets text c stands words goals z s k (has y.classes) y.serves))

  stored_no : (printed : Text) → StoredNo c goals budget printed → Answers 1 printed
  unfolding no_text
  stored_no printed n =
      classes_no refl n.log n.reads (stored_in_time n.within) (λ set healthy each. n.refuted record { whole = set; serves = classes_to text c stands words goals z set healthy each })
      (formula, stored_asks text c stands words goals z, n.derives)
      (λ s k met. n.refuted (stored_meets text c stands words goals z s k (meets_goals s words goals z (says_named s.text s.home s.stanzas k.index) met)))

  stored_undecided : (printed : Text) → StoredUndecided c goals budget printed → Answers 8 printed
  unfolding undecided_text
  stored_undecided printed u = classes_undecided refl u.reads (formula, stored_asks text c stands words goals z, (is_some (found_of tree), failed_leaves tree, stored_search, u.spent))

  stored_so : (verdict : ReportVerdict) (printed : Text) → MeansStored c goals budget verdict printed → Answers (code_of (verdict_status verdict)) printed
  stored_so Done printed m = stored_yes printed m
  stored_so Negative printed m = stored_no printed m
  stored_so Undecided printed m = stored_undecided printed m

  -- each goal names a member
  stored_known : ((goal : Goal) → In goal goals → (m : Member) × In m c.members × (stored.is_named_by goal m ≡ true)) → HasClassOfEach c.members (λ k. nat_lt k (length c.repository.clauses)) words
  stored_known known word i =
      let g = goal_for words goals z word i in
      let m = known g.0 g.1 in
      let inside : (m.0).class < length c.repository.clauses = member_below text c.format c.repository c.members c.held stands m.0 m.1 in
      let up : nat_lt (m.0).class (length c.repository.clauses) ≡ true = grind (arith, nat_tests, inside) in
      (m.0, m.1, up, names_from word (m.0).name (m.0).version g.0 g.2 m.2)

pub stored_query_is_true : (words : List Text) (readings : List OpenedFile) (verdict : ReportVerdict) (printed : Text) → IsMeant words readings verdict printed → StoredQueryIsTrue words readings (code_of (verdict_status verdict)) printed
stored_query_is_true words readings verdict printed m budget path goals low o is =
    let b : ℕ = unwrap_or budget 10000 in
    let w = stored_words_ask budget path goals m.job low o (ap job_of (sym is) ∙ m.asked) in
    let means : MeansJob (StoredQuery path w.0 b) readings verdict printed = subst (λ j. MeansJob j readings verdict printed) w.2 m.means in
    let k : StoredMeans means.0 w.0 b verdict printed = means.2 in
    let c : KernelContent = k.kernel in (
      means.0,
      means.1,
      one_reading means.0,
      (c.format, c.repository, c.members, c.held, k.reads, stored_known means.0 c k.reads b goals w.0 w.1 k.known, stored_so means.0 c k.reads b goals w.0 w.1 verdict printed k.means),
    )
