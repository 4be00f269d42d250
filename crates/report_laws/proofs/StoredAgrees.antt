-- The kernel text of an index answers goals as the index does.
use Rattle.std.proofs.Common.{◌≡◌, ℕ, ◌+◌, ◌<◌, ◌≤◌, Bool, true, false, cond, eqb, eqb-true, eq-eqb, nat_lt, List, [], ◌∷◌, length, map, slice_index_or, Option}
use Rattle.std.proofs.Common.{Some, None, refl, sym, ap, ap₂, subst, ◌∙◌}
use Rattle.std.specs.List.{list_any, position_from}
use Rattle.listed.proofs.{Bools.{same_bool}, Lists.{In_has, any_cases, any_from, filter_same, has_In}}
use Rattle.byte_flow.specs.Flow.{Files}
use Rattle.relation_fields.specs.{declared.packages.Home.{Home}, declared.packages.PackageFacts.{PackageFacts}}
use Rattle.kernel_rounds.specs.Laws.{HasImage}
use Rattle.kernel_rounds.proofs.Reached.{image_is_of_classes_lem}
use Rattle.kernel_text.specs.{declared.member.Member.{Member}, Images.{image_of, is_unknown}, KernelReads.{KernelContent, KernelReads, content}}
use Rattle.kernel_text.specs.{KernelText.{format_of}, Laws.{IsReadBack}, Members.{kernel_members}}
use Rattle.kernel_text.proofs.{ReadBack.{read_back}, StoredReading.{one_reading}}
use Rattle.repo_model.specs.{declared.goals.Goal.{Goal}, FirstFault.{first_fault}, Goals.{packages_named}, Repository.{suite_repository}}
use Rattle.repo_model.proofs.{Accepted.{Accepted}, Packages.{length_clauses}}
use Rattle.row_book.specs.{Numbers.{numbers}, Repository.{Repository}, Rounds.{kernel, kernel_class, kernel_held, kernel_image}}
use Rattle.listed.specs.Lists.{In, has}
use Rattle.search_terms.specs.Tree.{Tree, failed_leaves, found_of, log_of}
use Rattle.suite_compare.specs.{Answering.{names_none, unknown_from}, Asking.{asked_tree, images_of, tree_of}}
use Rattle.suite_compare.specs.Asking as asking
use Rattle.suite_compare.proofs.{Deciding.{named_within}, SuiteKernels.{suite_sound}}
use Rattle.suite_compare.specs.Refusals.{home_in, packages_in}
use Rattle.coinst_run.specs.{declared.answer.ReportVerdict.{ReportVerdict}, declared.answer.ReportVerdict.TheVariants.{Done, Undecided}, Answer.{reported}}
use Rattle.coinst_run.specs.{Course.{answers, then_on}, Index.{index_in}, IndexKernel.{classed_kernel, index_kernel, text_for}}
use Rattle.coinst_run.specs.{Kernel.{kernel_answer, kernel_course}, Outcome.{answered, file_limit, outcome_over}}
use Rattle.coinst_run.specs.Query.{by_found, by_tree, by_unknown, goal_of_number, goals_answer, installed_text, query_answer, query_course}
use Rattle.coinst_run.specs.QueryText.{undecided_text, unknown_line}
use Rattle.coinst_run.specs.{StoredQuery.{classes_text, stored_answer, stored_by_unknown, stored_query_answer, stored_query_course}, Present.{HasKernel}}
use Rattle.report_laws.specs.StoredAgrees.{AreOneAnswer, StoredAnswersAsIndex, StoredImagesAreOfIndex, no, undecided, unknown, yes}
use Rattle.kernel_text.specs.Serving.{images_in}
use Rattle.claims.proofs.PrintedKernels.{class_is, fits}
use Rattle.coinst_run.proofs.{StoredKernels.{kernel_checked}, QueryMeant.{formed}, GoingOn.{GivesThis, kernel_used, this_alone}}
use Rattle.report_laws.proofs.Steps.{file_step, kernel_step}

map_same : {A B : Type 0} (f g : A → B) (xs : List A) → ((x : A) → f x ≡ g x) → map f xs ≡ map g xs
map_same f g [] e = refl
map_same f g (x ∷ xs) e = ap₂ (λ y ys. y ∷ ys) (e x) (map_same f g xs e)

-- the first unknown goal is one
unknown_same : (stanzas : List PackageFacts) (members : List Member) (n : ℕ) (goals : List Goal) → ((goal : Goal) → is_unknown members goal ≡ names_none stanzas goal) →
    position_from (is_unknown members) n goals ≡ unknown_from n stanzas goals
unknown_same stanzas members n [] e = refl
unknown_same stanzas members n (g ∷ gs) e = ap₂ (λ b rest. cond b (Some n) rest) (e g) (unknown_same stanzas members (n + 1) gs e)

-- the kernel of an accepted index, with its members
module _ (limit : ℕ) (hold : Bool) (home : Home) (stanzas : List PackageFacts) (accepted : Accepted stanzas) where
  abbrev R : Repository
  R = suite_repository home stanzas

  abbrev K : Repository
  K = kernel limit hold R

  abbrev classes : List ℕ
  classes = map (kernel_class limit hold R) (numbers (length R.clauses) 0)

  abbrev held : List ℕ
  held = kernel_held limit hold R

  abbrev size : ℕ
  size = length K.clauses

  abbrev members : List Member
  members = kernel_members stanzas classes size

  back : IsReadBack (format_of hold) K stanzas classes held
  back = read_back (format_of hold) K stanzas classes held (fits limit hold home stanzas accepted)

  -- a class has a package that the goal names where it is the class of one
  module _ (goal : Goal) (n : ℕ) where
    abbrev wanted : List ℕ
    wanted = packages_named stanzas goal

    abbrev is_class_of : ℕ → Bool
    is_class_of i = eqb n (slice_index_or classes i 0)

    small : (p : ℕ) → has wanted p ≡ true → p < length R.clauses
    small p t = named_within home stanzas goal p (has_In wanted p t)

    class_at : (p : ℕ) → p < length R.clauses → slice_index_or classes p 0 ≡ kernel_class limit hold R p
    class_at p l = class_is limit hold home stanzas accepted p (subst (λ k. p < k) (length_clauses home stanzas) l)

    into : list_any is_class_of wanted ≡ true → kernel_image limit hold R (has wanted) n ≡ true
    into h =
        let w : (i : ℕ) × In i wanted × (is_class_of i ≡ true) = any_cases is_class_of wanted h in
        let l : w.0 < length R.clauses = named_within home stanzas goal w.0 w.1 in
        (image_is_of_classes_lem limit hold R (suite_sound home stanzas) (has wanted) small n).1
        record { by = w.0; within = l; inside = In_has w.1; class = sym (class_at w.0 l) ∙ sym (eqb-true n (slice_index_or classes w.0 0) w.2) }

    from : kernel_image limit hold R (has wanted) n ≡ true → list_any is_class_of wanted ≡ true
    from h =
        let w : HasImage limit hold R (has wanted) n = (image_is_of_classes_lem limit hold R (suite_sound home stanzas) (has wanted) small n).0 h in
        any_from is_class_of wanted w.by (has_In wanted w.by w.inside) (eq-eqb n (slice_index_or classes w.by 0) (sym w.class ∙ sym (class_at w.by w.within)))

    class_same : list_any is_class_of wanted ≡ kernel_image limit hold R (has wanted) n
    class_same = same_bool (list_any is_class_of wanted) (kernel_image limit hold R (has wanted) n) into from

  image_same : (goal : Goal) → image_of members size goal ≡ asking.image_of limit hold home stanzas goal
  image_same goal =
      back.images goal
      ∙ filter_same (λ n. list_any (λ i. eqb n (slice_index_or classes i 0)) (packages_named stanzas goal)) (kernel_image limit hold R (has (packages_named stanzas goal))) (numbers size 0) (λ n i. class_same goal n)

  images_same : (goals : List Goal) → images_in (content (format_of hold) K members held) goals ≡ images_of limit hold home stanzas goals
  images_same goals = map_same (image_of members size) (asking.image_of limit hold home stanzas) goals image_same

  tree_same : (goals : List Goal) → tree_of K (images_in (content (format_of hold) K members held) goals) ≡ asked_tree limit hold home stanzas goals
  tree_same goals = ap (tree_of K) (images_same goals)

-- what is answered to goals over an index and over its kernel text
module _ (text : List ℕ) (accepted : first_fault text ≡ None) (goals : List Goal) (budget limit : ℕ) (hold : Bool) where
  abbrev stanzas : List PackageFacts
  stanzas = packages_in text

  abbrev the_kernel : Repository
  the_kernel = kernel limit hold (suite_repository (home_in text) stanzas)

  abbrev the_members : List Member
  the_members = members limit hold (home_in text) stanzas (formed text accepted)

  abbrev the_content : KernelContent
  the_content = content (format_of hold) the_kernel the_members (kernel_held limit hold (suite_repository (home_in text) stanzas))

  abbrev yes_of_index : List Bool → List ℕ
  yes_of_index = installed_text limit hold (index_in text) goals

  by_both : (tree : Tree) → AreOneAnswer (index_in text) goals budget limit hold (by_tree yes_of_index budget tree) (by_tree classes_text budget tree)
  by_both tree = told (nat_lt budget (failed_leaves tree)) (found_of tree)
    where
      told : (spent : Bool) (found : Option (List Bool)) → AreOneAnswer (index_in text) goals budget limit hold
          (cond spent (reported Undecided (undecided_text budget)) (by_found yes_of_index tree found)) (cond spent (reported Undecided (undecided_text budget)) (by_found classes_text tree found))
      told true found = undecided
      told false (Some chosen) = yes chosen
      told false None = no (log_of [] tree)

  by_first : (first : Option ℕ) →
      AreOneAnswer (index_in text) goals budget limit hold (by_unknown limit hold (index_in text) goals budget first) (stored_by_unknown the_content goals budget first)
  by_first (Some number) = unknown (unknown_line number (goal_of_number goals number))
  by_first None =
      subst (λ tree. AreOneAnswer (index_in text) goals budget limit hold (by_tree yes_of_index budget (asked_tree limit hold (home_in text) stanzas goals)) (by_tree classes_text budget tree))
      (sym (tree_same limit hold (home_in text) stanzas (formed text accepted) goals)) (by_both (asked_tree limit hold (home_in text) stanzas goals))

  one_answer : AreOneAnswer (index_in text) goals budget limit hold (goals_answer goals budget limit hold (index_in text)) (stored_answer goals budget the_content)
  one_answer =
      let first : Option ℕ = unknown_from 1 stanzas goals in
      subst (λ other. AreOneAnswer (index_in text) goals budget limit hold (by_unknown limit hold (index_in text) goals budget first) (stored_by_unknown the_content goals budget other))
      (sym (unknown_same stanzas the_members 1 goals (back limit hold (home_in text) stanzas (formed text accepted)).unknown)) (by_first first)

-- what is known where the kernel of the index at the path is printed
record IsPrinted (files : Files) (index text : List ℕ) (limit : ℕ) (hold : Bool) (printed : List ℕ) : Type 0 where
  has : HasKernel files index limit hold text
  is : printed ≡ text_for (packages_in text) (index_kernel limit hold (home_in text) (packages_in text))

printed_from : (files : Files) (index text printed : List ℕ) (limit : ℕ) (hold : Bool) (verdict : ReportVerdict) → files index ≡ Some text →
    outcome_over files (kernel_course index false limit hold) ≡ answered (reported verdict printed) → IsPrinted files index text limit hold printed
printed_from files index text printed limit hold verdict there e =
    let made = kernel_used (GivesThis verdict printed) (this_alone verdict printed) files index limit hold (kernel_answer false) e in
    let found : files index ≡ Some made.0 = (made.1).0.file.is in
    let same : made.0 ≡ text = cc in
    let end : answered (reported Done (text_for (packages_in made.0) (index_kernel limit hold (home_in made.0) (packages_in made.0)))) ≡ answered (reported verdict printed) = made.2 in
    let is : printed ≡ text_for (packages_in made.0) (index_kernel limit hold (home_in made.0) (packages_in made.0)) = cc in
    subst (λ (t : List ℕ). IsPrinted files index t limit hold printed) same record { has = made.1; is = is }

-- the query of the index, and that of the text
module _ (files : Files) (index stored text printed : List ℕ) (goals : List Goal) (budget limit : ℕ) (hold : Bool) (kept : files stored ≡ Some printed) (is : IsPrinted files index text limit hold printed) where
  asked : outcome_over files (query_course index goals budget limit hold) ≡ answered (goals_answer goals budget limit hold (index_in text))
  asked = kernel_step files index limit hold (query_answer goals budget limit hold) text is.has

  abbrev stays : List ℕ
  stays = kernel_held limit hold (suite_repository (home_in text) (packages_in text))

  reads : KernelReads printed (format_of hold) (the_kernel text is.has.0.accepted goals budget limit hold) (the_members text is.has.0.accepted goals budget limit hold) stays
  unfolding index_kernel classed_kernel
  reads =
      subst (λ t. KernelReads t (format_of hold) (the_kernel text is.has.0.accepted goals budget limit hold) (the_members text is.has.0.accepted goals budget limit hold) stays) (sym is.is)
      (back limit hold (home_in text) (packages_in text) (formed text is.has.0.accepted)).reads

  asked_stored : length printed ≤ file_limit → outcome_over files (stored_query_course stored goals budget) ≡ answered (stored_answer goals budget (the_content text is.has.0.accepted goals budget limit hold))
  asked_stored short =
      file_step files stored (stored_query_answer stored goals budget) printed record { is = kept; short = short }
      ∙ ap (λ stage. outcome_over files (then_on stage (λ found. answers (stored_answer goals budget found))))
      (kernel_checked stored printed (format_of hold) (the_kernel text is.has.0.accepted goals budget limit hold) (the_members text is.has.0.accepted goals budget limit hold) stays reads)

pub stored_answers_as_index : StoredAnswersAsIndex
stored_answers_as_index files index stored text printed goals budget limit hold verdict there made kept short =
    let is : IsPrinted files index text limit hold printed = printed_from files index text printed limit hold verdict there made in
    record {
      of_index = goals_answer goals budget limit hold (index_in text);
      of_stored = stored_answer goals budget (the_content text is.has.0.accepted goals budget limit hold);
      asked = asked files index stored text printed goals budget limit hold kept is;
      asked_stored = asked_stored files index stored text printed goals budget limit hold kept is short;
      same = one_answer text is.has.0.accepted goals budget limit hold;
    }

pub stored_images_are_of_index : StoredImagesAreOfIndex
unfolding index_kernel classed_kernel
stored_images_are_of_index text limit hold format S others stay accepted k goals =
    let home : Home = home_in text in
    let stanzas : List PackageFacts = packages_in text in
    let f : Accepted stanzas = formed text accepted in
    let own : ℕ = format_of hold in
    let T : Repository = kernel limit hold (suite_repository home stanzas) in
    let ms : List Member = members limit hold home stanzas f in
    let hs : List ℕ = kernel_held limit hold (suite_repository home stanzas) in
    let same : (format ≡ own) × (S ≡ T) × (others ≡ ms) × (stay ≡ hs) =
    one_reading (text_for stanzas (index_kernel limit hold home stanzas)) format own S T others ms stay hs k (back limit hold home stanzas f).reads in
    ap₂ (λ g U. images_in (content g U others stay) goals) same.0 same.1 ∙ ap₂ (λ os ns. images_in (content own T os ns) goals) same.2 same.3 ∙ images_same limit hold home stanzas f goals
