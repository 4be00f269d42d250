-- What the report of a query of a stored kernel means.
use Rattle.std.proofs.Common.{◌≡◌, ℕ, ◌+◌, ◌<◌, ◌≤◌, Bool, List, [], ◌∷◌, ◌++◌, length, filter, Option, Some, None, Result, Ok, Err, inr, refl, sym, ap, ap₂}
use Rattle.std.proofs.{Common.{subst, ◌∙◌, append_assoc, arith}, Math.Path.{fun_ext}, lemmas.List.{append_cancel_left}}
use Rattle.std.specs.{Prelude.{codes}, Fmt.{decimal}, List.{flat_map}}
use Rattle.listed.proofs.{Lists.{In_has}, Orders.{ascending_filter}}
use Rattle.byte_flow.specs.History.{OpenedFile}
use Rattle.kernel_text.specs.{declared.fault.KernelFault.{KernelFault}, Images.{unknown_goal}, KernelReads.{KernelContent, KernelReads}}
use Rattle.kernel_text.specs.{KernelText.{IsWritable}, Reading.{number_limit}, StoredReading.{stored_reading}, Serving.{ServesStored, images_in}}
use Rattle.kernel_text.proofs.{Spelling.{number_same}, StoredReading.{one_reading, texts_are_told}, Serving.{all_named, images_fit, images_serve}}
use Rattle.repo_model.specs.declared.goals.Goal.{Goal}
use Rattle.row_book.specs.{Numbers.{numbers}, Flags.{flag}}
use Rattle.listed.specs.Lists.{In, has, here, there}
use Rattle.row_book.proofs.{Numbers.{numbers_ascending, numbers_from}, Flags.{flag_in}}
use Rattle.search_terms.specs.{Closure.{InRange}, Form.{form}, Laws.{Solves}, Tree.{IsTree, Tree, failed_leaves, found_of, log_of}}
use Rattle.search_terms.proofs.{Certificates.{tree_derives}, Computed.{search_tree_is}, Found.{finds_healthy}}
use Rattle.suite_compare.specs.Asking.{tree_of}
use Rattle.suite_compare.proofs.{Ranged.{formula_ranged}, Installed.{kept}}
use Rattle.coinst_run.specs.{declared.answer.ReportVerdict.{ReportVerdict}, Answer.{reported}, Course.{answers, then_on}, Lines.{line_of_text}}
use Rattle.coinst_run.specs.{QueryText.{no_text}, StoredMeaning.{MeansStored, StoredMeans, StoredNo, StoredQueryIsMeant, StoredYes}, Query.{by_tree}}
use Rattle.coinst_run.specs.StoredQuery.{by_reading, class_line, classes_text, stored_answer, stored_by_unknown, stored_query_answer}
use Rattle.coinst_run.proofs.{AnswerMeant.{AnswerMeans, means_more, told_means, tree_means}, Given.{Reported, at_end, file_read}}

-- no two lists of classes have one text
one_line : (m n : ℕ) (R S : List ℕ) → m < number_limit → n < number_limit → class_line m ++ R ≡ class_line n ++ S → (m ≡ n) × (R ≡ S)
one_line m n R S l k e =
    let A : List ℕ = codes "class " in
    let F : List ℕ = 10 ∷ [] in
    let pieces : (j : ℕ) (T : List ℕ) → class_line j ++ T ≡ A ++ (decimal j ++ (F ++ T)) = λ j T. append_assoc (A ++ decimal j) F T ∙ append_assoc A (decimal j) (F ++ T) in
    let w = number_same m n (F ++ R) (F ++ S) l k (inr refl) (inr refl) (append_cancel_left A (decimal m ++ (F ++ R)) (decimal n ++ (F ++ S)) (sym (pieces m R) ∙ e ∙ pieces n S)) in
    (w.0, append_cancel_left F R S w.1)

one_list : (xs ys : List ℕ) → ((n : ℕ) → In n xs → n < number_limit) → ((n : ℕ) → In n ys → n < number_limit) → flat_map class_line xs ≡ flat_map class_line ys → xs ≡ ys
one_list [] [] f g e = refl
one_list [] (y ∷ ys) f g e = absurd (cc e)
one_list (x ∷ xs) [] f g e = absurd (cc e)
one_list (x ∷ xs) (y ∷ ys) f g e =
    let w = one_line x y (flat_map class_line xs) (flat_map class_line ys) (f x here) (g y here) e in
    ap₂ (λ z zs. z ∷ zs) w.0 (one_list xs ys (λ n i. f n (there i)) (λ n i. g n (there i)) w.1)

-- the classes whose flags are up
abbrev raised : List Bool → List ℕ
raised chosen = filter (flag chosen) (numbers (length chosen) 0)

raised_same : (chosen : List Bool) → has (raised chosen) ≡ flag chosen
raised_same chosen = fun_ext (λ n. kept n (flag chosen) (numbers (length chosen) 0) (λ m h. let l = flag_in chosen m h in numbers_from (length chosen) 0 m (omega arith) (omega arith)))

-- a kernel that the format can write
module _ (kernel : KernelContent) (writable : IsWritable kernel.format kernel.repository kernel.members kernel.held) (goals : List Goal) where
  abbrev size : ℕ
  size = length kernel.repository.clauses

  abbrev images : List (List ℕ)
  images = images_in kernel goals

  abbrev tree : Tree
  tree = tree_of kernel.repository images

  range : InRange size (form kernel.repository images)
  range = formula_ranged kernel.repository images writable.sound (images_fit kernel.members size goals)

  pub is_tree : IsTree size (form kernel.repository images) [] tree
  unfolding tree_of
  is_tree = search_tree_is size (form kernel.repository images) range

  yes_means : (budget : ℕ) → failed_leaves tree ≤ budget → (chosen : List Bool) → found_of tree ≡ Some chosen → StoredYes kernel goals budget (classes_text chosen)
  unfolding classes_text
  yes_means budget few_failed chosen some =
      let solves : Solves kernel.repository images (flag chosen) = (finds_healthy kernel.repository images tree range is_tree).1 chosen some in
      let serves : ServesStored kernel goals (has (raised chosen)) = subst (ServesStored kernel goals) (sym (raised_same chosen)) ((images_serve kernel writable goals (flag chosen) solves.0).1 solves.1) in
      let few : size < number_limit = writable.few_classes in
      record {
        within = few_failed;
        classes = raised chosen;
        reads = refl;
        once = λ other inside same.
            one_list other (raised chosen) (λ n i. let l = inside n i in omega arith) (λ n i. let l = serves.healthy.packages n (In_has i) in omega arith)
            (append_cancel_left (line_of_text (codes "yes")) (flat_map class_line other) (flat_map class_line (raised chosen)) (sym same));
        order = ascending_filter (flag chosen) (numbers (length chosen) 0) (numbers_ascending (length chosen) 0);
        serves = serves;
      }

  no_means : (budget : ℕ) → failed_leaves tree ≤ budget → found_of tree ≡ None → StoredNo kernel goals budget (no_text (log_of [] tree))
  no_means budget few_failed none = record {
    within = few_failed;
    refuted = λ w.
        let found = (finds_healthy kernel.repository images tree range is_tree).0 (w.whole, w.serves.healthy, (images_serve kernel writable goals w.whole w.serves.healthy).0 w.serves) in
        let there_it_is = found.1 in
        cc (none, there_it_is);
    log = log_of [] tree;
    reads = refl;
    derives = tree_derives size (form kernel.repository images) tree is_tree none;
  }

-- the report of a query of the stored kernel at the path
module _ (path : List ℕ) (goals : List Goal) (budget : ℕ) (readings : List OpenedFile) (verdict : ReportVerdict) (report : List ℕ) where
  goals_mean : (text : List ℕ) (kernel : KernelContent) (first : Option ℕ) → KernelReads text kernel.format kernel.repository kernel.members kernel.held → unknown_goal kernel.members goals ≡ first →
      AnswerMeans (StoredMeans text goals budget) (stored_by_unknown kernel goals budget first)
  goals_mean text kernel (Some number) reads is = tt
  goals_mean text kernel None reads is =
      let writable = reads.writable in
      let found : Tree = tree_of kernel.repository (images_in kernel goals) in
      means_more (MeansStored kernel goals budget) (StoredMeans text goals budget) (by_tree classes_text budget found)
      (λ verdict printed m. record { kernel = kernel; reads = reads; once = one_reading text; known = all_named kernel.members 1 goals is; means = m })
      (tree_means (MeansStored kernel goals budget) classes_text budget found (yes_means kernel writable goals budget) (no_means kernel writable goals budget) (λ past. record { reads = refl; spent = past }))

  by_reading_of : (text : List ℕ) (found : Result KernelContent KernelFault) → stored_reading text ≡ found →
      Reported verdict report (then_on (by_reading path found) (λ kernel. answers (stored_answer goals budget kernel))) readings → (readings ≡ []) × StoredMeans text goals budget verdict report
  by_reading_of text (Err fault) is g = absurd (let e = (at_end verdict report _ readings g).1 in let no : ⊥ = cc in no)
  by_reading_of text (Ok kernel) is g =
      let end = at_end verdict report (stored_answer goals budget kernel) readings g in (
        end.0,
        told_means (StoredMeans text goals budget) (stored_answer goals budget kernel) verdict report end.1
            (goals_mean text kernel (unknown_goal kernel.members goals) ((texts_are_told text kernel.format kernel.repository kernel.members kernel.held).1 is) refl),
      )

pub stored_query_is_meant : StoredQueryIsMeant
stored_query_is_meant path goals budget readings verdict report e =
    let read = file_read verdict report path (stored_query_answer path goals budget) readings e in
    let means = by_reading_of path goals budget read.1 verdict report read.0 (stored_reading read.0) refl read.3 in
    (read.0, read.2 ∙ ap (λ rest. (path, read.0) ∷ rest) means.0, means.1)
