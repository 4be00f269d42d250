-- What is answered to goals that are asked of a stored kernel.
use Rattle.std.proofs.Common.{◌≡◌, ℕ, ◌+◌, Bool, true, false, cond, List, [], ◌∷◌, ◌++◌, length, map, filter, None, Ok, Err, sym, ap, ◌∙◌, lt-ltb}
use Rattle.std.proofs.{lemmas.Bool.{le-ltb}, lemmas.List.{append-nil, flat_map_more}, lemmas.List.Elements.{filter-append}}
use Rattle.std.specs.List.{flat_map}
use Rattle.clause_solver.specs.{Outcomes.{IsSearchOutcome}, declared.outcomes.Outcome.TheVariants.{Found, Refuted, Spent}}
use Rattle.kernel_text.specs.{declared.fault.KernelFault.{KernelFault}, declared.member.Member.{Member}, Images.{image_of, unknown_goal}}
use Rattle.kernel_text.specs.{KernelReads.{KernelReads, content}, StoredReading.{stored_reading}}
use Rattle.kernel_text.proofs.StoredReading.{texts_are_told}
use Rattle.repo_model.specs.declared.goals.Goal.{Goal}
use Rattle.row_book.specs.{Numbers.{numbers}, Flags.{flag}, Needs.{NeedsFit}, Repository.{Repository}, Sound.{SoundRepository}}
use Rattle.row_book.proofs.Numbers.{numbers_more}
use Rattle.search_terms.specs.{Form.{form}, declared.literals.Log.{Log}, Tree.{IsTree, Tree, failed_leaves, found_of}}
use Rattle.search_terms.proofs.{Computed.{search_tree_is}, Found.{one_tree}}
use Rattle.suite_compare.specs.Asking.{tree_of}
use Rattle.suite_compare.proofs.Ranged.{formula_ranged}
use Rattle.coinst_run.specs.{declared.answer.Cause.TheVariants.{Content}, declared.answer.ReportVerdict.TheVariants.{Done, Negative, Undecided}}
use Rattle.coinst_run.specs.{Answer.{Answer, refused, reported}, Course.{answers}, Query.{by_found, by_tree}, QueryText.{no_text, undecided_text}}
use Rattle.coinst_run.specs.StoredQuery.{by_reading, checked_kernel, class_line, classes_text, kernel_fault_line, stored_answer, stored_by_unknown}

-- a text that was read, and one that was refused
pub kernel_checked : (path text : List ℕ) (format : ℕ) (R : Repository) (members : List Member) (held : List ℕ) → KernelReads text format R members held → checked_kernel path text ≡ Ok (content format R members held)
kernel_checked path text format R members held k = ap (by_reading path) ((texts_are_told text format R members held).0 k)

pub kernel_sound : (text : List ℕ) (format : ℕ) (R : Repository) (members : List Member) (held : List ℕ) → KernelReads text format R members held → SoundRepository R
kernel_sound text format R members held k = k.writable.sound

pub kernel_refused : (path text : List ℕ) (fault : KernelFault) → stored_reading text ≡ Err fault → checked_kernel path text ≡ Err (refused Content (kernel_fault_line path fault))
kernel_refused path text fault is = ap (by_reading path) is

-- goals that are known are answered by the tree
pub known_told : (format : ℕ) (R : Repository) (members : List Member) (held : List ℕ) (goals : List Goal) (budget size : ℕ) (needs : List (List ℕ)) → unknown_goal members goals ≡ None → size ≡ length R.clauses →
    needs ≡ map (image_of members size) goals → answers (by_tree classes_text budget (tree_of R needs)) ≡ answers (stored_answer goals budget (content format R members held))
known_told format R members held goals budget size needs known count made =
    ap answers (ap (λ xs. by_tree classes_text budget (tree_of R xs)) (made ∙ ap (λ n. map (image_of members n) goals) count) ∙ sym (ap (stored_by_unknown (content format R members held) goals budget) known))

-- the tree of a search is the one of the definition
module _ (R : Repository) (goals : List (List ℕ)) (sound : SoundRepository R) (fit : NeedsFit (length R.clauses) goals) (budget : ℕ) where
  tree_is : (tree : Tree) → IsTree (length R.clauses) (form R goals) [] tree → tree ≡ tree_of R goals
  unfolding tree_of
  tree_is tree is = one_tree (length R.clauses) (form R goals) [] (tree_of R goals) tree (search_tree_is (length R.clauses) (form R goals) (formula_ranged R goals sound fit)) is

  by_size : Bool → Tree → Answer
  by_size b tree = cond b (reported Undecided (undecided_text budget)) (by_found classes_text tree (found_of tree))

  pub found_told : (chosen : List Bool) → IsSearchOutcome R goals budget (Found chosen) → by_tree classes_text budget (tree_of R goals) ≡ reported Done (classes_text chosen)
  unfolding by_size
  found_told chosen o =
      let tree : Tree = o.0 in
      ap (by_tree classes_text budget) (sym (tree_is tree o.1)) ∙ ap (λ b. by_size b tree) (le-ltb budget (failed_leaves tree) o.2.1) ∙ ap (by_found classes_text tree) o.2.0

  pub refuted_told : (log : Log) → IsSearchOutcome R goals budget (Refuted log) → by_tree classes_text budget (tree_of R goals) ≡ reported Negative (no_text log.entries)
  unfolding by_size
  refuted_told log o =
      let tree : Tree = o.0 in
      ap (by_tree classes_text budget) (sym (tree_is tree o.1)) ∙ ap (λ b. by_size b tree) (le-ltb budget (failed_leaves tree) o.2.1) ∙ ap (by_found classes_text tree) o.2.0
      ∙ ap (λ xs. reported Negative (no_text xs)) (sym o.2.2)

  pub spent_told : (failed : ℕ) → IsSearchOutcome R goals budget (Spent failed) → by_tree classes_text budget (tree_of R goals) ≡ reported Undecided (undecided_text budget)
  unfolding by_size
  spent_told failed o =
      let tree : Tree = o.0 in
      ap (by_tree classes_text budget) (sym (tree_is tree o.1)) ∙ ap (λ b. by_size b tree) (lt-ltb budget (failed_leaves tree) o.2.0)

-- the lines of classes, flag by flag
pub no_class_lines : (chosen : List Bool) (start : List ℕ) → start ≡ start ++ flat_map class_line (filter (flag chosen) (numbers 0 0))
unfolding numbers
no_class_lines chosen start = sym (append-nil start)

module _ (chosen : List Bool) (n : ℕ) (start out new : List ℕ) (sofar : out ≡ start ++ flat_map class_line (filter (flag chosen) (numbers n 0))) where
  one_number : filter (flag chosen) (numbers (n + 1) 0) ≡ filter (flag chosen) (numbers n 0) ++ cond (flag chosen n) (n ∷ []) []
  one_number = ap (filter (flag chosen)) (numbers_more n) ∙ filter-append (flag chosen) (numbers n 0) (n ∷ [])

  pub class_told : flag chosen n ≡ true → new ≡ out ++ class_line n → new ≡ start ++ flat_map class_line (filter (flag chosen) (numbers (n + 1) 0))
  class_told e pushed =
      pushed ∙ ap (λ t. t ++ class_line n) sofar ∙ flat_map_more class_line start (filter (flag chosen) (numbers n 0)) n
      ∙ ap (λ xs. start ++ flat_map class_line xs) (sym (one_number ∙ ap (λ b. filter (flag chosen) (numbers n 0) ++ cond b (n ∷ []) []) e))

  pub class_passed : flag chosen n ≡ false → out ≡ start ++ flat_map class_line (filter (flag chosen) (numbers (n + 1) 0))
  class_passed e =
      sofar ∙ ap (λ xs. start ++ flat_map class_line xs)
      (sym (one_number ∙ ap (λ b. filter (flag chosen) (numbers n 0) ++ cond b (n ∷ []) []) e ∙ append-nil (filter (flag chosen) (numbers n 0))))
