-- What goals ask for, gathered goal by goal.
use Rattle.std.{proofs.Common.{◌≡◌, ℕ, ◌<◌, Bool, List, length, get_or, map, sym, ap, subst, ◌∙◌, zero-add}, specs.Prelude.{◌↔◌}}
use Rattle.listed.{proofs.Lists.{filled, In_at, In_map, In_map_cases}, specs.Lists.{Ascending, In}, proofs.Orders.{ascending_filter, ascending_same}}
use Rattle.row_book.{specs.Flattening.{packages}, specs.Repository.{Repository}, specs.Rounds.{kernel_class}, specs.Sound.{SoundRepository}, proofs.Numbers.{at_numbers, length_numbers}}
use Rattle.relation_fields.{specs.declared.packages.PackageFacts.{PackageFacts}, specs.declared.packages.Home.{Home}}
use Rattle.repo_model.{specs.Goals.{is_named_by, packages_named}, specs.Repository.{packages_of, suite_repository}, specs.Stanzas.{stanza_at}, specs.declared.goals.Goal.{Goal}, proofs.Elements.{range_ascending}, proofs.Packages.{chosen_cases, length_clauses}}
use Rattle.suite_compare.{specs.Asking.{goal_classes}, proofs.SuiteKernels.{classes_ascending, classes_from, classes_parts, suite_sound}}

-- the classes of packages, from the table of all classes
module _ (limit : ℕ) (hold : Bool) (R : Repository) (sound : SoundRepository R) (class_of chosen : List ℕ) (is : class_of ≡ map (kernel_class limit hold R) (packages R)) (within : (n : ℕ) → In n chosen → n < length R.clauses) where
  class_at : (n : ℕ) → n < length R.clauses → get_or class_of n 0 ≡ kernel_class limit hold R n
  class_at n l = ap (λ xs. get_or xs n 0) is ∙ at_numbers (kernel_class limit hold R) 0 (length R.clauses) 0 n l ∙ ap (kernel_class limit hold R) (zero-add n)

  pub image_made : (each made : List ℕ) → each ≡ map (λ n. get_or class_of n 0) chosen → Ascending made → ((k : ℕ) → In k made ↔ In k each) → made ≡ goal_classes limit hold R chosen
  image_made each made mapped ascending same = ascending_same made (goal_classes limit hold R chosen) ascending (classes_ascending limit hold R chosen)
      (λ k i.
      let w = In_map_cases (λ n. get_or class_of n 0) chosen k (subst (λ ks. In k ks) mapped ((same k).0 i)) in
      subst (λ k. In k (goal_classes limit hold R chosen)) (sym (w.2 ∙ class_at w.0 (within w.0 w.1))) (classes_from limit hold R sound chosen within w.0 w.1))
      (λ k i.
      let w = classes_parts limit hold R sound chosen within k i in
      let there : In (get_or class_of w.0 0) each = subst (λ ks. In (get_or class_of w.0 0) ks) (sym mapped) (In_map (λ n. get_or class_of n 0) chosen w.0 w.1) in
      (same k).1 (subst (λ k. In k each) (class_at w.0 (within w.0 w.1) ∙ w.2) there))

-- the table of a suite's classes has one for each package
pub table_of : (limit : ℕ) (hold : Bool) → (home : Home) (stanzas : List PackageFacts) (class_of : List ℕ) → class_of ≡ map (kernel_class limit hold (suite_repository home stanzas)) (packages (suite_repository home stanzas)) → length class_of ≡ length stanzas
table_of limit hold home stanzas class_of is = ap length is ∙ length_numbers (kernel_class limit hold (suite_repository home stanzas)) (length (suite_repository home stanzas).clauses) 0 ∙ length_clauses home stanzas

-- what a goal names, ascending
pub named_inside : (stanzas : List PackageFacts) (goal : Goal) (n : ℕ) → In n (packages_named stanzas goal) → n < length stanzas
named_inside stanzas goal n i = (chosen_cases stanzas (λ n. is_named_by goal (stanza_at stanzas n)) n i).0

pub named_ascending : (stanzas : List PackageFacts) (goal : Goal) → Ascending (packages_named stanzas goal)
named_ascending stanzas goal = ascending_filter (λ n. is_named_by goal (stanza_at stanzas n)) (packages_of stanzas) (range_ascending (length stanzas) 0)

-- some packages have some class
pub image_filled : (limit : ℕ) (hold : Bool) → (home : Home) (stanzas : List PackageFacts) (chosen : List ℕ) → ((n : ℕ) → In n chosen → n < length stanzas) → 0 < length chosen → 0 < length (goal_classes limit hold (suite_repository home stanzas) chosen)
image_filled limit hold home stanzas chosen within some =
    filled (goal_classes limit hold (suite_repository home stanzas) chosen) (kernel_class limit hold (suite_repository home stanzas) (get_or chosen 0 0))
    (classes_from limit hold (suite_repository home stanzas) (suite_sound home stanzas) chosen (λ n i. subst (λ size. n < size) (sym (length_clauses home stanzas)) (within n i)) (get_or chosen 0 0) (In_at chosen 0 0 some))
