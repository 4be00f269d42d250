-- Whether the search for goals is past the budget of an index, by its tree.
use Rattle.std.proofs.Common.{◌≡◌, ◌<◌, ◌≤◌, List, [], None, length, subst, arith}
use Rattle.std.specs.Prelude.{is_some}
use Rattle.coinst_words.specs.Usage.{Text}
use Rattle.suite_compare.specs.{Indexes.{SearchedIndex}, Asking.{asked_tree, images_of}, Refusals.{home_in, packages_in}}
use Rattle.repo_model.specs.{FirstFault.{first_fault}, Repository.{suite_repository}, declared.goals.Goal.{Goal}}
use Rattle.row_book.specs.{Repository.{Repository}, Rounds.{kernel}}
use Rattle.search_terms.specs.{Form.{form}, Tree.{Tree, failed_leaves, found_of}, declared.literals.Literal.{Literal}}
use Rattle.suite_compare.proofs.Deciding.{asked_is}
use Rattle.claims.specs.{Laws.{kernel_printed, as_read}, Search.{Searched}, Settled.{IsKernelText, IsPastBudget}}
use Rattle.claims.proofs.{Goals.{AreGoals}, KernelTexts.{asked_is_one, asks_this}, PrintedKernels.{kernel_texts_are_there}}
use Rattle.claims.proofs.Search.{searches_are_one, trees_are_searches}

module _ (index : SearchedIndex) (words : List Text) (goals : List Goal) (z : AreGoals words goals) where
  abbrev K : Repository
  K = kernel index.limit index.hold (suite_repository (home_in index.text) (packages_in index.text))

  abbrev pub asked_for : List (List Literal)
  asked_for = form K (images_of index.limit index.hold (home_in index.text) (packages_in index.text) goals)

  abbrev tree : Tree
  tree = asked_tree index.limit index.hold (home_in index.text) (packages_in index.text) goals

  own : Searched asked_for [] (is_some (found_of tree)) (failed_leaves tree)
  own = trees_are_searches (length K.clauses) asked_for tree (asked_is (home_in index.text) (packages_in index.text) index.limit index.hold goals)

  pub past_to : IsPastBudget (as_read index) words → index.budget < failed_leaves tree
  past_to past =
      let long = past.2 in
      let is : long.0 ≡ asked_for = asked_is_one past.0 words long.0 asked_for long.1 (asks_this (as_read index) past.0 past.1 words goals z) in
      let there : Searched asked_for [] long.2.0 long.2.1 = subst (λ f. Searched f [] long.2.0 long.2.1) is long.2.2 in
      let same : long.2.1 ≡ failed_leaves tree = (searches_are_one asked_for [] long.2.0 (is_some (found_of tree)) long.2.1 (failed_leaves tree) there own).1 in
      subst (λ n. index.budget < n) same long.2.3

  pub in_time : failed_leaves tree ≤ index.budget → ¬ (IsPastBudget (as_read index) words)
  in_time few past = let much = past_to past in omega (arith, few, much)

  pub past_from : first_fault index.text ≡ None → index.budget < failed_leaves tree → IsPastBudget (as_read index) words
  past_from accepted spent =
      let text : Text = kernel_printed index.limit index.hold (home_in index.text) (packages_in index.text) in
      let there : IsKernelText (as_read index) text = kernel_texts_are_there index accepted in
      (text, there, (asked_for, asks_this (as_read index) text there words goals z, (is_some (found_of tree), failed_leaves tree, own, spent)))
