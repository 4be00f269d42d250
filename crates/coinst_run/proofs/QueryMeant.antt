-- What the report of a query means.
use Rattle.std.proofs.Common.{◌≡◌, ℕ, ◌≤◌, Bool, List, [], ◌∷◌, length, Option, Some, None, ap, refl, sym, ◌∙◌}
use Rattle.listed.proofs.Lists.{In_has}
use Rattle.repo_model.specs.declared.goals.Goal.{Goal}
use Rattle.repo_model.proofs.Accepted.{Accepted}
use Rattle.repo_model.proofs.Accepted as accepted
use Rattle.repo_model.specs.{FirstFault.{first_fault}, Repository.{suite_repository}}
use Rattle.row_book.specs.Rounds.{kernel}
use Rattle.search_terms.specs.{Form.{form}, Tree.{Tree, failed_leaves, found_of, log_of}}
use Rattle.search_terms.proofs.Certificates.{tree_derives}
use Rattle.suite_compare.specs.{Answering.{unknown_goal}, Asking.{asked_tree, images_of, installation}, Refusals.{home_in, packages_in}}
use Rattle.suite_compare.proofs.{Deciding.{asked_is, found_there}, Installed.{installations_serve}, Unknown.{all_named}}
use Rattle.coinst_run.specs.{Index.{index_in}, Query.{by_tree, by_unknown, goals_answer, installed_text, query_answer}}
use Rattle.coinst_run.specs.{QueryMeaning.{MeansVerdict, NoMeans, QueryIsMeant, QueryMeans, YesMeans}, QueryText.{no_text}}
use Rattle.coinst_run.proofs.{OneInstallation.{one_installation}, AnswerMeant.{AnswerMeans, means_more, told_means, tree_means}, Given.{at_end, kernel_read}}

pub formed : (text : List ℕ) → first_fault text ≡ None → Accepted (packages_in text)
formed text e = accepted.accepted text e

module _ (text : List ℕ) (goals : List Goal) (budget limit : ℕ) (hold : Bool) where
  abbrev tree : Tree
  tree = asked_tree limit hold (home_in text) (packages_in text) goals

  yes_means : Accepted (packages_in text) → failed_leaves tree ≤ budget → (chosen : List Bool) → found_of tree ≡ Some chosen → YesMeans text goals budget limit hold (installed_text limit hold (index_in text) goals chosen)
  yes_means accepted few chosen some =
      let installs : List ℕ = installation limit hold (home_in text) (packages_in text) goals chosen in
      let served = installations_serve limit hold (home_in text) (packages_in text) goals chosen some in
      record {
        within = few;
        numbers = installs;
        reads = refl;
        once = λ other within same. sym (one_installation (packages_in text) accepted installs other (λ n i. served.1.healthy.numbers n (In_has i)) within same);
        order = served.0;
        serves = served.1;
      }

  no_means : failed_leaves tree ≤ budget → found_of tree ≡ None → NoMeans text goals budget limit hold (no_text (log_of [] tree))
  no_means few none = record {
    within = few;
    refuted = λ w. let found = found_there (home_in text) (packages_in text) limit hold goals w in let there_it_is = found.1 in cc (none, there_it_is);
    log = log_of [] tree;
    reads = refl;
    derives =
        let K = kernel limit hold (suite_repository (home_in text) (packages_in text)) in
        tree_derives (length K.clauses) (form K (images_of limit hold (home_in text) (packages_in text) goals)) tree (asked_is (home_in text) (packages_in text) limit hold goals) none;
  }

  goals_mean : (first : Option ℕ) → first_fault text ≡ None → unknown_goal (packages_in text) goals ≡ first → AnswerMeans (QueryMeans text goals budget limit hold) (by_unknown limit hold (index_in text) goals budget first)
  goals_mean (Some unknown) accepted is = tt
  goals_mean None accepted is =
      let shown : List Bool → List ℕ = installed_text limit hold (index_in text) goals in
      means_more (MeansVerdict text goals budget limit hold) (QueryMeans text goals budget limit hold) (by_tree shown budget tree)
      (λ verdict printed m. record { accepted = accepted; known = all_named (packages_in text) 1 goals is; means = m })
      (tree_means (MeansVerdict text goals budget limit hold) shown budget tree (yes_means (formed text accepted)) no_means (λ past. record { reads = refl; spent = past }))

-- the report of a query of the file at the path
pub query_is_meant : QueryIsMeant
query_is_meant path goals budget limit hold readings verdict report e =
    let first = kernel_read verdict report path limit hold (query_answer goals budget limit hold) readings e in
    let end = at_end verdict report (goals_answer goals budget limit hold (index_in first.0)) first.1 first.4 in (
      first.0,
      first.2 ∙ ap (λ rest. (path, first.0) ∷ rest) end.0,
      told_means (QueryMeans first.0 goals budget limit hold) (goals_answer goals budget limit hold (index_in first.0)) verdict report end.1
          (goals_mean first.0 goals budget limit hold (unknown_goal (packages_in first.0) goals) first.3 refl),
    )
