-- An explanation, over a view of the suite.
use Rattle.std.proofs.{Common.{Bool, ◌≡◌, ℕ, List, length, Option, sym, ap, ◌∙◌, subst, arith}, lemmas.List.{length-map}}
use Rattle.std.specs.{List.{range_with_len}, Option.{option_map}}
use Rattle.clause_pool.specs.Interned.{Interned}
use Rattle.clause_solver.specs.declared.outcomes.Verdict.TheVariants as verdict
use Rattle.kernel_rounds.specs.declared.extraction.Kernel.{Kernel}
use Rattle.relation_fields.specs.{declared.packages.Home.{Home}, declared.packages.PackageFacts.{PackageFacts}}
use Rattle.repo_model.specs.{Goals.{packages_named}, Repository.{suite_repository}, declared.goals.Goal.{Goal}}
use Rattle.repo_model.proofs.Elements.{range_cases}
use Rattle.row_book.specs.{Book.{repository_of}, Needs.{NeedsFit}, declared.book.Book.{Book}}
use Rattle.listed.specs.Lists.{In}
use Rattle.row_book.proofs.BookRepositories.{book_size}
use Rattle.listed.proofs.Lists.{In_map_cases}
use Rattle.suite_compare.specs.{Asking.{verdict_in, wanted_by}, Views.{IsViewOf}}
use Rattle.explain_core.specs.Core.{goal_core, mark, marked_goals, marks_of, verdict_on}
use Rattle.explain_core.specs.{Explaining.{clashes_for, core_explained, explained_by, explanation_of}, Picking.{picked, ArePlacesFrom1}}
use Rattle.explain_core.specs.{Reasons.{clashes_of, reasons_of}, declared.explanation.Clash.{Clash}, declared.explanation.Mark.{Mark}}
use Rattle.explain_core.specs.declared.explanation.Explanation.TheVariants.{Core}
use Rattle.explain_core.proofs.{Deleted.{kept_all}, Explained.{wanted_fits}, Told.{picked_numbered}}

-- the marks of the core are numbers of goals
pub core_places : (limit : ℕ) (hold : Bool) (home : Home) (stanzas : List PackageFacts) (budget : ℕ) (goals : List Goal) (marks : List Mark) → marks ≡ marks_of (goal_core limit hold home stanzas budget goals) → ArePlacesFrom1 (length goals) marks
core_places limit hold home stanzas budget goals marks are m i =
    let w = In_map_cases mark (goal_core limit hold home stanzas budget goals) m (subst (λ l. In m l) are i) in
    let inside = range_cases (length goals) 1 w.0.item (kept_all (verdict_on limit hold home stanzas budget goals) (range_with_len 1 (length goals)) w.0 w.1) in
    let same : m.goal ≡ w.0.item = ap (λ z. z.goal) w.2 in
    (omega (arith, inside.0, same), omega (arith, inside.1, same))

module _ (pool : Interned) (home : Home) (stanzas : List PackageFacts) (book : Book) (made : Kernel) (limit : ℕ) (view : IsViewOf pool home stanzas book made limit) (budget : ℕ) (goals : List Goal) (wanted : List (List ℕ)) (are : wanted ≡ wanted_by stanzas goals) where
  pub wanted_long : length wanted ≡ length goals
  wanted_long = ap length are ∙ length-map goals (packages_named stanzas)

  module _ (marks : List Mark) (marked : marks ≡ marks_of (goal_core limit made.hold home stanzas budget goals)) (lent : List Mark) (is : lent ≡ marks) (core : List (List ℕ)) (picks : core ≡ picked wanted lent) where
    -- the packages of the marked goals
    core_is : core ≡ wanted_by stanzas (marked_goals goals marks)
    core_is = picks ∙ ap (picked wanted) is ∙ ap (λ w. picked w marks) are ∙ picked_numbered (packages_named stanzas) goals marks (core_places limit made.hold home stanzas budget goals marks marked)

    pub core_fits : NeedsFit (length book.rows) core
    core_fits = subst (λ n. NeedsFit n core) (ap (λ S. length S.clauses) (sym view.book_is.repository) ∙ book_size pool book) (subst (NeedsFit (length (suite_repository home stanzas).clauses)) (sym core_is) (wanted_fits home stanzas (marked_goals goals marks)))

    pub core_told : (clashes : Option (List Clash)) → clashes ≡ option_map clashes_of (reasons_of (repository_of pool book) budget core) → verdict.No ≡ verdict_in limit made.hold home stanzas budget goals →
        Core marks clashes ≡ explanation_of limit made.hold home stanzas budget goals
    core_told clashes told refused =
        let reasons : clashes ≡ clashes_for home stanzas budget goals marks =
        told ∙ ap (λ S. option_map clashes_of (reasons_of S budget core)) view.book_is.repository ∙ ap (λ w. option_map clashes_of (reasons_of (suite_repository home stanzas) budget w)) core_is in
        ap (Core marks) reasons ∙ ap (core_explained home stanzas budget goals) marked ∙ ap (explained_by limit made.hold home stanzas budget goals) refused
