-- The answer on goals, from the outcome of the search.
use Rattle.std.{proofs.Common.{◌≡◌, ℕ, ◌<◌, Bool, List, [], length, filter, sym, ap, subst, ◌∙◌}, specs.List.{range_with_len}}
use Rattle.clause_pool.specs.Interned.{Interned}
use Rattle.clause_solver.{specs.Outcomes.{IsOutcomeOf, IsSearchOutcome, IsCertified}, specs.declared.outcomes.Outcome.{Outcome}, specs.declared.outcomes.Outcome.TheVariants.{Found, Refuted}}
use Rattle.install_lift.{specs.Lifting.{lift_of}, specs.Trimming.{trim_of}}
use Rattle.kernel_rounds.specs.declared.extraction.Kernel.{Kernel}
use Rattle.relation_fields.{specs.declared.packages.Home.{Home}, specs.declared.packages.PackageFacts.{PackageFacts}}
use Rattle.repo_model.{specs.Goals.{packages_named}, specs.Repository.{suite_repository}, specs.declared.goals.Goal.{Goal}, proofs.Packages.{length_clauses}}
use Rattle.row_book.{specs.Book.{repository_of}, specs.Flags.{flag}, specs.Needs.{NeedsFit}, specs.Repository.{Repository}, specs.Rounds.{kernel, kernel_steps}, specs.Sets.{HitsAll}, specs.Trail.{trail_meaning}, specs.declared.book.Book.{Book}, proofs.BookRepositories.{book_size}}
use Rattle.listed.{specs.Lists.{In, has}, proofs.Lists.{In_map_cases}}
use Rattle.search_terms.{specs.declared.literals.Log.{Log}, specs.Form.{form}, proofs.Found.{one_tree}}
use Rattle.suite_compare.{specs.Asking.{asked_tree, images_of, installation, wanted_by}, specs.Answering.{true_numbers, HasCertificate, IsYes, Serves}, specs.declared.answers.Answer.TheVariants.{No}, specs.Views.{IsViewOf}, proofs.Deciding.{asked_is, images_fit, named_within, to_classes}, proofs.Installed.{installations_serve, lift_hits}}

module _ (pool : Interned) (home : Home) (stanzas : List PackageFacts) (book : Book) (made : Kernel) (limit : ℕ) (view : IsViewOf pool home stanzas book made limit) where
  abbrev R : Repository
  R = suite_repository home stanzas

  abbrev B : Repository
  B = repository_of pool book

  abbrev K : Repository
  K = repository_of pool made.book

  -- the book has a row for each package, and the kernel's book one for each class
  pub book_long : length book.rows ≡ length stanzas
  book_long = sym (book_size pool book) ∙ ap (λ S. length S.clauses) view.book_is.repository ∙ length_clauses home stanzas

  kernel_long : length (kernel limit made.hold R).clauses ≡ length made.book.rows
  kernel_long = ap (λ S. length S.clauses) (sym view.kernel_is.book.repository) ∙ book_size pool made.book

  -- for goals, with their packages and their classes
  module _ (goals : List Goal) (wanted classes : List (List ℕ)) (wanted_is : wanted ≡ wanted_by stanzas goals) (classes_are : classes ≡ images_of limit made.hold home stanzas goals) where
    pub classes_fit : NeedsFit (length made.book.rows) classes
    classes_fit = subst (λ n. NeedsFit n classes) kernel_long (subst (NeedsFit (length (kernel limit made.hold R).clauses)) (sym classes_are) (images_fit home stanzas limit made.hold goals))

    -- the outcome is that of the tree of the goals
    pub outcome_is : (budget : ℕ) (outcome : Outcome) → IsSearchOutcome K classes budget outcome → IsOutcomeOf budget (asked_tree limit made.hold home stanzas goals) outcome
    outcome_is budget outcome o =
        let own : IsSearchOutcome (kernel limit made.hold R) (images_of limit made.hold home stanzas goals) budget outcome =
        subst (λ S. IsSearchOutcome S (images_of limit made.hold home stanzas goals) budget outcome) view.kernel_is.book.repository (subst (λ cs. IsSearchOutcome K cs budget outcome) classes_are o) in
        subst (λ tree. IsOutcomeOf budget tree outcome)
        (sym (one_tree (length (kernel limit made.hold R).clauses) (form (kernel limit made.hold R) (images_of limit made.hold home stanzas goals)) [] own.0 (asked_tree limit made.hold home stanzas goals) own.1 (asked_is home stanzas limit made.hold goals))) own.2

    pub wanted_fit : NeedsFit (length book.rows) wanted
    wanted_fit c i n j =
        let g = In_map_cases (packages_named stanzas) goals c (subst (λ cs. In c cs) wanted_is i) in
        subst (λ size. n < size) (length_clauses home stanzas ∙ sym book_long) (named_within home stanzas g.0 n (subst (λ ns. In n ns) g.2 j))

    -- what is taken back from classes that the tree finds hits the goals
    pub wanted_hit : (budget : ℕ) (chosen : List Bool) → IsSearchOutcome K classes budget (Found chosen) → HitsAll (lift_of (trail_meaning pool made.trail.steps) (flag chosen)) wanted
    wanted_hit budget chosen o =
        subst (HitsAll (lift_of (trail_meaning pool made.trail.steps) (flag chosen))) (sym wanted_is) (subst (λ steps. HitsAll (lift_of steps (flag chosen)) (wanted_by stanzas goals)) (sym view.kernel_is.steps)
        (lift_hits limit made.hold home stanzas goals chosen (outcome_is budget (Found chosen) o).0))

    pub yes_is : (budget : ℕ) (chosen : List Bool) (install numbers : List ℕ) → IsSearchOutcome K classes budget (Found chosen) → numbers ≡ true_numbers chosen →
        install ≡ filter (trim_of B wanted (lift_of (trail_meaning pool made.trail.steps) (flag chosen))) (range_with_len 0 (length book.rows)) → IsYes limit made.hold home stanzas goals budget install numbers
    unfolding installation
    yes_is budget chosen install numbers o classed installed =
        let own = outcome_is budget (Found chosen) o in
        record {
          chosen = chosen;
          found = own.0;
          within = own.1;
          true_classes = classed;
          installed = installed
              ∙ ap (λ steps. filter (trim_of B wanted (lift_of steps (flag chosen))) (range_with_len 0 (length book.rows))) view.kernel_is.steps
              ∙ ap (λ S. filter (trim_of S wanted (lift_of (kernel_steps limit made.hold R) (flag chosen))) (range_with_len 0 (length book.rows))) view.book_is.repository
              ∙ ap (λ w. filter (trim_of R w (lift_of (kernel_steps limit made.hold R) (flag chosen))) (range_with_len 0 (length book.rows))) wanted_is
              ∙ ap (λ n. filter (trim_of R (wanted_by stanzas goals) (lift_of (kernel_steps limit made.hold R) (flag chosen))) (range_with_len 0 n)) book_long;
        }

    pub yes_serves : (budget : ℕ) (install numbers : List ℕ) → IsYes limit made.hold home stanzas goals budget install numbers → Serves home stanzas goals (has install)
    yes_serves budget install numbers so = subst (λ I. Serves home stanzas goals (has I)) (sym so.installed) (installations_serve limit made.hold home stanzas goals so.chosen so.found).1

    pub no_certified : (log : Log) → IsCertified K classes (Refuted log) → HasCertificate limit made.hold home stanzas goals (No log)
    no_certified log w =
        let own : IsCertified (kernel limit made.hold R) (images_of limit made.hold home stanzas goals) (Refuted log) =
        subst (λ S. IsCertified S (images_of limit made.hold home stanzas goals) (Refuted log)) view.kernel_is.book.repository (subst (λ cs. IsCertified K cs (Refuted log)) classes_are w) in
        (own.0, own.1, λ coinst. let found = to_classes limit made.hold home stanzas goals coinst in own.2 found.0 found.1 found.2)
