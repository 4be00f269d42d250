-- What the reported states mean on the stanzas.
use Rattle.std.proofs.{Common.{◌≡◌, ℕ, ◌↔◌, Bool, true, List, [], length, map, get_or, refl, ap, sym, ◌∙◌, subst}, lemmas.Bool.{both_ways}}
use Rattle.std.proofs.lemmas.List.{length-map}
use Rattle.clause_pool.specs.Interned.{Interned}
use Rattle.clause_solver.specs.{declared.outcomes.Verdict.{Verdict}, declared.outcomes.Verdict.TheVariants.{Yes, No, Spent}}
use Rattle.kernel_rounds.specs.declared.extraction.Kernel.{Kernel}
use Rattle.relation_fields.specs.{declared.packages.Home.{Home}, declared.packages.PackageFacts.{PackageFacts}}
use Rattle.repo_model.specs.{Repository.{suite_repository}, Stanzas.{HealthyStanzas}, declared.goals.Goal.{Goal}}
use Rattle.repo_model.proofs.{Healthy.{healthy_same}, Packages.{length_clauses}}
use Rattle.row_book.specs.{Book.{repository_of}, Flags.{flag}, Health.{IsFirstFault}, declared.health.Unhealthy.{Unhealthy}}
use Rattle.row_book.specs.{Repository.{Repository, Healthy, clauses_of}, Rounds.{kernel}, Sets.{NumSet}, declared.book.Book.{Book}}
use Rattle.row_book.proofs.BookRepositories.{book_size}
use Rattle.listed.proofs.Lists.{In_at}
use Rattle.suite_compare.specs.{Asking.{images_of, verdict_in, HasVerdict}, Kinds.{kernel_verdict}, Views.{IsViewOf}}
use Rattle.suite_compare.proofs.Deciding.{verdict_is_judged}
use Rattle.status_check.specs.{Report.{all_of, state_of, HoldsInIndex, IsStateOf}, declared.report.OwnState.{OwnState}}
use Rattle.status_check.specs.declared.report.OwnState.TheVariants as own
use Rattle.status_check.specs.declared.report.SuiteState.{SuiteState}

-- the book of packages has a row for each of them, and so has a row of flags
pub flags_long : (pool : Interned) (book : Book) (home : Home) (packages : List PackageFacts) (flags : List Bool) → repository_of pool book ≡ suite_repository home packages → flags ≡ map (λ facts. true) packages
    → length flags ≡ length book.rows
flags_long pool book home packages flags is up =
    ap length up ∙ length-map packages (λ facts. true) ∙ sym (sym (book_size pool book) ∙ ap (λ S. length S.clauses) is ∙ length_clauses home packages)

-- what is found of the book's set of all packages is their state
pub healthy_state : (pool : Interned) (book : Book) (home : Home) (packages : List PackageFacts) (flags : List Bool) → repository_of pool book ≡ suite_repository home packages → flags ≡ map (λ facts. true) packages
    → Healthy (repository_of pool book) (flag flags) → Healthy (suite_repository home packages) (all_of packages)
healthy_state pool book home packages flags is up h = subst (λ fs. Healthy (suite_repository home packages) (flag fs)) up (subst (λ R. Healthy R (flag flags)) is h)

pub fault_state : (pool : Interned) (book : Book) (home : Home) (packages : List PackageFacts) (flags : List Bool) (fault : Unhealthy) → repository_of pool book ≡ suite_repository home packages → flags ≡ map (λ facts. true) packages
    → IsFirstFault (repository_of pool book) (flag flags) fault → IsFirstFault (suite_repository home packages) (all_of packages) fault
fault_state pool book home packages flags fault is up h = subst (λ fs. IsFirstFault (suite_repository home packages) (flag fs) fault) up (subst (λ R. IsFirstFault R (flag flags) fault) is h)

-- a healthy set has no other state
only_healthy : (R : Repository) (I : NumSet) (state : OwnState) → Healthy R I → IsStateOf R I state → state ≡ own.Healthy
only_healthy R I own.Healthy healthy is = refl
only_healthy R I (own.Unhit number) healthy is =
    let unhit = is.1.clause in
    absurd (unhit.unhit (healthy.abundance number is.1.chosen (get_or (clauses_of R number) is.0 []) (In_at (clauses_of R number) is.0 [] unhit.within)))
only_healthy R I (own.Clash first second) healthy is =
    let clash = is.clash.clash in
    absurd (both_ways _ (healthy.peace first second clash.first clash.second) clash.conflict)

-- the own packages are healthy, judged on the stanzas, exactly where it is told
pub told_healthy : (home : Home) (packages : List PackageFacts) (state : OwnState) → IsStateOf (suite_repository home packages) (all_of packages) state
    → (state ≡ own.Healthy) ↔ HealthyStanzas home packages (all_of packages)
told_healthy home packages state is = (
  (λ e. (healthy_same home packages (all_of packages)).1 (subst (IsStateOf (suite_repository home packages) (all_of packages)) e is)),
  (λ h. only_healthy (suite_repository home packages) (all_of packages) state ((healthy_same home packages (all_of packages)).0 h) is),
)

-- a state is told of equal packages
pub state_moved : (home there : Home) (packages all : List PackageFacts) (state : OwnState) → home ≡ there → packages ≡ all → IsStateOf (suite_repository home packages) (all_of packages) state
    → IsStateOf (suite_repository there all) (all_of all) state
state_moved home there packages all state moved same is =
    subst (λ xs. IsStateOf (suite_repository there xs) (all_of xs) state) same (subst (λ h. IsStateOf (suite_repository h packages) (all_of packages) state) moved is)

-- a yes and a no are judged on the stanzas
judged_by : (limit : ℕ) (hold : Bool) (home : Home) (stanzas : List PackageFacts) (budget : ℕ) (goals : List Goal) (v : Verdict) → HasVerdict limit hold home stanzas budget goals v → HoldsInIndex home stanzas goals (state_of budget v)
judged_by limit hold home stanzas budget goals Yes h = h.1
judged_by limit hold home stanzas budget goals No h = h.1
judged_by limit hold home stanzas budget goals Spent h = tt

pub judged : (limit : ℕ) (hold : Bool) (home : Home) (stanzas : List PackageFacts) (budget : ℕ) (goals : List Goal) (state : SuiteState) → state ≡ state_of budget (verdict_in limit hold home stanzas budget goals) → HoldsInIndex home stanzas goals state
judged limit hold home stanzas budget goals state is =
    subst (HoldsInIndex home stanzas goals) (sym is) (judged_by limit hold home stanzas budget goals (verdict_in limit hold home stanzas budget goals) (verdict_is_judged limit hold home stanzas budget goals))

-- the verdict of a view's kernel is that of its suite
pub verdict_of_view : (pool : Interned) (home : Home) (stanzas : List PackageFacts) (book : Book) (made : Kernel) (limit budget : ℕ) (goals : List Goal) (classes : List (List ℕ)) → IsViewOf pool home stanzas book made limit
    → classes ≡ images_of limit made.hold home stanzas goals → kernel_verdict (repository_of pool made.book) budget classes ≡ verdict_in limit made.hold home stanzas budget goals
verdict_of_view pool home stanzas book made limit budget goals classes view are =
    ap (λ K. kernel_verdict K budget classes) view.kernel_is.book.repository ∙ ap (kernel_verdict (kernel limit made.hold (suite_repository home stanzas)) budget) are
