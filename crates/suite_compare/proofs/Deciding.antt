-- The kernel of an index decides for goals.
use Rattle.std.{proofs.Common.{◌≡◌, ℕ, ◌≤◌, Bool, List, refl, sym, subst, inl, inr, Some}, specs.Prelude.{ltb}, proofs.lemmas.Bool.{cases_Bool, ltb-true, ltb-false}}
use Rattle.listed.{proofs.Bools.{cases_Option}, specs.Lists.{In}, proofs.Lists.{In_map_cases}}
use Rattle.row_book.{specs.Repository.{Repository, Healthy, Coinst}, specs.Rounds.{kernel, kernel_class, kernel_image}, specs.Sets.{Is}}
use Rattle.kernel_rounds.proofs.Reached.{image_is_of_classes_lem, kernel_keeps_lem}
use Rattle.relation_fields.{specs.declared.packages.Home.{Home}, specs.declared.packages.PackageFacts.{PackageFacts}}
use Rattle.repo_model.{specs.Goals.{CoinstGoals, HasOneFor, packages_named}, specs.Repository.{suite_repository}, specs.declared.goals.Goal.{Goal}, proofs.Healthy.{healthy_same}}
use Rattle.search_terms.{specs.Tree.{failed_leaves, found_of}, proofs.Found.{finds_healthy}}
use Rattle.suite_compare.{specs.Asking.{asked_tree, image_of, images_of}, specs.Laws.{CoinstImages, KernelDecides, VerdictIsJudged}, proofs.SuiteKernels.{classes_from}, proofs.Ranged.{asked_range, sound}, proofs.Installed.{I, set_healthy, set_serves}}
pub use Rattle.suite_compare.proofs.Ranged.{asked_is, images_fit, named_from, named_parts, named_within}

module _ (limit : ℕ) (hold : Bool) (home : Home) (stanzas : List PackageFacts) (goals : List Goal) where
  abbrev R : Repository
  R = suite_repository home stanzas

  -- from a healthy set of stanzas: its image is within a healthy set of classes, which has a class of each goal
  pub to_classes : CoinstGoals home stanzas goals → CoinstImages limit hold home stanzas goals
  to_classes w =
      let own : Healthy R w.whole = (healthy_same home stanzas w.whole).0 w.healthy in
      let whole : Coinst R w.whole = record { whole = w.whole; healthy = own; contains = λ n t. t } in
      let image : Coinst (kernel limit hold R) (kernel_image limit hold R w.whole) = (kernel_keeps_lem limit hold R (sound home stanzas) w.whole own.packages).0 whole in (
        image.whole,
        image.healthy,
        (λ c i.
            let g = In_map_cases (image_of limit hold home stanzas) goals c i in
            let one : HasOneFor stanzas w.whole g.0 = w.serves g.0 g.1 in
            let inside : In one.by (packages_named stanzas g.0) = named_from home stanzas g.0 one.by (w.healthy.numbers one.by one.member) one.named in
            let class : Is (kernel_image limit hold R w.whole) (kernel_class limit hold R one.by) = (image_is_of_classes_lem limit hold R (sound home stanzas) w.whole own.packages (kernel_class limit hold R one.by)).1
            record { by = one.by; within = named_within home stanzas g.0 one.by inside; inside = one.member; class = refl } in
            record {
              by = kernel_class limit hold R one.by;
              inside = subst (λ c. In (kernel_class limit hold R one.by) c) (sym g.2) (classes_from limit hold R (sound home stanzas) (packages_named stanzas g.0) (named_within home stanzas g.0) one.by inside);
              alive = image.contains (kernel_class limit hold R one.by) class;
            }),
      )

  -- the tree of the goals finds something exactly where the kernel has their classes
  finds : CoinstImages limit hold home stanzas goals → (chosen : List Bool) × (found_of (asked_tree limit hold home stanzas goals) ≡ Some chosen)
  finds = (finds_healthy (kernel limit hold R) (images_of limit hold home stanzas goals) (asked_tree limit hold home stanzas goals) (asked_range home stanzas limit hold goals) (asked_is home stanzas limit hold goals)).0

  -- and what is installed then serves the goals
  found_coinst : (chosen : List Bool) → found_of (asked_tree limit hold home stanzas goals) ≡ Some chosen → CoinstGoals home stanzas goals
  found_coinst chosen e = record { whole = I limit hold home stanzas goals chosen e; healthy = set_healthy limit hold home stanzas goals chosen e; serves = set_serves limit hold home stanzas goals chosen e }

  from_classes : CoinstImages limit hold home stanzas goals → CoinstGoals home stanzas goals
  from_classes w = let found = finds w in found_coinst found.0 found.1

pub found_there : (home : Home) (stanzas : List PackageFacts) (limit : ℕ) (hold : Bool) (goals : List Goal) → CoinstGoals home stanzas goals → (chosen : List Bool) × (found_of (asked_tree limit hold home stanzas goals) ≡ Some chosen)
found_there home stanzas limit hold goals w = finds limit hold home stanzas goals (to_classes limit hold home stanzas goals w)

pub kernel_decides : KernelDecides
kernel_decides limit hold home stanzas goals = (to_classes limit hold home stanzas goals, from_classes limit hold home stanzas goals)

pub verdict_is_judged : VerdictIsJudged
verdict_is_judged limit hold home stanzas budget goals = elim (cases_Bool (ltb budget (failed_leaves (asked_tree limit hold home stanzas goals)))) [
  | inl t ↦ rw t (ltb-true budget (failed_leaves (asked_tree limit hold home stanzas goals)) t)
  | inr n ↦
      let few : failed_leaves (asked_tree limit hold home stanzas goals) ≤ budget = ltb-false budget (failed_leaves (asked_tree limit hold home stanzas goals)) n in
      rw n (elim (cases_Option (found_of (asked_tree limit hold home stanzas goals))) [
        | inr some ↦ rw some.1 (few, found_coinst limit hold home stanzas goals some.0 some.1)
        | inl none ↦ rw none (few, (λ w. let found = found_there home stanzas limit hold goals w in let e = found.1 in absurd (cc (none, e))))
      ])
]
