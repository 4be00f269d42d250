-- What is installed for goals is healthy, and has a package for each of them.
use Rattle.std.{proofs.Common.{◌≡◌, ℕ, Bool, List, length, filter, refl, sym, subst, arith, Some}, proofs.Math.Path.{fun_ext}}
use Rattle.install_lift.{specs.Lifting.{lift_of}, specs.Laws.{HoldsMembers}, specs.Trimming.{IsHealthyPart}, proofs.Computed.{lift_is_of, trim_is_of}, proofs.Lifted.{lift_is_healthy}, proofs.Trimmed.{trim_is_healthy}}
use Rattle.relation_fields.{specs.declared.packages.Home.{Home}, specs.declared.packages.PackageFacts.{PackageFacts}}
use Rattle.repo_model.{specs.Goals.{HasOneFor, packages_named}, specs.Repository.{packages_of, suite_repository}, specs.Stanzas.{HealthyStanzas}, specs.declared.goals.Goal.{Goal}, proofs.Elements.{range_ascending, range_from}, proofs.Healthy.{healthy_same}}
use Rattle.listed.{proofs.Bools.{same_bool}, specs.Lists.{In, has}, proofs.Lists.{In_has, In_map, In_map_cases, filter_cases, filter_from, has_In}, proofs.Orders.{ascending_filter}}
use Rattle.row_book.{specs.Flags.{flag}, specs.Repository.{Repository, Healthy}, specs.Rounds.{kernel, kernel_steps}, specs.Sets.{Hit, HitsAll, Is, NumSet}}
use Rattle.search_terms.{specs.Laws.{Solves}, specs.Tree.{found_of}, proofs.Found.{finds_healthy}}
use Rattle.suite_compare.{specs.Asking.{asked_tree, image_of, images_of, installation, installed, wanted_by}, proofs.Ranged.{asked_is, asked_range, named_parts, named_within, sound}, proofs.SuiteKernels.{classes_parts}, specs.Answering.{Serves}, specs.Laws.{InstallationsServe}}

-- a set of numbers that are kept is that of the test
pub kept : (n : ℕ) (I : NumSet) (xs : List ℕ) → ((m : ℕ) → Is I m → In m xs) → has (filter I xs) n ≡ I n
kept n I xs all = same_bool (has (filter I xs) n) (I n) (λ h. (filter_cases I xs n (has_In (filter I xs) n h)).1) (λ h. In_has (filter_from I xs n (all n h) h))

module _ (limit : ℕ) (hold : Bool) (home : Home) (stanzas : List PackageFacts) (goals : List Goal) (chosen : List Bool) (found : found_of (asked_tree limit hold home stanzas goals) ≡ Some chosen) where
  abbrev R : Repository
  R = suite_repository home stanzas

  solves : Solves (kernel limit hold R) (images_of limit hold home stanzas goals) (flag chosen)
  solves = (finds_healthy (kernel limit hold R) (images_of limit hold home stanzas goals) (asked_tree limit hold home stanzas goals) (asked_range home stanzas limit hold goals) (asked_is home stanzas limit hold goals)).1 chosen found

  abbrev lifted : NumSet
  lifted = lift_of (kernel_steps limit hold R) (flag chosen)

  lifts : Healthy R lifted × HoldsMembers limit hold R (flag chosen) lifted
  lifts = lift_is_healthy limit hold R (flag chosen) lifted (sound home stanzas) solves.0 ((lift_is_of (kernel_steps limit hold R) (flag chosen) lifted).1 refl)

  -- the lifted set has a package for each goal
  pub lift_hits : HitsAll lifted (wanted_by stanzas goals)
  lift_hits c i =
      let g = In_map_cases (packages_named stanzas) goals c i in
      let hit : Hit (Is (flag chosen)) (image_of limit hold home stanzas g.0) = solves.1 (image_of limit hold home stanzas g.0) (In_map (image_of limit hold home stanzas) goals g.0 g.1) in
      let one = classes_parts limit hold R (sound home stanzas) (packages_named stanzas g.0) (named_within home stanzas g.0) hit.by hit.inside in
      record {
        by = one.0;
        inside = subst (λ d. In one.0 d) (sym g.2) one.1;
        alive = lifts.1 one.0 (named_within home stanzas g.0 one.0 one.1) (subst (Is (flag chosen)) (sym one.2) hit.alive);
      }

  abbrev pub I : NumSet
  I = installed limit hold home stanzas goals chosen

  part : IsHealthyPart R (wanted_by stanzas goals) lifted I
  part = trim_is_healthy R (wanted_by stanzas goals) lifted I lifts.0 lift_hits ((trim_is_of R (wanted_by stanzas goals) lifted I lifts.0 lift_hits).1 refl)

  pub set_healthy : HealthyStanzas home stanzas I
  set_healthy = (healthy_same home stanzas I).1 part.healthy

  pub set_serves : (goal : Goal) → In goal goals → HasOneFor stanzas I goal
  set_serves goal i =
      let hit : Hit (Is I) (packages_named stanzas goal) = part.hits (packages_named stanzas goal) (In_map (packages_named stanzas) goals goal i) in
      record { by = hit.by; member = hit.alive; named = named_parts home stanzas goal hit.by hit.inside }

  numbers_same : has (installation limit hold home stanzas goals chosen) ≡ I
  unfolding installation
  numbers_same = fun_ext (λ n. kept n I (packages_of stanzas) (λ m h. range_from (length stanzas) 0 m (omega arith) (let l = set_healthy.numbers m h in omega (arith, l))))

pub installations_serve : InstallationsServe
unfolding installation
installations_serve limit hold home stanzas goals chosen found = (
  ascending_filter (I limit hold home stanzas goals chosen found) (packages_of stanzas) (range_ascending (length stanzas) 0),
  subst (Serves home stanzas goals) (sym (numbers_same limit hold home stanzas goals chosen found))
      record { healthy = set_healthy limit hold home stanzas goals chosen found; each = set_serves limit hold home stanzas goals chosen found },
)
