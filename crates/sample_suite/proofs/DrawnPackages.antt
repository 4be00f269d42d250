-- What holds of the packages that are drawn.
use Rattle.std.proofs.Common.{◌≡◌, ◌<◌, ◌≤◌, ◌+◌, ◌/◌, ◌==◌, ℕ, Bool, true, false, cond, List, length, Option, Some, None, arith}
use Rattle.std.specs.{Prelude.{⊤}, List.{AllByRecursion}}
use Rattle.sample_suite.specs.declared.package.SamplePackage.{SamplePackage}
use Rattle.sample_suite.specs.Drawing.{draw, draw_element, draw_needs, draw_package, draw_conflict, no_conflict, sample_packages, some_conflict}
use Rattle.sample_suite.proofs.DrawSteps.{draw_below, draws_all, length-draws}

-- one or two alternatives, each a package of the suite
pub record IsElement (count : ℕ) (alternatives : List ℕ) : Type 0 where
  pub inside : AllByRecursion (λ number. number < count) alternatives
  pub some : 1 ≤ length alternatives
  pub few : length alternatives ≤ 2

abbrev pub IsConflict : ℕ → Option ℕ → Type 0
IsConflict count None = ⊤
IsConflict count (Some conflict) = conflict < count

-- at most two elements, and a conflict with a package of the suite
pub record IsPackage (count : ℕ) (p : SamplePackage) : Type 0 where
  pub elements : AllByRecursion (IsElement count) p.needs
  pub few : length p.needs ≤ 2
  pub conflict : IsConflict count p.conflict

element_drawn : (count s : ℕ) → 0 < count → IsElement count (draw_element count s).value
element_drawn count s some =
    let more = draw 2 s in
    let long = length-draws (draw count) (more.value + 1) more.state in
    let low = draw_below 2 s (omega arith) in
    record {
      inside = draws_all (λ number. number < count) (draw count) (λ t. draw_below count t some) (more.value + 1) more.state;
      some = omega (arith, long);
      few = omega (arith, long, low);
    }

conflict_drawn : (count s : ℕ) → 0 < count → IsConflict count (draw_conflict count s).value
conflict_drawn count s some = go ((draw 4 s).value == 0)
  where
    go : (b : Bool) → IsConflict count (cond b (some_conflict (draw count (draw 4 s).state)) (no_conflict (draw 4 s).state)).value
    go true = draw_below count (draw 4 s).state some
    go false = tt

package_drawn : (count s : ℕ) → 0 < count → IsPackage count (draw_package count s).value
package_drawn count s some =
    let chance = draw 5 s in
    let long = length-draws (draw_element count) (chance.value / 2) chance.state in
    let low = draw_below 5 s (omega arith) in
    record {
      elements = draws_all (IsElement count) (draw_element count) (λ t. element_drawn count t some) (chance.value / 2) chance.state;
      few = omega (arith, long, low);
      conflict = conflict_drawn count (draw_needs count s).state some;
    }

-- all packages of a sample suite are so
pub packages_drawn : (seed count : ℕ) → 0 < count → AllByRecursion (IsPackage count) (sample_packages seed count)
packages_drawn seed count some = draws_all (IsPackage count) (draw_package count) (λ t. package_drawn count t some) count seed

pub length-sample_packages : (seed count : ℕ) → length (sample_packages seed count) ≡ count
length-sample_packages seed count = length-draws (draw_package count) count seed
