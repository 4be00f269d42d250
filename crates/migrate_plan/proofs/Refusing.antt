-- Refusals, one after another.
use Rattle.std.proofs.{Common.{◌≡◌, ℕ, ◌≤◌, Bool, true, false, List, Option, Some, None, ap, ◌∙◌, refl, arith}, lemmas.Bool.Decides.{nat_tests}}
use Rattle.std.specs.{Prelude.{if◌then◌else◌, length, nat_lt}, Option.{option_or}}
use Rattle.repo_model.specs.Limits.{most_bytes, most_packages}
use Rattle.relation_fields.specs.declared.packages.Home.{Home}
use Rattle.suite_compare.specs.Refusals.{home_in, packages_in}
use Rattle.migrate_plan.specs.Differing.{differing}
use Rattle.migrate_plan.specs.Refusals.{above, are_apart, bytes_with, homes_refusal, packages_with, plan_refusal, RefusesPlan, UnlessOutOfMemory}
use Rattle.migrate_plan.specs.{declared.refusals.PlanError.{PlanError}, declared.refusals.PlanError.TheVariants.{Homes, Names, Packages, TooLong, Memory}}
use Rattle.migrate_plan.proofs.Shifted.{none_parts}

pub for_same : (error : PlanError) {P Q : Type 0} → (P → Q) → UnlessOutOfMemory error P → UnlessOutOfMemory error Q
for_same Homes step h = step h
for_same (Names count) step h = step h
for_same (Packages count) step h = step h
for_same (TooLong count) step h = step h
for_same Memory step h = tt

-- a refusal is named where it comes first, and behind one that is not there
pub refuses_first : (error : PlanError) (there more : Option PlanError) → RefusesPlan error there → RefusesPlan error (option_or there more)
refuses_first error there more = for_same error (ap (λ found. option_or found more))

pub refuses_behind : (error : PlanError) (there more : Option PlanError) → there ≡ None → RefusesPlan error more → RefusesPlan error (option_or there more)
refuses_behind error there more none = for_same error (λ h. ap (λ found. option_or found more) none ∙ h)

pub none_both : (there more : Option PlanError) → there ≡ None → more ≡ None → option_or there more ≡ None
none_both there more none h = ap (λ found. option_or found more) none ∙ h

pub within_most : (most count : ℕ) (refusal : ℕ → PlanError) → above most refusal count ≡ None → count ≤ most
within_most most count refusal e = by (nat_lt most count) refl e
  where
    by : (b : Bool) → nat_lt most count ≡ b → (if b then Some (refusal count) else None) ≡ None → count ≤ most
    by true is h = absurd (let never : ⊥ = cc in never)
    by false is h = grind (arith, nat_tests, is)

homes_fine : (old new : Home) → homes_refusal old new ≡ None → are_apart old.name new.name ≡ false
homes_fine old new e = by (are_apart old.name new.name) e
  where
    by : (b : Bool) → (if b then Some Homes else None) ≡ None → b ≡ false
    by true h = absurd (let never : ⊥ = cc in never)
    by false h = refl

-- no refusal comes
pub record IsFree (old new : List ℕ) : Type 0 where
  pub homes : are_apart (home_in old).name (home_in new).name ≡ false
  pub packages : packages_with (packages_in old) (packages_in new) (differing (packages_in old) (packages_in new)) ≤ most_packages
  pub bytes : bytes_with old new ≤ most_bytes

pub is_free : (old new : List ℕ) → plan_refusal old new ≡ None → IsFree old new
unfolding plan_refusal
is_free old new e =
    let names = differing (packages_in old) (packages_in new) in
    let count = packages_with (packages_in old) (packages_in new) names in
    let long : Option PlanError = above most_bytes TooLong (bytes_with old new) in
    let one = none_parts (homes_refusal (home_in old) (home_in new)) _ e in
    let two = none_parts (above 256 Names (length names)) (option_or (above most_packages Packages count) long) one.1 in
    let three = none_parts (above most_packages Packages count) long two.1 in
    record {
      homes = homes_fine (home_in old) (home_in new) one.0;
      packages = within_most most_packages count Packages three.0;
      bytes = within_most most_bytes (bytes_with old new) TooLong three.1;
    }
