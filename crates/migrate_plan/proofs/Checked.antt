-- The refusals of a plan, by what was read of the two indexes.
use Rattle.std.proofs.Common.{◌≡◌, ℕ, ◌+◌, List, Option, None, length, ap, ap₂, ◌∙◌, subst}
use Rattle.std.specs.Option.{option_or}
use Rattle.relation_fields.specs.{declared.packages.Home.{Home}, declared.packages.PackageFacts.{PackageFacts}}
use Rattle.repo_model.specs.{Limits.{most_bytes, most_packages}, declared.suite.Suite.{Suite}}
use Rattle.suite_compare.specs.Refusals.{home_in, packages_in}
use Rattle.migrate_plan.specs.{Differing.{differing}, Indexes.{AreMeasured, Texts}, Refusals.{above, homes_refusal, packages_with, plan_refusal, RefusesPlan}}
use Rattle.migrate_plan.specs.{declared.lengths.TextLengths.{TextLengths}, declared.refusals.PlanError.{PlanError}}
use Rattle.migrate_plan.specs.declared.refusals.PlanError.TheVariants.{Names, Packages, TooLong}
use Rattle.migrate_plan.proofs.{Made.{home_is}, Refusing.{none_both, refuses_behind, refuses_first}}

abbrev refusal_by : Home → Home → List PackageFacts → List PackageFacts → List (List ℕ) → ℕ → Option PlanError
refusal_by home other olds news names bytes =
    option_or (homes_refusal home other) (option_or (above 256 Names (length names)) (option_or (above most_packages Packages (packages_with olds news names)) (above most_bytes TooLong bytes)))

-- two indexes with their names that differ
module _ (texts : Texts) (old new : Suite) (lengths : TextLengths) (names : List (List ℕ)) (are : AreMeasured texts old new lengths) (made : names ≡ differing old.packages new.packages) where
  pub names_are : names ≡ differing (packages_in texts.old) (packages_in texts.new)
  names_are = made ∙ ap₂ differing are.suites.old_is.facts are.suites.new_is.facts

  abbrev many : Option PlanError
  many = above 256 Names (length names)

  abbrev large : Option PlanError
  large = above most_packages Packages (packages_with old.packages new.packages names)

  abbrev long : Option PlanError
  long = above most_bytes TooLong (lengths.old + lengths.new + 2)

  refusal_is : refusal_by old.home new.home old.packages new.packages names (lengths.old + lengths.new + 2) ≡ plan_refusal texts.old texts.new
  unfolding plan_refusal
  refusal_is =
      let first : List ℕ = texts.old in
      let second : List ℕ = texts.new in
      ap (λ h. refusal_by h new.home old.packages new.packages names (lengths.old + lengths.new + 2)) (home_is first old.home old.packages are.suites.old_is)
      ∙ ap (λ h. refusal_by (home_in first) h old.packages new.packages names (lengths.old + lengths.new + 2)) (home_is second new.home new.packages are.suites.new_is)
      ∙ ap₂ (λ xs ys. refusal_by (home_in first) (home_in second) xs ys names (lengths.old + lengths.new + 2)) are.suites.old_is.facts are.suites.new_is.facts
      ∙ ap (λ ns. refusal_by (home_in first) (home_in second) (packages_in first) (packages_in second) ns (lengths.old + lengths.new + 2)) names_are
      ∙ ap₂ (λ m n. refusal_by (home_in first) (home_in second) (packages_in first) (packages_in second) (differing (packages_in first) (packages_in second)) (m + n + 2)) are.old_length_is are.new_length_is

  -- each refusal comes where those before it are not there
  pub by_homes : (error : PlanError) → RefusesPlan error (homes_refusal old.home new.home) → RefusesPlan error (plan_refusal texts.old texts.new)
  by_homes error h = subst (RefusesPlan error) refusal_is (refuses_first error (homes_refusal old.home new.home) (option_or many (option_or large long)) h)

  pub by_names : (error : PlanError) → homes_refusal old.home new.home ≡ None → RefusesPlan error many → RefusesPlan error (plan_refusal texts.old texts.new)
  by_names error one h =
      subst (RefusesPlan error) refusal_is (refuses_behind error (homes_refusal old.home new.home) (option_or many (option_or large long)) one (refuses_first error many (option_or large long) h))

  pub by_packages : (error : PlanError) → homes_refusal old.home new.home ≡ None → many ≡ None → RefusesPlan error large → RefusesPlan error (plan_refusal texts.old texts.new)
  by_packages error one two h =
      subst (RefusesPlan error) refusal_is (refuses_behind error (homes_refusal old.home new.home) (option_or many (option_or large long)) one
      (refuses_behind error many (option_or large long) two (refuses_first error large long h)))

  pub by_length : (error : PlanError) → homes_refusal old.home new.home ≡ None → many ≡ None → large ≡ None → RefusesPlan error long → RefusesPlan error (plan_refusal texts.old texts.new)
  by_length error one two three h =
      subst (RefusesPlan error) refusal_is (refuses_behind error (homes_refusal old.home new.home) (option_or many (option_or large long)) one
      (refuses_behind error many (option_or large long) two (refuses_behind error large long three h)))

  -- and none where none of them is there
  pub none_there : homes_refusal old.home new.home ≡ None → many ≡ None → large ≡ None → long ≡ None → plan_refusal texts.old texts.new ≡ None
  none_there one two three four =
      subst (λ found. found ≡ None) refusal_is (none_both (homes_refusal old.home new.home) (option_or many (option_or large long)) one (none_both many (option_or large long) two (none_both large long three four)))
