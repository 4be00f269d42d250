-- The goals of the packages that an index has, one after another.
use Rattle.std.proofs.Common.{◌≡◌, ℕ, zero, suc, ◌+◌, ◌<◌, Bool, true, false, not, cond, List, [], ◌∷◌, ◌++◌, length, get_or, take, map, filter, eqb, refl, ap}
use Rattle.std.proofs.{Common.{sym, ◌∙◌, subst, arith}, lemmas.List.{append-nil, map-append, take_more}, lemmas.List.Elements.{filter-append}}
use Rattle.relation_fields.specs.{declared.packages.Home.{Home}, declared.packages.PackageFacts.{PackageFacts}}
use Rattle.repo_model.specs.{Goals.{packages_named}, Repository.{suite_repository}, declared.goals.Goal.{Goal}}
use Rattle.listed.specs.Lists.{Ascending, In}
use Rattle.suite_compare.specs.Asking.{goal_classes, image_of, images_of}
use Rattle.suite_compare.proofs.{Gathering.{image_filled, named_inside}, SuiteKernels.{classes_ascending}}
use Rattle.status_check.specs.{Report.{goal_for, had_goals, index_has, line_for}, declared.report.HaveLine.{HaveLine}}

had_push : (index packages : List PackageFacts) (x : PackageFacts) → had_goals index (packages ++ x ∷ []) ≡ had_goals index packages ++ cond (index_has index x) (goal_for x ∷ []) []
had_push index packages x =
    ap (map goal_for) (filter-append (index_has index) packages (x ∷ [])) ∙ map-append goal_for (filter (index_has index) packages) (filter (index_has index) (x ∷ []))
    ∙ ap (λ last. had_goals index packages ++ last) (by (index_has index x))
  where
    by : (b : Bool) → map goal_for (cond b (x ∷ []) []) ≡ cond b (goal_for x ∷ []) []
    by true = refl
    by false = refl

take_push : (packages : List PackageFacts) (i : ℕ) (x : PackageFacts) → i < length packages → x ≡ get_or packages i x → take (i + 1) packages ≡ take i packages ++ x ∷ []
take_push packages i x l is = take_more packages i x l ∙ ap (λ y. take i packages ++ y ∷ []) (sym is)

-- the numbers that were found tell whether the index has the package
pub had_by : (index : List PackageFacts) (x : PackageFacts) (numbers : List ℕ) → numbers ≡ packages_named index (goal_for x) → not (eqb (length numbers) 0) ≡ index_has index x
had_by index x numbers is = ap (λ ns. not (eqb (length ns) 0)) is

-- the line of a package, from its parts
pub line_made : (index : List PackageFacts) (x : PackageFacts) (name version : List ℕ) (had : Bool) → name ≡ x.name → version ≡ x.version → had ≡ index_has index x → (let made : HaveLine = record { name = name; version = version; had = had } in made) ≡ line_for index x
line_made index x name version had a b h =
    ap (λ n. let made : HaveLine = record { name = n; version = version; had = had } in made) a ∙ ap (λ v. let made : HaveLine = record { name = x.name; version = v; had = had } in made) b
    ∙ ap (λ t. let made : HaveLine = record { name = x.name; version = x.version; had = t } in made) h

-- a number that is not 0
pub some_numbers : (n : ℕ) → eqb n 0 ≡ false → 0 < n
some_numbers zero e = cc
some_numbers (suc n) e = omega arith

module _ (limit : ℕ) (hold : Bool) (home : Home) (index : List PackageFacts) where
  abbrev images : List Goal → List (List ℕ)
  images goals = images_of limit hold home index goals

  -- a package more that the index has
  pub classes_more : (packages : List PackageFacts) (i : ℕ) (x : PackageFacts) (numbers image : List ℕ) (classes new : List (List ℕ)) → i < length packages → x ≡ get_or packages i x
      → numbers ≡ packages_named index (goal_for x) → eqb (length numbers) 0 ≡ false → image ≡ goal_classes limit hold (suite_repository home index) numbers
      → new ≡ classes ++ image ∷ [] → classes ≡ images (had_goals index (take i packages)) → new ≡ images (had_goals index (take (i + 1) packages))
  classes_more packages i x numbers image classes new l is found some made pushed so =
      let had : index_has index x ≡ true = sym (had_by index x numbers found) ∙ ap not some in
      let goals : had_goals index (take (i + 1) packages) ≡ had_goals index (take i packages) ++ goal_for x ∷ [] =
      ap (had_goals index) (take_push packages i x l is) ∙ had_push index (take i packages) x ∙ ap (λ b. had_goals index (take i packages) ++ cond b (goal_for x ∷ []) []) had in
      let own : image ≡ image_of limit hold home index (goal_for x) = made ∙ ap (goal_classes limit hold (suite_repository home index)) found in
      pushed ∙ ap (λ front. front ++ image ∷ []) so ∙ ap (λ last. images (had_goals index (take i packages)) ++ last ∷ []) own
      ∙ sym (map-append (image_of limit hold home index) (had_goals index (take i packages)) (goal_for x ∷ [])) ∙ ap images (sym goals)

  -- and one that it has not
  pub classes_same : (packages : List PackageFacts) (i : ℕ) (x : PackageFacts) (numbers : List ℕ) (classes : List (List ℕ)) → i < length packages → x ≡ get_or packages i x
      → numbers ≡ packages_named index (goal_for x) → eqb (length numbers) 0 ≡ true → classes ≡ images (had_goals index (take i packages)) → classes ≡ images (had_goals index (take (i + 1) packages))
  classes_same packages i x numbers classes l is found none so =
      let lacks : index_has index x ≡ false = sym (had_by index x numbers found) ∙ ap not none in
      let goals : had_goals index (take (i + 1) packages) ≡ had_goals index (take i packages) =
      ap (had_goals index) (take_push packages i x l is) ∙ had_push index (take i packages) x ∙ ap (λ b. had_goals index (take i packages) ++ cond b (goal_for x ∷ []) []) lacks
      ∙ append-nil (had_goals index (take i packages)) in
      so ∙ ap images (sym goals)

  -- what a goal names are packages of the index, with ascending classes
  pub found_inside : (x : PackageFacts) (numbers : List ℕ) → numbers ≡ packages_named index (goal_for x) → (n : ℕ) → In n numbers → n < length index
  found_inside x numbers found n i = named_inside index (goal_for x) n (subst (λ ns. In n ns) found i)

  pub image_ascending : (numbers image : List ℕ) → image ≡ goal_classes limit hold (suite_repository home index) numbers → Ascending image
  image_ascending numbers image made = subst Ascending (sym made) (classes_ascending limit hold (suite_repository home index) numbers)

  pub image_some : (x : PackageFacts) (numbers image : List ℕ) → numbers ≡ packages_named index (goal_for x) → 0 < length numbers → image ≡ goal_classes limit hold (suite_repository home index) numbers → 0 < length image
  image_some x numbers image found some made = subst (λ ks. 0 < length ks) (sym made) (image_filled limit hold home index numbers (found_inside x numbers found) some)
