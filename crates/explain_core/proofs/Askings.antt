-- What goals name, and its classes.
use Rattle.std.proofs.{Common.{Bool, ◌≡◌, ℕ, ◌<◌, ◌≤◌, List, [], ◌∷◌, length, get_or, map, take, refl, ap, ◌∙◌, subst}, lemmas.List.{take_all}}
use Rattle.relation_fields.specs.{declared.packages.Home.{Home}, declared.packages.PackageFacts.{PackageFacts}}
use Rattle.repo_model.specs.{Goals.{packages_named}, Repository.{suite_repository}, declared.goals.Goal.{Goal}}
use Rattle.listed.specs.Lists.{In}
use Rattle.listed.proofs.Lists.{In_at, In_map_cases}
use Rattle.suite_compare.specs.Asking.{goal_classes, image_of, images_of, wanted_by}
use Rattle.suite_compare.proofs.Gathering.{named_inside}

pub wanted_inside : (stanzas : List PackageFacts) (goals : List Goal) (wanted : List (List ℕ)) (lent : List ℕ) (place : ℕ) → wanted ≡ wanted_by stanzas goals → place < length wanted → lent ≡ get_or wanted place [] →
    (n : ℕ) → In n lent → n < length stanzas
wanted_inside stanzas goals wanted lent place are l is n i =
    let w = In_map_cases (packages_named stanzas) goals (get_or wanted place []) (subst (λ ws. In (get_or wanted place []) ws) are (In_at wanted place [] l)) in
    named_inside stanzas w.0 n (subst (λ ns. In n ns) (is ∙ w.2) i)

images_from : (limit : ℕ) (hold : Bool) (home : Home) (stanzas : List PackageFacts) (goals : List Goal) → map (goal_classes limit hold (suite_repository home stanzas)) (wanted_by stanzas goals) ≡ images_of limit hold home stanzas goals
images_from limit hold home stanzas [] = refl
images_from limit hold home stanzas (goal ∷ goals) = ap (λ l. image_of limit hold home stanzas goal ∷ l) (images_from limit hold home stanzas goals)

pub classes_all : (limit : ℕ) (hold : Bool) (home : Home) (stanzas : List PackageFacts) (goals : List Goal) (wanted classes : List (List ℕ)) (place : ℕ) → wanted ≡ wanted_by stanzas goals → length wanted ≤ place →
    classes ≡ map (goal_classes limit hold (suite_repository home stanzas)) (take place wanted) → classes ≡ images_of limit hold home stanzas goals
classes_all limit hold home stanzas goals wanted classes place are l sofar =
    sofar ∙ ap (map (goal_classes limit hold (suite_repository home stanzas))) (take_all place wanted l ∙ are) ∙ images_from limit hold home stanzas goals
