-- The packages of a name, by their numbers.
use Rattle.std.proofs.Common.{◌≡◌, ℕ, ◌+◌, ◌<◌, Bool, true, false, cond, List, [], ◌∷◌, ◌++◌, length, map, filter, refl, sym, ap, ◌∙◌, subst, append_assoc}
use Rattle.std.proofs.{Common.{length-append}, Math.Seq.{get_or-append_seam}}
use Rattle.std.specs.Str.{bytes_eq}
use Rattle.relation_fields.specs.declared.packages.PackageFacts.{PackageFacts}
use Rattle.listed.specs.Lists.{In}
use Rattle.repo_model.specs.{Stanzas.{no_stanza, stanza_at}, Goals.{any_version, packages_named}}
use Rattle.repo_model.proofs.Chosen.{named_is, number_cases}
use Rattle.package_register.specs.Numbers.{if_so, numbers_from}
use Rattle.package_register.proofs.Numbered.{numbers_from-cons}
use Rattle.migrate_plan.specs.Differing.{packages_of_name}

-- the packages of the numbers are those that pass the test, behind a front
numbered : (test : PackageFacts → Bool) (all front items : List PackageFacts) → all ≡ front ++ items → map (stanza_at all) (numbers_from (length front) test items) ≡ filter test items
numbered test all front [] both = refl
numbered test all front (x ∷ items) both =
    let rest : List ℕ = numbers_from (length front + 1) test items in
    let is : stanza_at all (length front) ≡ x = ap (λ xs. stanza_at xs (length front)) both ∙ get_or-append_seam front x items no_stanza in
    let size : length (front ++ x ∷ []) ≡ length front + 1 = length-append front (x ∷ []) in
    let later : map (stanza_at all) rest ≡ filter test items =
    ap (λ n. map (stanza_at all) (numbers_from n test items)) (sym size) ∙ numbered test all (front ++ x ∷ []) items (both ∙ sym (append_assoc front (x ∷ []) items)) in
    ap (map (stanza_at all)) (numbers_from-cons test (length front) x items) ∙ by (test x) rest is later
  where
    by : (b : Bool) (rest : List ℕ) → stanza_at all (length front) ≡ x → map (stanza_at all) rest ≡ filter test items → map (stanza_at all) (if_so b (length front) ++ rest) ≡ cond b (x ∷ filter test items) (filter test items)
    by true rest is later = ap (λ y. y ∷ map (stanza_at all) rest) is ∙ ap (λ ys. x ∷ ys) later
    by false rest is later = later

-- those of a name
pub under_name : (packages : List PackageFacts) (name numbers : List ℕ) → numbers ≡ packages_named packages (any_version name) → map (stanza_at packages) numbers ≡ packages_of_name packages name
under_name packages name numbers is =
    ap (map (stanza_at packages)) (is ∙ sym (named_is packages name)) ∙ numbered (λ facts. bytes_eq name facts.name) packages [] packages refl

-- and they are numbers of packages
pub under_below : (packages : List PackageFacts) (name numbers : List ℕ) → numbers ≡ packages_named packages (any_version name) → (n : ℕ) → In n numbers → n < length packages
under_below packages name numbers is n i = (number_cases (λ facts. bytes_eq name facts.name) packages n (subst (In n) (is ∙ sym (named_is packages name)) i)).0
