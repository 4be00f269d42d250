-- Flags that are raised, number by number and name by name.
use Rattle.std.proofs.Common.{◌≡◌, ℕ, suc, ◌+◌, ◌<◌, ◌≤◌, Bool, true, false, cond, eqb, eq-eqb, List, [], ◌∷◌, ◌++◌, length, get_or, set, take, map, replicate}
use Rattle.std.proofs.{Common.{inl, inr, refl, sym, ap, ◌∙◌, subst, arith}, Math.Bool.{or-false}, Math.ListN.{length-set}}
use Rattle.std.proofs.lemmas.Bool.{cases_eq, or_right, ne_eqb}
use Rattle.std.proofs.lemmas.List.{ext_get_or, get_or-map, get_or-set_other, get_or-set_same, length-map, take_all, take_more}
use Rattle.std.proofs.{lemmas.List.Folds.{list_any-append}, lemmas.Slice.Eq.{bytes_eq-Decides}}
use Rattle.std.specs.{Prelude.{◌||◌, not, filter}, Str.{bytes_eq}}
use Rattle.listed.specs.Lists.{In, has}
use Rattle.listed.proofs.{Bools.{same_bool}, Lists.{In_has, has_In}}
use Rattle.package_register.specs.Numbers.{numbers_where}
use Rattle.relation_fields.specs.declared.packages.PackageFacts.{PackageFacts}
use Rattle.row_book.specs.Flags.{flag}
use Rattle.repo_model.specs.{Goals.{any_version, packages_named}, Stanzas.{no_stanza, stanza_at}}
use Rattle.repo_model.proofs.Chosen.{named_is, number_cases, number_from}
use Rattle.migrate_plan.specs.{Flagged.{Raises}, Mix.{is_taken}}
use Rattle.migrate_plan.proofs.Taken.{taken_more}

-- no number, and one number more
pub raised_none : (flags : List Bool) → Raises flags [] flags
raised_none flags = record { count = refl; each = λ n l. sym (or-false (flag flags n)) }

has_more : (numbers : List ℕ) (i k n : ℕ) → i < length numbers → k ≡ get_or numbers i 0 → has (take (i + 1) numbers) n ≡ (has (take i numbers) n || eqb n k)
has_more numbers i k n l is =
    ap (λ ns. has ns n) (take_more numbers i 0 l ∙ ap (λ m. take i numbers ++ m ∷ []) (sym is)) ∙ list_any-append (λ m. eqb n m) (take i numbers) (k ∷ [])
    ∙ ap (λ b. has (take i numbers) n || b) (or-false (eqb n k))

pub raised_more : (old flags new : List Bool) (numbers : List ℕ) (i k : ℕ) → i < length numbers → k ≡ get_or numbers i 0 → new ≡ set flags k true → Raises old (take i numbers) flags → Raises old (take (i + 1) numbers) new
raised_more old flags new numbers i k l is made so_far = record {
  count = ap length made ∙ length-set flags k true ∙ so_far.count;
  each = λ n inside.
      ap (λ fs. flag fs n) made
      ∙ elim (cases_eq n k) [
        | inl e ↦ subst (λ m. flag (set flags k true) m ≡ (flag old m || has (take (i + 1) numbers) m)) (sym e)
            (get_or-set_same flags k true false (let count : length flags ≡ length old = so_far.count in omega (arith, count, e, inside))
            ∙ sym (or_right (flag old k) (has (take (i + 1) numbers) k) (has_more numbers i k k l is ∙ or_right (has (take i numbers) k) (eqb k k) (eq-eqb k k refl))))
        | inr ne ↦ get_or-set_other flags k n true false ne ∙ so_far.each n inside
            ∙ ap (λ b. flag old n || b) (sym (has_more numbers i k n l is ∙ ap (λ b. has (take i numbers) n || b) (ne_eqb n k ne) ∙ or-false (has (take i numbers) n)))
      ];
}

pub raised_all : (old new : List Bool) (numbers : List ℕ) (i : ℕ) → length numbers ≤ i → Raises old (take i numbers) new → Raises old numbers new
raised_all old new numbers i end so_far = subst (λ ns. Raises old ns new) (take_all i numbers end) so_far

-- the flags of the packages of these names are up
abbrev pub AreTaken : List PackageFacts → List (List ℕ) → List Bool → Type 0
AreTaken packages names flags = flags ≡ map (λ facts. is_taken names facts.name) packages

pub taken_none : (packages : List PackageFacts) (flags : List Bool) → flags ≡ replicate (length packages) false → AreTaken packages [] flags
taken_none packages flags none = none ∙ each packages
  where
    each : (facts : List PackageFacts) → replicate (length facts) false ≡ map (λ x. is_taken [] x.name) facts
    each [] = refl
    each (x ∷ facts) = ap (λ bs. false ∷ bs) (each facts)

either_name : (a b : List ℕ) → bytes_eq a b ≡ bytes_eq b a
either_name a b =
    same_bool (bytes_eq a b) (bytes_eq b a) (λ h. (bytes_eq-Decides b a).1 (sym ((bytes_eq-Decides a b).0 h))) (λ h. (bytes_eq-Decides a b).1 (sym ((bytes_eq-Decides b a).0 h)))

-- a package is among those of a name where it has the name
has_named : (packages : List PackageFacts) (name numbers : List ℕ) → numbers ≡ packages_named packages (any_version name) → (n : ℕ) → n < length packages → has numbers n ≡ bytes_eq name (stanza_at packages n).name
has_named packages name numbers is n l =
    let all : numbers ≡ numbers_where (λ facts. bytes_eq name facts.name) packages = is ∙ sym (named_is packages name) in
    same_bool (has numbers n) (bytes_eq name (stanza_at packages n).name)
    (λ h. (number_cases (λ facts. bytes_eq name facts.name) packages n (subst (λ ns. In n ns) all (has_In numbers n h))).1)
    (λ h. In_has (subst (λ ns. In n ns) (sym all) (number_from (λ facts. bytes_eq name facts.name) packages n l h)))

-- one name more
pub taken_step : (packages : List PackageFacts) (taken : List (List ℕ)) (i : ℕ) (name numbers : List ℕ) (old new : List Bool) → i < length taken → name ≡ get_or taken i name → numbers ≡ packages_named packages (any_version name)
    → AreTaken packages (take i taken) old → Raises old numbers new → AreTaken packages (take (i + 1) taken) new
taken_step packages taken i name numbers old new l is found so_far raises =
    let f : PackageFacts → Bool = λ facts. is_taken (take i taken) facts.name in
    let g : PackageFacts → Bool = λ facts. is_taken (take (i + 1) taken) facts.name in
    let size : length old ≡ length packages = ap length so_far ∙ length-map packages f in
    let more : take i taken ++ name ∷ [] ≡ take (i + 1) taken = ap (λ x. take i taken ++ x ∷ []) is ∙ sym (take_more taken i name l) in
    let each : (n : ℕ) → n < length new → flag new n ≡ flag (map g packages) n = λ n k.
    let count : length new ≡ length old = raises.count in
    let inside : n < length packages = omega (arith, count, size, k) in
    let own : n < length old = omega (arith, size, inside) in
    let facts : PackageFacts = stanza_at packages n in
    raises.each n own
    ∙ ap (λ fs. flag fs n || has numbers n) so_far
    ∙ ap (λ b. b || has numbers n) (get_or-map f packages n no_stanza false inside)
    ∙ ap (λ b. f facts || b) (has_named packages name numbers found n inside ∙ either_name name facts.name)
    ∙ sym (taken_more (take i taken) name facts.name)
    ∙ ap (λ names. is_taken names facts.name) more
    ∙ sym (get_or-map g packages n no_stanza false inside) in
    ext_get_or false new (map g packages) (raises.count ∙ size ∙ sym (length-map packages g)) each

pub taken_all : (packages : List PackageFacts) (taken : List (List ℕ)) (i : ℕ) (flags : List Bool) → length taken ≤ i → AreTaken packages (take i taken) flags → AreTaken packages taken flags
taken_all packages taken i flags end so_far = subst (λ names. AreTaken packages names flags) (take_all i taken end) so_far

-- the other flags, and how many are up
module _ {X : Type 0} (f : X → Bool) where
  pub map_not : (xs : List X) → map not (map f xs) ≡ map (λ x. not (f x)) xs
  map_not [] = refl
  map_not (x ∷ xs) = ap (λ bs. not (f x) ∷ bs) (map_not xs)

  pub count_up : (xs : List X) → length (filter (λ b. b) (map f xs)) ≡ length (filter f xs)
  count_up [] = refl
  count_up (x ∷ xs) = by (f x) (filter (λ b. b) (map f xs)) (filter f xs) (count_up xs)
    where
      by : (b : Bool) (bs : List Bool) (ys : List X) → length bs ≡ length ys → length (cond b (b ∷ bs) bs) ≡ length (cond b (x ∷ ys) ys)
      by true bs ys e = ap suc e
      by false bs ys e = e
