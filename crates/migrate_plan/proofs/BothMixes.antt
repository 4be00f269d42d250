-- A mix by its packages among all that mixes have.
use Rattle.std.proofs.Common.{◌≡◌, ℕ, zero, suc, ◌+◌, ◌<◌, get_or, Bool, true, false, List, [], ◌∷◌, ◌++◌, map, length, replicate, refl, sym, ap, ap₂, subst}
use Rattle.std.proofs.{Common.{◌∙◌, arith, length-append}, lemmas.List.{length-map}}
use Rattle.std.specs.List.{items_where_true}
use Rattle.listed.specs.Lists.{In}
use Rattle.relation_fields.specs.declared.packages.PackageFacts.{PackageFacts}
use Rattle.migrate_plan.specs.Mix.{is_left, is_taken}
use Rattle.migrate_plan.proofs.Mixed.{taken_within}

-- items of two lists by flags for both
pub join_flagged : {A : Type 0} (fs gs : List Bool) (xs ys : List A) → length fs ≡ length xs → items_where_true (fs ++ gs) (xs ++ ys) ≡ items_where_true fs xs ++ items_where_true gs ys
join_flagged [] gs [] ys fits = refl
join_flagged [] gs (x ∷ xs) ys fits = absurd (let e : 0 ≡ suc (length xs) = fits in omega arith)
join_flagged (f ∷ fs) gs [] ys fits = absurd (let e : suc (length fs) ≡ 0 = fits in omega arith)
join_flagged (true ∷ fs) gs (x ∷ xs) ys fits = let e : suc (length fs) ≡ suc (length xs) = fits in ap (λ zs. x ∷ zs) (join_flagged fs gs xs ys (omega arith))
join_flagged (false ∷ fs) gs (x ∷ xs) ys fits = let e : suc (length fs) ≡ suc (length xs) = fits in join_flagged fs gs xs ys (omega arith)

-- as many flags are left as items, of lists that are as long
pub flagged_long : {A B : Type 0} (fs : List Bool) (xs : List A) (ys : List B) → length xs ≡ length ys → length (items_where_true fs xs) ≡ length (items_where_true fs ys)
flagged_long [] xs ys same = refl
flagged_long (f ∷ fs) [] [] same = refl
flagged_long (f ∷ fs) [] (y ∷ ys) same = absurd (let e : 0 ≡ suc (length ys) = same in omega arith)
flagged_long (f ∷ fs) (x ∷ xs) [] same = absurd (let e : suc (length xs) ≡ 0 = same in omega arith)
flagged_long (true ∷ fs) (x ∷ xs) (y ∷ ys) same =
    let e : suc (length xs) ≡ suc (length ys) = same in
    let rest : length (items_where_true fs xs) ≡ length (items_where_true fs ys) = flagged_long fs xs ys (omega arith) in
    ap suc rest
flagged_long (false ∷ fs) (x ∷ xs) (y ∷ ys) same = let e : suc (length xs) ≡ suc (length ys) = same in flagged_long fs xs ys (omega arith)

-- what is chosen of items that were chosen by a weaker test
pub flagged_twice : {A : Type 0} (weak strong : A → Bool) → ((x : A) → strong x ≡ true → weak x ≡ true) → (xs : List A)
    → items_where_true (items_where_true (map weak xs) (map strong xs)) (items_where_true (map weak xs) xs) ≡ items_where_true (map strong xs) xs
flagged_twice weak strong less [] = refl
flagged_twice {A} weak strong less (x ∷ xs) = by (weak x) (strong x) (less x) (flagged_twice weak strong less xs)
  where
    by : (w s : Bool) → (s ≡ true → w ≡ true) → items_where_true (items_where_true (map weak xs) (map strong xs)) (items_where_true (map weak xs) xs) ≡ items_where_true (map strong xs) xs
        → items_where_true (items_where_true (w ∷ map weak xs) (s ∷ map strong xs)) (items_where_true (w ∷ map weak xs) (x ∷ xs)) ≡ items_where_true (s ∷ map strong xs) (x ∷ xs)
    by true true h rest = ap (λ ys. x ∷ ys) rest
    by true false h rest = rest
    by false true h rest = absurd (let e : false ≡ true = h refl in cc)
    by false false h rest = rest

-- all items, by flags that are all up
pub all_flagged : {A : Type 0} (n : ℕ) (xs : List A) → n ≡ length xs → items_where_true (replicate n true) xs ≡ xs
all_flagged {A} n xs is = subst (λ k. items_where_true (replicate k true) xs ≡ xs) (sym is) (by xs)
  where
    by : (ys : List A) → items_where_true (replicate (length ys) true) ys ≡ ys
    by [] = refl
    by (y ∷ ys) = ap (λ zs. y ∷ zs) (by ys)

pub all_chosen : {A : Type 0} (flags : List Bool) (n : ℕ) (xs : List A) → flags ≡ replicate n true → n ≡ length xs → items_where_true flags xs ≡ xs
all_chosen flags n xs are is = ap (λ fs. items_where_true fs xs) are ∙ all_flagged n xs is

-- an item of a list, whatever stands for none
pub whatever_else : {A : Type 0} (xs : List A) (i : ℕ) (d e : A) → i < length xs → get_or xs i d ≡ get_or xs i e
whatever_else [] i d e l = absurd (omega (arith, l))
whatever_else (x ∷ xs) zero d e l = refl
whatever_else (x ∷ xs) (suc i) d e l = whatever_else xs i d e (omega (arith, l))

-- the packages of a mix, by the flags of both suites, and by the flags of all packages that mixes have
module _ (olds news : List PackageFacts) (differing taken : List (List ℕ)) (left kept added : List Bool) (inside : (name : List ℕ) → In name taken → In name differing)
    (lefts : left ≡ map (λ facts. is_left taken facts.name) olds) (keeps : kept ≡ map (λ facts. is_taken taken facts.name) news) (adds : added ≡ map (λ facts. is_taken differing facts.name) news) where
  pub left_long : length left ≡ length olds
  left_long = ap length lefts ∙ length-map olds (λ facts. is_left taken facts.name)

  pub kept_long : length kept ≡ length news
  kept_long = ap length keeps ∙ length-map news (λ facts. is_taken taken facts.name)

  pub added_long : length added ≡ length kept
  added_long = ap length adds ∙ length-map news (λ facts. is_taken differing facts.name) ∙ sym kept_long

  kept_again : items_where_true (items_where_true added kept) (items_where_true added news) ≡ items_where_true kept news
  kept_again =
      ap₂ (λ fs gs. items_where_true (items_where_true fs gs) (items_where_true fs news)) adds keeps
      ∙ flagged_twice (λ facts. is_taken differing facts.name) (λ facts. is_taken taken facts.name) (λ facts h. taken_within taken differing inside facts.name h) news
      ∙ ap (λ fs. items_where_true fs news) (sym keeps)

  pub mix_in_both : (flags : List Bool) (packages : List PackageFacts) → flags ≡ left ++ items_where_true added kept → packages ≡ olds ++ items_where_true added news
      → items_where_true flags packages ≡ items_where_true left olds ++ items_where_true kept news
  mix_in_both flags packages are of =
      ap₂ items_where_true are of ∙ join_flagged left (items_where_true added kept) olds (items_where_true added news) left_long ∙ ap (λ ps. items_where_true left olds ++ ps) kept_again

  pub flags_long : (flags : List Bool) (packages : List PackageFacts) → flags ≡ left ++ items_where_true added kept → packages ≡ olds ++ items_where_true added news → length flags ≡ length packages
  flags_long flags packages are of =
      let one : length flags ≡ length left + length (items_where_true added kept) = ap length are ∙ length-append left (items_where_true added kept) in
      let two : length packages ≡ length olds + length (items_where_true added news) = ap length of ∙ length-append olds (items_where_true added news) in
      let more : length (items_where_true added kept) ≡ length (items_where_true added news) = flagged_long added kept news kept_long in
      let own : length left ≡ length olds = left_long in
      omega arith
