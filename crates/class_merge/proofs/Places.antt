-- The first place at which a test passes, and the place of a list among lists.
use Rattle.std.proofs.Common.{◌≡◌, ℕ, ◌<◌, ◌≤◌, ◌+◌, Bool, true, false, not, cond, List, [], ◌∷◌, ◌++◌, ◌||◌, map, length, get_or, position, Some, None, nat_eq}
use Rattle.std.proofs.{Common.{nat_lt, if◌then◌else◌, inl, inr, refl, sym, ◌∙◌, ap, ap₂, subst, arith}, lemmas.Bool.{both_ways, ltb-false}}
use Rattle.std.proofs.{lemmas.List.{length-map, map-append}, lemmas.List.Quantifiers.{position-Some}}
use Rattle.std.specs.{List.{prefix_len, position_or_len, list_any}, Cmp.Lexicographic.{pointwise, bytes_decides}}
use Rattle.clause_pool.specs.Lists.{In}
use Rattle.clause_pool.proofs.Lists.{In_cases, In_none, In_at}

module _ {A B : Type 0} (f : A → B) where
  prefix_len-map : (p : B → Bool) (xs : List A) → prefix_len p (map f xs) ≡ prefix_len (λ x. p (f x)) xs
  prefix_len-map p [] = refl
  prefix_len-map p (x ∷ xs) = ap (λ n. cond (p (f x)) (1 + n) 0) (prefix_len-map p xs)

  position-map : (p : B → Bool) (xs : List A) → position p (map f xs) ≡ position (λ x. p (f x)) xs
  position-map p xs =
      ap₂ (λ n m. cond (nat_lt n m) (Some n) None) (prefix_len-map (λ y. not (p y)) xs) (length-map xs f)

-- the place among lists is that of their key
pub place_shown : {T V : Type 0} (items : V → List T) (p : List T → Bool) (keys : List V) (lists : List (List T)) → map items keys ≡ lists → position (λ k. p (items k)) keys ≡ position p lists
place_shown items p keys lists shown = sym (position-map items p keys) ∙ ap (position p) shown

-- where no element passes
pub record NonePasses {A : Type 0} (p : A → Bool) (xs : List A) : Type 0 where
  pub place : position_or_len p xs ≡ length xs
  pub test : list_any p xs ≡ false
  pub each : (x : A) → In x xs → p x ≡ false

module _ {A : Type 0} (p : A → Bool) where
  past_all : (xs : List A) → length xs ≤ position_or_len p xs → NonePasses p xs
  past_all [] l = record { place = refl; test = refl; each = λ x i. absurd (In_none i) }
  past_all (x ∷ xs) l = by (p x) refl (past_all xs)
    where
      by : (b : Bool) → p x ≡ b → (length xs ≤ position_or_len p xs → NonePasses p xs) → NonePasses p (x ∷ xs)
      by true e tail =
          let zero_len : position_or_len p (x ∷ xs) ≡ 0 = ap (λ b. cond (not b) (1 + position_or_len p xs) 0) e in
          absurd (omega arith)
      by false e tail =
          let more : position_or_len p (x ∷ xs) ≡ 1 + position_or_len p xs = ap (λ b. cond (not b) (1 + position_or_len p xs) 0) e in
          let rest : NonePasses p xs = tail (omega arith) in
          record {
            place = let r : position_or_len p xs ≡ length xs = rest.place in omega arith;
            test = ap (λ b. b || list_any p xs) e ∙ rest.test;
            each = λ y i. elim (In_cases i) [ inl same ↦ ap p same ∙ e | inr j ↦ rest.each y j ];
          }

  pub position-None : (xs : List A) → position p xs ≡ None → NonePasses p xs
  position-None xs h = by (nat_lt (position_or_len p xs) (length xs)) refl h
    where
      by : (b : Bool) → nat_lt (position_or_len p xs) (length xs) ≡ b → cond b (Some (position_or_len p xs)) None ≡ None → NonePasses p xs
      by true e none = cc
      by false e none = past_all xs (ltb-false (position_or_len p xs) (length xs) e)

-- a key whose items have no place goes behind the other keys
module _ {T V : Type 0} (items : V → List T) (equal : T → T → Bool) (keys : List V) (key : V) (lists : List (List T)) (list : List T)
    (shown : map items keys ≡ lists) (same : items key ≡ list) (absent : position (pointwise equal list) lists ≡ None) where
  none : NonePasses (λ k. pointwise equal (items key) (items k)) keys
  none =
      let at_key : position (pointwise equal (items key)) lists ≡ None = subst (λ l. position (pointwise equal l) lists ≡ None) (sym same) absent in
      position-None (λ k. pointwise equal (items key) (items k)) keys
      (place_shown items (pointwise equal (items key)) keys lists shown ∙ at_key)

  pub new_place : position_or_len (λ k. pointwise equal (items key) (items k)) keys ≡ length lists
  new_place = none.place ∙ sym (length-map keys items) ∙ ap length shown

  pub new_lists : (new : List V) → new ≡ (if list_any (λ k. pointwise equal (items key) (items k)) keys then keys else keys ++ key ∷ []) → map items new ≡ lists ++ list ∷ []
  new_lists new e =
      let last : new ≡ keys ++ key ∷ [] = e ∙ ap (λ b. if b then keys else keys ++ key ∷ []) none.test in
      ap (map items) last ∙ map-append items keys (key ∷ []) ∙ ap₂ (λ xs x. xs ++ x ∷ []) shown same

-- the place of a list of numbers holds it
pub place_some : (list : List ℕ) (lists : List (List ℕ)) (i : ℕ) → position (pointwise nat_eq list) lists ≡ Some i → (i < length lists) × (get_or lists i [] ≡ list)
place_some list lists i h =
    let found : (i < length lists) × (pointwise nat_eq list (get_or lists i []) ≡ true) × ((k : ℕ) → k < i → pointwise nat_eq list (get_or lists k []) ≡ false) = position-Some (pointwise nat_eq list) lists i [] h in
    (found.0, sym ((bytes_decides list (get_or lists i [])).0 found.1))

pub place_in : (list : List ℕ) (lists : List (List ℕ)) (i : ℕ) → position (pointwise nat_eq list) lists ≡ Some i → In list lists
place_in list lists i h =
    let at : (i < length lists) × (get_or lists i [] ≡ list) = place_some list lists i h in
    subst (λ l. In l lists) at.1 (In_at lists i [] at.0)

-- and a list that has none is not among them
pub place_none : (list : List ℕ) (lists : List (List ℕ)) → position (pointwise nat_eq list) lists ≡ None → In list lists → ⊥
place_none list lists h i =
    both_ways (pointwise nat_eq list list) ((position-None (pointwise nat_eq list) lists h).each list i) ((bytes_decides list list).1 refl)
