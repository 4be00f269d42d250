-- The count of a row, from the clauses that the row keeps, those that hold the package, and the useful ones.
use Rattle.std.proofs.Common.{◌≡◌, ◌≢◌, ◌⊎◌, eqb-true, ℕ, Bool, true, false, not, cond, eqb, List, [], ◌∷◌, ◌++◌, ◌+◌, ◌<◌, length, ap₂, append_assoc, get_or}
use Rattle.std.proofs.Common.{zero, suc, drop, drop-cons, add-one, take, inl, inr, refl, sym, ◌∙◌, ap, subst, arith}
use Rattle.std.proofs.lemmas.Bool.{both_ways, cases_Bool, eqb-false, not-true, or_from}
use Rattle.std.specs.List.{list_any}
use Rattle.listed.specs.Lists.{In, here, there, has, Ascending, Inside}
use Rattle.listed.proofs.Lists.{all_at, In_append_cases, In_append_left, In_append_right, In_at, In_cases, In_drop, In_flat, In_flat_cases, In_has, In_none}
use Rattle.listed.proofs.Lists.{has_In}
use Rattle.clause_pool.specs.{Lists.{InOrder}, Clauses.{apart_from, minimal_of, in_row_order}}
use Rattle.clause_pool.proofs.{Clauses.{apart_cases}, Order.{order_filter, order_same, ordered_has, ordered_order, ordered_parts}}
use Rattle.clause_families.specs.{Families.{SameClauses, all_unions}, Unions.{clause_without, union_of}}
use Rattle.clause_families.specs.Counting.{first_at, clauses_cut, is_apart, own_count, rest_of, slice_count, slices, AreParts, HasNumbers}
use Rattle.clause_families.specs.{Branches.{BuiltOf, TreeOf}, declared.{splitting.Parts.{Parts}, family_tree.FamilyTree.{FamilyTree}}}
use Rattle.clause_families.proofs.{Families.{At, taken_at}, Unions.{dropped_from, dropped_parts}, Rewritten.{Union, unions_cases, unions_from}}
use Rattle.clause_families.proofs.Counted.{Alone, Joins, all_clauses, alone_slice, count_is, joined, joins, not_twice, unions_of_all}

eq_cases : (m n : ℕ) → (m ≡ n) ⊎ (m ≢ n)
eq_cases m n = elim (cases_Bool (eqb m n)) [ inl h ↦ inl (eqb-true m n h) | inr h ↦ inr (eqb-false m n h) ]

pub record Cut (spent : ℕ) (A : List (List ℕ)) (c : List ℕ) : Type 0 where
  pub from : List ℕ
  pub one : In from A
  pub holds : In spent from
  pub is : c ≡ clause_without spent from

pub cut_cases : (spent : ℕ) (A : List (List ℕ)) (c : List ℕ) → In c (clauses_cut spent A) → Cut spent A c
cut_cases spent A c i =
    let w : (T : List ℕ) × In T A × In c (cond (has T spent) (clause_without spent T ∷ []) []) =
    In_flat_cases (λ clause. cond (has clause spent) (clause_without spent clause ∷ []) []) A c i in
    pick w.0 w.1 (has w.0 spent) refl w.2
  where
    pick : (T : List ℕ) → In T A → (b : Bool) → has T spent ≡ b → In c (cond b (clause_without spent T ∷ []) []) → Cut spent A c
    pick T j true e k = elim (In_cases k) [ inl f ↦ record { from = T; one = j; holds = has_In T spent e; is = f } | inr n ↦ absurd (In_none n) ]
    pick T j false e k = absurd (In_none k)

pub cut_from : (spent : ℕ) (A : List (List ℕ)) (T : List ℕ) → In T A → In spent T → In (clause_without spent T) (clauses_cut spent A)
cut_from spent A T i h =
    In_flat (λ clause. cond (has clause spent) (clause_without spent clause ∷ []) []) A T (clause_without spent T) i
    (subst (λ b. In (clause_without spent T) (cond b (clause_without spent T ∷ []) [])) (sym (In_has h)) here)

pub cut_ascending : (n : ℕ) (T : List ℕ) → Ascending T → Ascending (clause_without n T)
cut_ascending n [] a = tt
cut_ascending n (x ∷ xs) a = pick (not (eqb x n)) (cut_ascending n xs a.1)
  where
    pick : (b : Bool) → Ascending (clause_without n xs) → Ascending (cond b (x ∷ clause_without n xs) (clause_without n xs))
    pick true r = ((λ y i. a.0 y (dropped_parts n xs y i).0), r)
    pick false r = r

pub cut_none : (n : ℕ) (T : List ℕ) → (In n T → ⊥) → clause_without n T ≡ T
cut_none n [] h = refl
cut_none n (x ∷ xs) h = pick (eqb x n) refl (cut_none n xs (λ i. h (there i)))
  where
    pick : (b : Bool) → eqb x n ≡ b → clause_without n xs ≡ xs → cond (not b) (x ∷ clause_without n xs) (clause_without n xs) ≡ x ∷ xs
    pick true e r = absurd (h (subst (λ z. In z (x ∷ xs)) (eqb-true x n e) here))
    pick false e r = ap (λ z. x ∷ z) r

module _ (spent : ℕ) (A U kept first second : List (List ℕ)) (up : (c : List ℕ) → In c A → Ascending c) (useful_up : (c : List ℕ) → In c U → Ascending c)
    (minimal : (c d : List ℕ) → In c A → In d A → Inside c d → c ≡ d)
    (is_kept : kept ≡ apart_from spent A) (same_first : SameClauses (clauses_cut spent A) first) (same_second : SameClauses U second) where
  pub kept_rise : (c : List ℕ) → In c kept → Ascending c
  kept_rise c i = up c (apart_cases spent A c (subst (λ z. In c z) is_kept i)).0

  pub first_rise : (c : List ℕ) → In c first → Ascending c
  first_rise c i = let w : Cut spent A c = cut_cases spent A c (same_first.back c i) in subst Ascending (sym w.is) (cut_ascending spent w.from (up w.from w.one))

  pub second_rise : (c : List ℕ) → In c second → Ascending c
  second_rise c i = useful_up c (same_second.back c i)

  pub first_apart : (c : List ℕ) → In c first → In spent c → ⊥
  first_apart c i j = let w : Cut spent A c = cut_cases spent A c (same_first.back c i) in (dropped_parts spent w.from spent (subst (λ z. In spent z) w.is j)).1 refl

  -- a clause without the number is inside another one only where it is with the number
  whole_inside : (S T : List ℕ) → In spent T → Inside (clause_without spent S) T → Inside S T
  whole_inside S T h f n i = elim (eq_cases n spent) [ inl e ↦ subst (λ z. In z T) (sym e) h | inr d ↦ f n (dropped_from spent S n i d) ]

  pub first_minimal : (c d : List ℕ) → In c first → In d first → Inside c d → c ≡ d
  first_minimal c d i j f =
      let v : Cut spent A c = cut_cases spent A c (same_first.back c i) in
      let w : Cut spent A d = cut_cases spent A d (same_first.back d j) in
      v.is ∙ ap (clause_without spent) (minimal v.from w.from v.one w.one
      (whole_inside v.from w.from w.holds (λ n k. (dropped_parts spent w.from n (subst (λ z. In n z) w.is (f n (subst (λ z. In n z) (sym v.is) k)))).0)))
      ∙ sym w.is

  pub second_minimal : ((c d : List ℕ) → In c U → In d U → Inside c d → c ≡ d) → (c d : List ℕ) → In c second → In d second → Inside c d → c ≡ d
  second_minimal thin c d i j f = thin c d (same_second.back c i) (same_second.back d j) f

  kept_minimal : (c d : List ℕ) → In c kept → In d kept → Inside c d → c ≡ d
  kept_minimal c d i j f = minimal c d (apart_cases spent A c (subst (λ z. In c z) is_kept i)).0 (apart_cases spent A d (subst (λ z. In d z) is_kept j)).0 f

  pub kept_beside : (c d : List ℕ) → In c kept → In d first → Inside c d → ⊥
  kept_beside c d i j f =
      let w : Cut spent A d = cut_cases spent A d (same_first.back d j) in
      let a : In c A × (In spent c → ⊥) = apart_cases spent A c (subst (λ z. In c z) is_kept i) in
      a.1 (subst (λ z. In spent z) (sym (minimal c w.from a.0 w.one (λ n k. (dropped_parts spent w.from n (subst (λ z. In n z) w.is (f n k))).0))) w.holds)

  pub row_count_is : InOrder A → length (minimal_of (in_row_order (apart_from spent A ++ all_unions spent A U))) ≡ own_count kept first second + slices kept first second first
  row_count_is order =
      ap (λ z. length (minimal_of z))
      (order_same (in_row_order (apart_from spent A ++ all_unions spent A U)) (in_row_order (all_clauses kept first second kept_rise first_rise second_rise))
      (ordered_order (apart_from spent A ++ all_unions spent A U)) (ordered_order (all_clauses kept first second kept_rise first_rise second_rise))
      (λ c i. ordered_has (all_clauses kept first second kept_rise first_rise second_rise) c
      (elim (In_append_cases (apart_from spent A) (all_unions spent A U) c (ordered_parts (apart_from spent A ++ all_unions spent A U) c i)) [
        | inl j ↦ In_append_left kept (unions_of_all kept first second kept_rise first_rise second_rise first) c (subst (λ z. In c z) (sym is_kept) j)
        | inr j ↦
            let w : Union spent A U c = unions_cases spent A U c j in
            In_append_right kept (unions_of_all kept first second kept_rise first_rise second_rise first) c
            (subst (λ z. In z (unions_of_all kept first second kept_rise first_rise second_rise first)) (sym w.is)
            (joined kept first second kept_rise first_rise second_rise first (clause_without spent w.from) w.other
            (same_first.there (clause_without spent w.from) (cut_from spent A w.from w.one w.holds)) (same_second.there w.other w.with)))
      ]))
      (λ c i. ordered_has (apart_from spent A ++ all_unions spent A U) c
      (elim (In_append_cases kept (unions_of_all kept first second kept_rise first_rise second_rise first) c (ordered_parts (all_clauses kept first second kept_rise first_rise second_rise) c i)) [
        | inl j ↦ In_append_left (apart_from spent A) (all_unions spent A U) c (subst (λ z. In c z) is_kept j)
        | inr j ↦
            let w : Joins kept first second kept_rise first_rise second_rise first c = joins kept first second kept_rise first_rise second_rise first c j in
            let v : Cut spent A w.one = cut_cases spent A w.one (same_first.back w.one w.from) in
            In_append_right (apart_from spent A) (all_unions spent A U) c
            (subst (λ z. In z (all_unions spent A U)) (sym (w.is ∙ ap (λ z. union_of z w.other) v.is))
            (unions_from spent A U v.from w.other v.one v.holds (same_second.back w.other w.with)))
      ])))
      ∙ count_is kept first second kept_rise first_rise second_rise (subst InOrder (sym is_kept) (order_filter (λ c. not (has c spent)) A order)) kept_minimal

-- Steps of loops.

pub take_push : (xs : List (List ℕ)) (i : ℕ) (clause x : List ℕ) (first old new : List (List ℕ)) → At xs i clause → old ≡ first ++ take i xs → x ≡ clause →
    new ≡ old ++ x ∷ [] → new ≡ first ++ take (i + 1) xs
take_push xs i clause x first old new a e h g =
    g ∙ ap₂ (λ z y. z ++ y ∷ []) e h ∙ append_assoc first (take i xs) (clause ∷ []) ∙ ap (λ z. first ++ z) (sym (taken_at xs i clause a))

pub taken_cases : (xs : List (List ℕ)) (i : ℕ) (clause c : List ℕ) → At xs i clause → In c (take (i + 1) xs) → In c (take i xs) ⊎ (c ≡ clause)
taken_cases xs i clause c a j =
    elim (In_append_cases (take i xs) (clause ∷ []) c (subst (λ z. In c z) (taken_at xs i clause a) j)) [
      | inl k ↦ inl k
      | inr k ↦ elim (In_cases k) [ inl e ↦ inr e | inr n ↦ absurd (In_none n) ]
    ]

pub none_numbers : (test : ℕ → Bool) (xs : List ℕ) → ((k : ℕ) → k < length xs → test (get_or xs k 0) ≡ false) → list_any test xs ≡ false
none_numbers test [] f = refl
none_numbers test (x ∷ xs) f = or_from (test x) (list_any test xs) (f 0 (omega arith)) (none_numbers test xs (λ k l. f (suc k) (omega arith)))

-- The clauses of the first family, one after another.

pub order_from : (i : ℕ) (xs : List (List ℕ)) → InOrder xs → InOrder (drop i xs)
order_from zero xs o = o
order_from (suc i) [] o = tt
order_from (suc i) (x ∷ xs) o = order_from i xs o.1

fresh_at : (xs : List (List ℕ)) (i : ℕ) → InOrder xs → i < length xs → In (get_or xs i []) (drop (i + 1) xs) → ⊥
fresh_at xs i o l j =
    not_twice (get_or xs i []) (drop (i + 1) xs) (subst InOrder (drop-cons xs i [] l ∙ ap (λ n. get_or xs i [] ∷ drop n xs) (sym (add-one i))) (order_from i xs o)) j

pub apart_alone : (family : List (List ℕ)) (numbers clause : List ℕ) → HasNumbers family numbers → is_apart numbers clause ≡ true → Alone family clause
apart_alone family numbers clause f h c i n j k =
    both_ways (has numbers n) (not-true (has numbers n) (all_at (λ n. not (has numbers n)) clause h n k)) (In_has (f c i n j))

module _ (parts : Parts) (are : AreParts parts) where
  pub later_tree : (tree : FamilyTree) (i : ℕ) → BuiltOf tree (drop i parts.first.clauses.items) → TreeOf tree (drop i parts.first.clauses.items)
  later_tree tree i b = record {
    in_order = order_from i parts.first.clauses.items are.first.in_order;
    rising = λ c j. are.first.rising c (In_drop i parts.first.clauses.items c j);
    by = b;
  }

  pub slice_split : (i : ℕ) → i < length parts.first.clauses.items → ((c d : List ℕ) → In c parts.first.clauses.items → In d parts.first.clauses.items → Inside c d → c ≡ d) →
      ((c d : List ℕ) → In c parts.second.clauses.items → In d parts.second.clauses.items → Inside c d → c ≡ d) →
      ((c d : List ℕ) → In c parts.kept.clauses.items → In d parts.first.clauses.items → Inside c d → ⊥) →
      is_apart parts.numbers.items (first_at parts i) ≡ true →
      slice_count parts.kept.clauses.items parts.first.clauses.items parts.second.clauses.items (rest_of parts i) (first_at parts i) parts.second.clauses.items
      ≡ length parts.alone.items + slice_count parts.kept.clauses.items parts.first.clauses.items parts.second.clauses.items (rest_of parts i) (first_at parts i) parts.others.items
  slice_split i l thin_first thin_second beside h =
      alone_slice parts.kept.clauses.items parts.first.clauses.items parts.second.clauses.items are.kept.rising are.first.rising are.second.rising thin_first thin_second beside
      (first_at parts i) (In_at parts.first.clauses.items i [] l)
      (apart_alone parts.second.clauses.items parts.numbers.items (first_at parts i) are.of_second h)
      (apart_alone parts.kept.clauses.items parts.numbers.items (first_at parts i) are.of_kept h)
      (is_apart are.split.near) (rest_of parts i) are.second.in_order
      (λ b j t. (apart_alone parts.first.clauses.items are.split.near b are.split.of_first t, apart_alone parts.kept.clauses.items are.split.near b are.split.of_kept t))
      (λ c j. In_drop (i + 1) parts.first.clauses.items c j)
      (fresh_at parts.first.clauses.items i are.first.in_order l)
      ∙ ap₂ (λ x y. length x + slice_count parts.kept.clauses.items parts.first.clauses.items parts.second.clauses.items (rest_of parts i) (first_at parts i) y)
      (sym are.split.alone) (sym are.split.others)

pub rw_parts : {K L F G S T : List (List ℕ)} → L ≡ K → G ≡ F → T ≡ S → own_count K F S + slices K F S F ≡ own_count L G T + slices L G T G
rw_parts {K} {L} {F} {G} {S} {T} e f g =
    ap (λ z. own_count z F S + slices z F S F) (sym e) ∙ ap (λ z. own_count L z S + slices L z S z) (sym f) ∙ ap (λ z. own_count L G z + slices L G z G) (sym g)
