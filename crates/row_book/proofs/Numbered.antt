-- The numbers of the packages whose flags are up.
use Rattle.std.proofs.Common.{◌≡◌, ℕ, suc, ◌+◌, Bool, true, false, cond, List, [], ◌∷◌, length, get_or, map, filter, refl, sym, ◌∙◌, ap, ap₂, subst, arith}
use Rattle.std.proofs.{lemmas.List.FromFn.{get_or-range_with_len, length-range_with_len}, lemmas.List.{take_all}}
use Rattle.std.specs.List.{items_where_true, range_with_len}
use Rattle.listed.specs.Lists.{Ascending, In, here, there}
use Rattle.listed.proofs.Orders.{ascending_filter}
use Rattle.row_book.specs.{Flags.{flag}, Parts.{clause_in, clauses_in, number_in, numbers_up, place_in}}
use Rattle.row_book.proofs.{Flags.{flag_in}, Numbers.{numbers_ascending, numbers_ranged}, Placed.{count_in, chosen_count, chosen_item}}

-- a test that tells the flags picks the same numbers as the flags
picked : (flags : List Bool) (s : ℕ) (p : ℕ → Bool) → ((i : ℕ) → p (s + i) ≡ flag flags i) → filter p (range_with_len s (length flags)) ≡ items_where_true flags (range_with_len s (length flags))
picked [] s p e = refl
picked (true ∷ flags) s p e =
    let rest : List ℕ = range_with_len (s + 1) (length flags) in
    let own : s ≡ s + 0 = omega arith in
    ap (λ b. cond b (s ∷ filter p rest) (filter p rest)) (ap p own ∙ e 0)
    ∙ ap (λ more. s ∷ more) (picked flags (s + 1) p (λ i. let next : s + 1 + i ≡ s + suc i = omega arith in ap p next ∙ e (suc i)))
picked (false ∷ flags) s p e =
    let rest : List ℕ = range_with_len (s + 1) (length flags) in
    let own : s ≡ s + 0 = omega arith in
    ap (λ b. cond b (s ∷ filter p rest) (filter p rest)) (ap p own ∙ e 0)
    ∙ picked flags (s + 1) p (λ i. let next : s + 1 + i ≡ s + suc i = omega arith in ap p next ∙ e (suc i))

up_items : (flags : List Bool) → numbers_up flags ≡ items_where_true flags (range_with_len 0 (length flags))
up_items flags = picked flags 0 (flag flags) (λ i. ap (flag flags) (let same : 0 + i ≡ i = omega arith in same))

pub up_count : (flags : List Bool) → length (numbers_up flags) ≡ count_in flags
up_count flags = ap length (up_items flags) ∙ chosen_count flags (range_with_len 0 (length flags)) (sym (length-range_with_len 0 (length flags)))

pub up_last : (flags : List Bool) → length (numbers_up flags) ≡ place_in flags (length flags)
up_last flags = up_count flags ∙ sym (ap count_in (take_all (length flags) flags (omega arith)))

pub up_ascends : (flags : List Bool) → Ascending (numbers_up flags)
up_ascends flags = ascending_filter (flag flags) (range_with_len 0 (length flags)) (subst Ascending (sym (numbers_ranged (length flags) 0)) (numbers_ascending (length flags) 0))

-- the number at the place of a package is its own
pub number_back : (flags : List Bool) (n : ℕ) → flag flags n ≡ true → number_in (numbers_up flags) (place_in flags n) ≡ n
number_back flags n up =
    ap (λ ns. get_or ns (place_in flags n) 0) (up_items flags) ∙ chosen_item flags (range_with_len 0 (length flags)) n 0 (sym (length-range_with_len 0 (length flags))) up
    ∙ get_or-range_with_len 0 (length flags) n 0 (flag_in flags n up) ∙ (let same : 0 + n ≡ n = omega arith in same)

-- clauses of packages that have places, there and back
pub clause_home : (flags : List Bool) (c : List ℕ) → ((n : ℕ) → In n c → flag flags n ≡ true) → clause_in (numbers_up flags) (map (place_in flags) c) ≡ c
clause_home flags [] up = refl
clause_home flags (n ∷ c) up = ap₂ (λ x xs. x ∷ xs) (number_back flags n (up n here)) (clause_home flags c (λ m i. up m (there i)))

pub clauses_home : (flags : List Bool) (cs : List (List ℕ)) → ((c : List ℕ) → In c cs → (n : ℕ) → In n c → flag flags n ≡ true) → clauses_in (numbers_up flags) (map (map (place_in flags)) cs) ≡ cs
clauses_home flags [] up = refl
clauses_home flags (c ∷ cs) up = ap₂ (λ x xs. x ∷ xs) (clause_home flags c (up c here)) (clauses_home flags cs (λ d i. up d (there i)))
