-- The base of the first packages of a book.
use Rattle.std.proofs.Common.{◌≡◌, ℕ, zero, suc, ◌+◌, ◌-◌, ◌<◌, ◌≤◌, ◌⊎◌, Bool, true, false, ltb, List, [], ◌∷◌, ◌++◌, length, map, replicate, None, inl, inr}
use Rattle.std.proofs.{Common.{refl, sym, ◌∙◌, ap, subst, arith}, lemmas.Bool.{cases_lt, le-ltb, lt-ltb, ltb-true}}
use Rattle.std.proofs.lemmas.List.{get_or-map, get_or_past, length-append, length-map, length-replicate}
use Rattle.row_book.specs.{Parts.{clause_in, clauses_in, number_in, numbers_up, part, place_in, row_in}, Book.{listed_for, repository_of, Sound}, Flags.{flag}}
use Rattle.row_book.specs.{Flattening.{core_of, flat, passes}, Repository.{Repository, clauses_of}, Support.{row}, Uses.{row_id, uses_of}}
use Rattle.row_book.specs.declared.book.Book.{Book}
use Rattle.row_book.proofs.{Numbered.{number_back}, PartSound.{conflict_in_book, made_count}, Placed.{count_in}, Books.{clauses_row}}
use Rattle.row_book.proofs.Users.{length_uses, list_of_uses, user_within}
use Rattle.std.specs.Prelude.{slice_index_or}
use Rattle.clause_pool.specs.{Compacting.{RowsOf}, Interned.{Interned, row_at, IsPool, Kept}}
use Rattle.clause_pool.proofs.Interned.{row_stays}
use Rattle.clause_flatten.proofs.TidyFlat.{flat_row, flat_size}
use Rattle.listed.specs.Lists.{In}
use Rattle.listed.proofs.Lists.{In_append_cases, In_at, In_cases, In_map, In_map_cases, In_none, map_own}
use Rattle.suite_part.specs.{BaseRows.{AreBaseRows}, Bases.{first_flags, first_part, row_of_part, FitsIn, IsBase}, Renewed.{EndsInEmpty}}
use Rattle.suite_part.specs.declared.base.Base.{Base}

-- the flags of the first packages
first_up : (count k n : ℕ) → n < count → flag (replicate count true ++ replicate k false) n ≡ true
first_up zero k n l = absurd (omega arith)
first_up (suc count) k zero l = refl
first_up (suc count) k (suc n) l = first_up count k n (omega arith)

first_down : (count k n : ℕ) → count ≤ n → flag (replicate count true ++ replicate k false) n ≡ false
first_down zero zero n l = refl
first_down zero (suc k) zero l = refl
first_down zero (suc k) (suc n) l = first_down zero k n (omega arith)
first_down (suc count) k zero l = absurd (omega arith)
first_down (suc count) k (suc n) l = first_down count k n (omega arith)

first_flag : (count k n : ℕ) → flag (replicate count true ++ replicate k false) n ≡ ltb n count
first_flag count k n =
    elim (cases_lt n count) [
      | inl l ↦ first_up count k n l ∙ sym (lt-ltb n count l)
      | inr past ↦ first_down count k n (omega arith) ∙ sym (le-ltb n count (omega arith))
    ]

-- each of them keeps its number
first_place : (count k n : ℕ) → n < count → place_in (replicate count true ++ replicate k false) n ≡ n
first_place zero k n l = absurd (omega arith)
first_place (suc count) k zero l = refl
first_place (suc count) k (suc n) l = ap suc (first_place count k n (omega arith))

count_none : (m : ℕ) → count_in (replicate m false) ≡ 0
count_none zero = refl
count_none (suc m) = count_none m

count_first : (count m : ℕ) → count_in (replicate count true ++ replicate m false) ≡ count
count_first zero m = count_none m
count_first (suc count) m = ap suc (count_first count m)

first_length : (count size : ℕ) → count ≤ size → length (first_flags count size) ≡ size
first_length count size l =
    let parts : length (first_flags count size) ≡ length (replicate count true) + length (replicate (size - count) false) = length-append (replicate count true) (replicate (size - count) false) in
    omega (arith, parts, length-replicate count true, length-replicate (size - count) false)

-- as many packages are in the first part
first_size : (count : ℕ) (R : Repository) → count ≤ length R.clauses → length (first_part count R).clauses ≡ count
unfolding part
first_size count R l =
    made_count (row_in (first_flags count (length R.clauses))) (first_flags count (length R.clauses)) R.clauses (first_length count (length R.clauses) l)
    ∙ count_first count (length R.clauses - count)

-- the part that was made
pub first_made : (from work : Interned) (book of_part : Book) (count : ℕ) (flags : List Bool) → flags ≡ first_flags count (length book.rows) → repository_of work of_part ≡ part flags (repository_of from book)
    → repository_of work of_part ≡ first_part count (repository_of from book)
first_made from work book of_part count flags first part_is = part_is ∙ ap (λ z. part z (repository_of from book)) (first ∙ ap (first_flags count) (sym (length-map book.rows (row_at from))))

-- the items of two lists
front_item : (xs ys : List ℕ) (n : ℕ) → n < length xs → row_id (xs ++ ys) n ≡ row_id xs n
front_item [] ys n l = absurd (omega arith)
front_item (x ∷ xs) ys zero l = refl
front_item (x ∷ xs) ys (suc n) l = front_item xs ys n (omega arith)

one_item : (count x y : ℕ) → In y (replicate count x) → y ≡ x
one_item zero x y i = absurd (In_none i)
one_item (suc count) x y i = elim (In_cases i) [ inl e ↦ e | inr j ↦ one_item count x y j ]

module _ (from work next new last : Interned) (book of_part flattened : Book) (count limit : ℕ) (flags : List Bool) (few rows : List ℕ) (l : count ≤ length book.rows) (first : flags ≡ first_flags count (length book.rows))
    (part_is : repository_of work of_part ≡ part flags (repository_of from book)) (flat_is : repository_of next flattened ≡ flat limit false (repository_of work of_part))
    (same : map (row_at new) few ≡ map (row_at next) flattened.rows) (sound : Sound next flattened) (within : RowsOf new few) (is_pool : IsPool new) (kept : Kept new last) (more : EndsInEmpty last few (length book.rows - count) rows) where
  whole : length (repository_of from book).clauses ≡ length book.rows
  whole = length-map book.rows (row_at from)

  part_first : repository_of work of_part ≡ first_part count (repository_of from book)
  part_first = first_made from work book of_part count flags first part_is

  flat_count : length flattened.rows ≡ count
  flat_count =
      sym (length-map flattened.rows (row_at next)) ∙ ap (λ R. length R.clauses) flat_is ∙ flat_size limit false (repository_of work of_part) ∙ ap (λ R. length R.clauses) part_first
      ∙ first_size count (repository_of from book) (subst (λ z. count ≤ z) (sym whole) l)

  few_count : length few ≡ count
  few_count = sym (length-map few (row_at new)) ∙ ap length same ∙ length-map flattened.rows (row_at next) ∙ flat_count

  -- a row that was carried over
  few_kept : (id : ℕ) → In id few → row_at last id ≡ row_at new id
  few_kept id i = row_stays new last is_pool kept id (within id i)

  few_numbers : (id : ℕ) → In id few → (c : List ℕ) → In c (row_at last id) → (n : ℕ) → In n c → n < count
  few_numbers id i c j n k =
      let w : (old : ℕ) × In old flattened.rows × (row_at new id ≡ row_at next old) = In_map_cases (row_at next) flattened.rows (row_at new id) (subst (λ z. In (row_at new id) z) same (In_map (row_at new) few id i)) in
      subst (λ z. n < z) flat_count (sound.rows.numbers w.0 w.1 c (subst (λ z. In c z) (few_kept id i ∙ w.2) j) n k)

  all_within : (id : ℕ) → In id few ⊎ (id ≡ more.id) → id < length last.rows
  all_within id (inl i) = (kept.rows id (within id i)).0
  all_within id (inr e) = subst (λ z. z < length last.rows) (sym e) more.within

  all_numbers : (id : ℕ) → In id few ⊎ (id ≡ more.id) → (c : List ℕ) → In c (row_at last id) → (n : ℕ) → In n c → n < length flags
  all_numbers id (inl i) c j n k =
      let small : n < count = few_numbers id i c j n k in
      let long : length flags ≡ length book.rows = ap length first ∙ first_length count (length book.rows) l in
      omega (arith, l)
  all_numbers id (inr e) c j n k = absurd (In_none (subst (λ z. In c z) (ap (row_at last) e ∙ more.empty) j))

  either : (id : ℕ) → In id rows → In id few ⊎ (id ≡ more.id)
  either id i =
      elim (In_append_cases few (replicate (length book.rows - count) more.id) id (subst (λ z. In id z) more.are i)) [
        | inl j ↦ inl j
        | inr j ↦ inr (one_item (length book.rows - count) more.id id j)
      ]

  pub base_rows : IsPool last → AreBaseRows last rows (length flags)
  base_rows is = record {
    size =
        let parts : length rows ≡ length few + length (replicate (length book.rows - count) more.id) = ap length more.are ∙ length-append few (replicate (length book.rows - count) more.id) in
        let long : length flags ≡ length book.rows = ap length first ∙ first_length count (length book.rows) l in
        omega (arith, l, few_count, length-replicate (length book.rows - count) more.id);
    of_pool = λ id i. all_within id (either id i);
    clauses = λ id i. is.of_pool id (all_within id (either id i));
    numbers = λ id i. all_numbers id (either id i);
  }

  abbrev firsts : List Bool
  firsts = first_flags count (length book.rows)

  abbrev R : Repository
  R = part firsts (repository_of from book)

  part_firsts : repository_of work of_part ≡ R
  part_firsts = part_is ∙ ap (λ z. part z (repository_of from book)) first

  early : (n : ℕ) → flag firsts n ≡ true → n < count
  early n up = ltb-true n count (sym (first_flag count (length book.rows - count) n) ∙ up)

  own_number : (n : ℕ) → n < count → number_in (numbers_up firsts) n ≡ n
  own_number n k =
      ap (number_in (numbers_up firsts)) (sym (first_place count (length book.rows - count) n k)) ∙ number_back firsts n (first_up count (length book.rows - count) n k)

  carried : (n : ℕ) → n < count → row_at new (row_id few n) ≡ row R (core_of limit false R) n
  carried n k =
      let size : length few ≡ count = few_count in
      let long : length flattened.rows ≡ count = flat_count in
      let many : length R.clauses ≡ count = ap (λ S. length S.clauses) (sym part_firsts ∙ part_first) ∙ first_size count (repository_of from book) (subst (λ z. count ≤ z) (sym whole) l) in
      sym (get_or-map (row_at new) few n 0 [] (omega arith)) ∙ ap (λ table. slice_index_or table n []) same ∙ get_or-map (row_at next) flattened.rows n 0 [] (omega arith)
      ∙ sym (clauses_row next flattened n (omega arith)) ∙ ap (λ S. clauses_of S n) (flat_is ∙ ap (flat limit false) part_firsts) ∙ flat_row limit false R n (omega arith)

  first_row : (n : ℕ) → flag firsts n ≡ true → row_at last (row_id rows n) ≡ row_of_part limit firsts (repository_of from book) n
  first_row n up =
      let k : n < count = early n up in
      let size : length few ≡ count = few_count in
      let i : In (row_id few n) few = In_at few n 0 (omega arith) in
      let stays : row_at last (row_id few n) ≡ row R (core_of limit false R) n = few_kept (row_id few n) i ∙ carried n k in
      ap (row_at last) (ap (λ z. row_id z n) more.are ∙ front_item few (replicate (length book.rows - count) more.id) n (omega arith))
      ∙ sym (map_own (clause_in (numbers_up firsts)) (row_at last (row_id few n))
      (λ c j. map_own (number_in (numbers_up firsts)) c (λ m u. own_number m (few_numbers (row_id few n) i c j m u))))
      ∙ ap (clauses_in (numbers_up firsts)) (stays ∙ ap (row R (core_of limit false R)) (sym (first_place count (length book.rows - count) n k)))

  pub base_made : (base : Base) → base.flags.items ≡ firsts → base.limit ≡ limit → base.pool ≡ last → base.rows.items ≡ rows → base.users ≡ uses_of from book.rows → passes limit false (repository_of work of_part) ≡ None → IsPool last → IsBase from book base
  base_made base same_flags same_limit same_pool same_rows users none pool = record {
    is_pool = subst IsPool (sym same_pool) pool;
    size = ap length same_flags ∙ first_length count (length book.rows) l;
    rows = rw (same_flags, same_limit, same_pool, same_rows) first_row;
    none_passes = rw (same_flags, same_limit) (sym (ap (passes limit false) part_firsts) ∙ none);
    users_are = users;
  }

-- a base fits the book that it is of
base_users : (from : Interned) (book : Book) (base : Base) → IsBase from book base → length base.users ≡ length book.rows
base_users from book base is = ap length is.users_are ∙ length_uses from book.rows

base_numbers : (from : Interned) (book : Book) (base : Base) → IsBase from book base → (n m : ℕ) → In m (listed_for base.users n) → m < length book.rows
base_numbers from book base is n m i =
    elim (cases_lt n (length book.rows)) [
      | inl l ↦ (user_within from book.rows n m (subst (In m) (ap (λ users. listed_for users n) is.users_are ∙ list_of_uses from book.rows n l) i)).0
      | inr l ↦ absurd (In_none (subst (In m) (get_or_past base.users n [] (let e : length base.users ≡ length book.rows = base_users from book base is in omega arith)) i))
    ]

pub base_fits : (from : Interned) (book : Book) (base : Base) → Sound from book → IsBase from book base → FitsIn book base
base_fits from book base sound is = record {
  size = is.size;
  users = base_users from book base is;
  numbers = base_numbers from book base is;
  conflicts = conflict_in_book book sound.conflicts;
}
