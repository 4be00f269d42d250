-- Taking out what is not served.
use Rattle.std.proofs.Common.{◌≡◌, ◌≢◌, ℕ, zero, suc, ◌+◌, ◌*◌, ◌<◌, ◌≤◌, Bool, true, false, ◌||◌, eqb, cond, List, [], ◌∷◌, ◌++◌, ◌⊎◌, length, get_or, set}
use Rattle.std.proofs.Common.{refl, ap, sym, ◌∙◌, arith, inl, inr, subst, eqb-true, map, replicate}
use Rattle.std.proofs.lemmas.Bool.{cases_Bool, cases_eq, cases_lt, or_cases, or_left, or_right, both_ways, false_from_ne_true}
use Rattle.std.proofs.lemmas.List.{length-map, length-replicate, get_or-replicate, get_or_past, get_or-set_same, get_or-set_other}
use Rattle.std.proofs.lemmas.List.Sums.{sum_by-set, sum_by-cons}
use Rattle.std.specs.{Prelude.{count_by}, List.{list_any, sum_by}}
use Rattle.listed.proofs.Lists.{none_in, In_cases, In_none, In_has, has_In, In_append_cases, item_in, any_from, any_cases, all_from, all_at, in_push}
use Rattle.clause_pool.specs.Interned.{Interned, row_at, clause_at, clauses_at, ids_at}
use Rattle.row_book.specs.{Sets.{NumSet, Is, Within, Hit}, Repository.{Repository, clauses_of, against}, Book.{listed_for, repository_of, Sound}}
use Rattle.row_book.specs.{declared.book.Book.{Book}, Flags.{flag}, Uses.{row_id, some_holds}}
use Rattle.listed.specs.Lists.{In, here, there, has}
use Rattle.row_book.proofs.{Books.{clauses_row}, Flags.{flag_in}}
use Rattle.clause_flatten.specs.Laws.{Lifts}
use Rattle.install_lift.specs.Raising.{is_served, IsLowering, PutsUser}

in_front : (xs ys : List ℕ) (n : ℕ) → In n xs → In n (xs ++ ys)
in_front [] ys n i = absurd (In_none i)
in_front (x ∷ xs) ys n i = elim (In_cases i) [ inl e ↦ subst (λ z. In z (x ∷ (xs ++ ys))) (sym e) here | inr j ↦ there (in_front xs ys n j) ]

in_back : (xs ys : List ℕ) (n : ℕ) → In n ys → In n (xs ++ ys)
in_back [] ys n i = i
in_back (x ∷ xs) ys n i = there (in_back xs ys n i)

-- a row that is served, as a fact
pub served_row : (I J : NumSet) (row : List (List ℕ)) → is_served I J row ≡ true → (c : List ℕ) → In c row → Hit (λ m. Is I m ⊎ Is J m) c
served_row I J row h c i =
    let t : list_any (λ n. I n || J n) c ≡ true = all_at (λ d. list_any (λ n. I n || J n) d) row h c i in
    let w = any_cases (λ n. I n || J n) c t in
    record { by = w.0; inside = w.1; alive = or_cases (I w.0) (J w.0) w.2 }

either_true : (I J : NumSet) (n : ℕ) → Is I n ⊎ Is J n → (I n || J n) ≡ true
either_true I J n (inl a) = or_left (I n) (J n) a
either_true I J n (inr b) = or_right (I n) (J n) b

pub row_served : (I J : NumSet) (row : List (List ℕ)) → ((c : List ℕ) → In c row → Hit (λ m. Is I m ⊎ Is J m) c) → is_served I J row ≡ true
row_served I J row h = all_from (λ d. list_any (λ n. I n || J n) d) row (λ c i. let w = h c i in any_from (λ n. I n || J n) c w.by w.inside (either_true I J w.by w.alive))

pub hit_more : (I J K : NumSet) (c : List ℕ) → Within J K → Hit (λ m. Is I m ⊎ Is J m) c → Hit (λ m. Is I m ⊎ Is K m) c
hit_more I J K c w h = record { by = h.by; inside = h.inside; alive = elim h.alive [ inl a ↦ inl a | inr b ↦ inr (w h.by b) ] }

-- all that wait were looked at
pub lowered : (R : Repository) (I J : NumSet) (place : ℕ) (table : List (List ℕ)) (work : List ℕ) → place ≡ length R.clauses → work ≡ [] → IsLowering R I J place table work → Lifts R I J
lowered R I J place table work all none low = record {
  served = record {
    packages = low.packages;
    free = low.free;
    abundance = λ n j c i.
        let lt = low.packages n j in
        elim (low.settled n (omega (arith, all, lt)) j) [ inl s ↦ served_row I J (clauses_of R n) s c i | inr w ↦ absurd (In_none (rw none at w)) ];
  };
  greatest = low.greatest;
}

-- one that is out, or served, need not wait
pub pop_out : (R : Repository) (I J : NumSet) (place : ℕ) (table : List (List ℕ)) (work rest : List ℕ) (p : ℕ) → work ≡ rest ++ p ∷ [] → J p ≡ false → IsLowering R I J place table work → IsLowering R I J place table rest
pop_out R I J place table work rest p e out low = record {
  packages = low.packages;
  free = low.free;
  greatest = low.greatest;
  settled = λ n lt j. elim (low.settled n lt j) [
    | inl s ↦ inl s
    | inr w ↦ elim (in_push rest p n (rw e at w)) [ inl a ↦ inr a | inr b ↦ absurd (both_ways (J p) out (subst (λ z. J z ≡ true) b j)) ]
  ];
  waiting = λ n i. low.waiting n (rw e (in_front rest (p ∷ []) n i));
  users = low.users;
}

pub pop_served : (R : Repository) (I J : NumSet) (place : ℕ) (table : List (List ℕ)) (work rest : List ℕ) (p : ℕ) → work ≡ rest ++ p ∷ [] → is_served I J (clauses_of R p) ≡ true → IsLowering R I J place table work → IsLowering R I J place table rest
pop_served R I J place table work rest p e served low = record {
  packages = low.packages;
  free = low.free;
  greatest = low.greatest;
  settled = λ n lt j. elim (low.settled n lt j) [
    | inl s ↦ inl s
    | inr w ↦ elim (in_push rest p n (rw e at w)) [ inl a ↦ inr a | inr b ↦ inl (subst (λ z. is_served I J (clauses_of R z) ≡ true) (sym b) served) ]
  ];
  waiting = λ n i. low.waiting n (rw e (in_front rest (p ∷ []) n i));
  users = low.users;
}

-- one more may wait
wait_more : (R : Repository) (I J : NumSet) (place : ℕ) (table : List (List ℕ)) (work : List ℕ) (p : ℕ) → p < length R.clauses → IsLowering R I J place table work → IsLowering R I J place table (work ++ p ∷ [])
wait_more R I J place table work p lt low = record {
  packages = low.packages;
  free = low.free;
  greatest = low.greatest;
  settled = λ n below j. elim (low.settled n below j) [ inl s ↦ inl s | inr w ↦ inr (in_front work (p ∷ []) n w) ];
  waiting = λ n i. elim (in_push work p n i) [ inl a ↦ low.waiting n a | inr b ↦ rw b lt ];
  users = low.users;
}

-- one that is not served is taken out, and those that name it wait
taken_set : (R : Repository) (I J new : NumSet) (place : ℕ) (table : List (List ℕ)) (work rest : List ℕ) (p : ℕ) → work ≡ rest ++ p ∷ [] → is_served I J (clauses_of R p) ≡ false → Is J p
    → ((n : ℕ) → Is new n → Is J n × (n ≢ p)) → ((n : ℕ) → Is J n → n ≢ p → Is new n)
    → IsLowering R I J place table work → IsLowering R I new place table (rest ++ listed_for table p)
taken_set R I J new place table work rest p e unserved up less more low = record {
  packages = λ n j. low.packages n (less n j).0;
  free = λ n m j. low.free n m (less n j).0;
  greatest = λ K served n k. more n (low.greatest K served n k) (λ same_one. both_ways (is_served I J (clauses_of R p)) unserved
      (row_served I J (clauses_of R p) (λ c i. hit_more I K J c (low.greatest K served) (served.abundance p (subst (λ z. K z ≡ true) same_one k) c i))));
  settled = λ n lt j.
      let was = less n j in
      elim (low.settled n lt was.0) [
        | inr w ↦ elim (in_push rest p n (rw e at w)) [ inl a ↦ inr (in_front rest (listed_for table p) n a) | inr b ↦ absurd (was.1 b) ]
        | inl s ↦ elim (cases_Bool (some_holds (clauses_of R n) p)) [
          | inl t ↦
              let w = any_cases (λ c. has c p) (clauses_of R n) t in
              inr (in_back rest (listed_for table p) n (low.users.listed n lt was.0 w.0 w.1 p (has_In w.0 p w.2) up))
          | inr f ↦ inl (row_served I new (clauses_of R n) (λ c i.
              let h = served_row I J (clauses_of R n) s c i in
              record {
                by = h.by;
                inside = h.inside;
                alive = elim h.alive [
                  | inl a ↦ inl a
                  | inr b ↦ inr (more h.by b (λ same_one. both_ways (some_holds (clauses_of R n) p) f (any_from (λ d. has d p) (clauses_of R n) c i (In_has (subst (λ z. In z c) same_one h.inside)))))
                ];
              }))
        ]
      ];
  waiting = λ n i. elim (In_append_cases rest (listed_for table p) n i) [
    | inl a ↦ low.waiting n (rw e (in_front rest (p ∷ []) n a))
    | inr b ↦ low.users.packages p n b
  ];
  users = record {
    size = low.users.size;
    packages = low.users.packages;
    listed = λ q lt j c i n k now. low.users.listed q lt (less q j).0 c i n k (less n now).0;
  };
}

-- the next package has no flag
pub next_out : (R : Repository) (I J : NumSet) (place : ℕ) (table : List (List ℕ)) (work : List ℕ) → J place ≡ false → IsLowering R I J place table work → IsLowering R I J (place + 1) table work
next_out R I J place table work out low = record {
  packages = low.packages;
  free = low.free;
  greatest = low.greatest;
  settled = λ n lt j. low.settled n (below n lt j) j;
  waiting = low.waiting;
  users = record {
    size = low.users.size;
    packages = low.users.packages;
    listed = λ p lt j. low.users.listed p (below p lt j) j;
  };
}
  where
    below : (n : ℕ) → n < place + 1 → Is J n → n < place
    below n lt j = elim (cases_eq n place) [ inl e ↦ absurd (both_ways (J place) out (subst (λ z. J z ≡ true) e j)) | inr ne ↦ omega (arith, lt, ne) ]

-- the next package is served, and is put to the users of what it names
pub next_served : (R : Repository) (I J : NumSet) (place : ℕ) (table new : List (List ℕ)) (work : List ℕ) → place < length R.clauses → is_served I J (clauses_of R place) ≡ true → PutsUser J (clauses_of R place) place table new
    → IsLowering R I J place table work → IsLowering R I J (place + 1) new work
next_served R I J place table new work within served puts low = record {
  packages = low.packages;
  free = low.free;
  greatest = low.greatest;
  settled = λ n lt j. elim (cases_eq n place) [
    | inl e ↦ inl (subst (λ z. is_served I J (clauses_of R z) ≡ true) (sym e) served)
    | inr ne ↦ low.settled n (omega (arith, lt, ne)) j
  ];
  waiting = low.waiting;
  users = record {
    size = puts.size ∙ low.users.size;
    packages = λ n p i. elim (puts.only n p i) [ inl a ↦ low.users.packages n p a | inr b ↦ rw b within ];
    listed = λ p lt j c i n k now. elim (cases_eq p place) [
      | inl e ↦ subst (λ z. In z (listed_for new n)) (sym e) (puts.listed c (subst (λ z. In c (clauses_of R z)) e i) n k now)
      | inr ne ↦ puts.kept n p (low.users.listed p (omega (arith, lt, ne)) j c i n k now)
    ];
  };
}

pub flag_less : (flags : List Bool) (p n : ℕ) → p < length flags → Is (flag (set flags p false)) n → Is (flag flags) n × (n ≢ p)
flag_less flags p n lt h = elim (cases_eq n p) [
  | inl e ↦ absurd (both_ways (get_or (set flags p false) n false) (rw e (get_or-set_same flags p false false lt)) h)
  | inr ne ↦ (sym (get_or-set_other flags p n false false ne) ∙ h, ne)
]

pub flag_more : (flags : List Bool) (p n : ℕ) → Is (flag flags) n → n ≢ p → Is (flag (set flags p false)) n
flag_more flags p n h ne = get_or-set_other flags p n false false ne ∙ h

pub fewer_up : (flags : List Bool) (p : ℕ) → p < length flags → flag flags p ≡ true → count_by (λ b. b) (set flags p false) + 1 ≡ count_by (λ b. b) flags
fewer_up flags p lt t =
    let e : count_by (λ b. b) (set flags p false) + cond (get_or flags p false) 1 0 ≡ count_by (λ b. b) flags + 0 = sum_by-set (λ b. cond b 1 0) flags p false false lt in
    omega (arith, rw t at e)

pub less_work : (c d n a b u : ℕ) → d + 1 ≡ c → a ≡ b + 1 → u ≤ n → d * (n + 1) + (b + u) < c * (n + 1) + a
less_work c d n a b u e f le = let g : c ≡ d + 1 = sym e in rw (g, f) (omega (arith, le))

-- the flags so far
pub record AreFree (conflicts : List (List ℕ)) (k : ℕ) (flags : List Bool) : Type 0 where
  pub long : length flags ≡ k
  pub each : (n : ℕ) → n < k → flag flags n ≡ eqb (length (listed_for conflicts n)) 0

none_listed : (xs : List ℕ) (n : ℕ) → eqb (length xs) 0 ≡ true → has xs n ≡ false
none_listed [] n h = refl
none_listed (x ∷ xs) n h = absurd (let e = eqb-true (length (x ∷ xs)) 0 h in omega (arith, e))

pub free_all : (pool : Interned) (book : Book) (k : ℕ) (I : NumSet) (flags : List Bool) (table : List (List ℕ)) (work : List ℕ) → Sound pool book → k ≡ length book.rows → AreFree book.conflicts k flags → table ≡ replicate (length book.rows) [] → work ≡ []
    → IsLowering (repository_of pool book) I (flag flags) 0 table work
free_all pool book k I flags table work sound e inv f g = record {
  packages = λ n j. rw (length_map (row_at pool) book.rows, ← e, ← inv.long) (flag_in flags n j);
  free = λ n m j.
      let empty = free_at n j in (
        none_listed (listed_for book.conflicts n) m empty,
        false_from_ne_true (against (repository_of pool book) m n) (λ t. both_ways (has (listed_for book.conflicts n) m) (none_listed (listed_for book.conflicts n) m empty) (sound.conflicts.either_way m n t)),
      );
  greatest = λ K served n i.
      let lt : n < k = subst (λ z. n < z) (length_map (row_at pool) book.rows ∙ sym e) (served.packages n i) in
      inv.each n lt ∙ none_in (listed_for book.conflicts n) (λ m. (served.free n m i).0);
  settled = λ n lt j. absurd (omega (arith, lt));
  waiting = λ n i. absurd (In_none (rw g at i));
  users = record {
    size = ap length f ∙ length-replicate (length book.rows) [] ∙ sym (length_map (row_at pool) book.rows);
    packages = λ n p i. absurd (In_none (subst (λ xs. In p xs) (ap (λ t. listed_for t n) f ∙ all_empty (length book.rows) n) i));
    listed = λ p lt j. absurd (omega (arith, lt));
  };
}
  where
    length_map : {X Y : Type 0} (f : X → Y) (xs : List X) → length (map f xs) ≡ length xs
    length_map f [] = refl
    length_map f (x ∷ xs) = let e = length_map f xs in omega (arith, e)

    all_empty : (k n : ℕ) → listed_for (replicate k []) n ≡ []
    all_empty k n = elim (cases_lt n k) [ inl lt ↦ get_or-replicate k n [] [] lt | inr ge ↦ get_or_past (replicate k []) n [] (rw length-replicate ge) ]

    free_at : (n : ℕ) → flag flags n ≡ true → eqb (length (listed_for book.conflicts n)) 0 ≡ true
    free_at n j = sym (inv.each n (rw inv.long at (flag_in flags n j))) ∙ j

pub not_served : (I J : NumSet) (pool : Interned) (ids : List ℕ) (k id : ℕ) (clause : List ℕ) → k < length ids → id ≡ get_or ids k id → clause ≡ clause_at pool id → list_any (λ n. I n || J n) clause ≡ false
    → false ≡ is_served I J (clauses_at pool ids)
not_served I J pool ids k id clause lt is lent f = sym (false_from_ne_true (is_served I J (clauses_at pool ids)) (λ t.
    both_ways (list_any (λ n. I n || J n) clause) f (rw lent (all_at (λ d. list_any (λ n. I n || J n) d) (clauses_at pool ids) t (clause_at pool id) (in_map (clause_at pool) ids id (item_in ids k id lt is))))))
  where
    in_map : (f : ℕ → List ℕ) (xs : List ℕ) (x : ℕ) → In x xs → In (f x) (map f xs)
    in_map f [] x i = absurd (In_none i)
    in_map f (y ∷ xs) x i = elim (In_cases i) [ inl e ↦ subst (λ w. In (f w) (map f (y ∷ xs))) (sym e) here | inr j ↦ there (in_map f xs x j) ]

-- the clauses of a package, and whether it is served
pub clauses_are : (pool : Interned) (book : Book) (p row : ℕ) (ids : List ℕ) → p < length book.rows → row ≡ row_id book.rows p → ids ≡ ids_at pool row → clauses_of (repository_of pool book) p ≡ clauses_at pool ids
clauses_are pool book p row ids lt e lent = clauses_row pool book p lt ∙ ap (row_at pool) (sym e) ∙ ap (clauses_at pool) (sym lent)

pub served_at : (pool : Interned) (book : Book) (I J : NumSet) (p row : ℕ) (ids : List ℕ) (b : Bool) → p < length book.rows → row ≡ row_id book.rows p → ids ≡ ids_at pool row → b ≡ is_served I J (clauses_at pool ids)
    → b ≡ is_served I J (clauses_of (repository_of pool book) p)
served_at pool book I J p row ids b lt e lent h = h ∙ ap (is_served I J) (sym (clauses_are pool book p row ids lt e lent))

-- the flag of one that is not served is put down
pub taken_out : (pool : Interned) (book : Book) (I : NumSet) (place : ℕ) (table : List (List ℕ)) (flags new : List Bool) (work rest now : List ℕ) (p : ℕ) → work ≡ rest ++ p ∷ [] → is_served I (flag flags) (clauses_of (repository_of pool book) p) ≡ false
    → flag flags p ≡ true → new ≡ set flags p false → now ≡ rest ++ listed_for table p → IsLowering (repository_of pool book) I (flag flags) place table work → IsLowering (repository_of pool book) I (flag new) place table now
taken_out pool book I place table flags new work rest now p cut unserved up e f low =
    let lt : p < length flags = flag_in flags p up in
    rw (e, f) (taken_set (repository_of pool book) I (flag flags) (flag (set flags p false)) place table work rest p cut unserved up (λ n j. flag_less flags p n lt j) (λ n j ne. flag_more flags p n j ne) low)

-- and it is the next one
pub next_taken : (pool : Interned) (book : Book) (I : NumSet) (place : ℕ) (table : List (List ℕ)) (flags new : List Bool) (work now : List ℕ) → place < length book.rows → is_served I (flag flags) (clauses_of (repository_of pool book) place) ≡ false
    → flag flags place ≡ true → new ≡ set flags place false → now ≡ work ++ listed_for table place → IsLowering (repository_of pool book) I (flag flags) place table work → IsLowering (repository_of pool book) I (flag new) (place + 1) table now
next_taken pool book I place table flags new work now lt unserved up e f low =
    let below : place < length (repository_of pool book).clauses = rw length-map lt in
    next_out (repository_of pool book) I (flag new) place table now (rw e (get_or-set_same flags place false false (flag_in flags place up)))
    (taken_out pool book I place table flags new (work ++ place ∷ []) work now place refl unserved up e f (wait_more (repository_of pool book) I (flag flags) place table work place below low))

pub list_few : (table : List (List ℕ)) (n : ℕ) → length (listed_for table n) ≤ sum_by length table
list_few [] n = omega arith
list_few (xs ∷ table) zero = rw (sum_by-cons {X = List ℕ} length xs table) (omega arith)
list_few (xs ∷ table) (suc n) = let h = list_few table n in rw (sum_by-cons {X = List ℕ} length xs table) (omega (arith, h))
