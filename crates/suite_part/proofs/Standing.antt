-- Packages of a base that stand as they are in another part: their rows there are known, and in the numbers of the book they stay.
use Rattle.std.proofs.Common.{◌≡◌, ℕ, ◌<◌, ◌≤◌, Bool, true, false, not, ◌&&◌, ◌||◌, ltb, List, length, map, filter, inl, inr, sym, ◌∙◌, ap, subst, arith}
use Rattle.std.proofs.{lemmas.Bool.{and_from, and_parts, lt-ltb, ltb-true, not-true, not_from_false, or_cases, or_left}, lemmas.Simd.{map-map}}
use Rattle.row_book.proofs.{Parts.{clauses_through, part_conflicts, part_count, part_row, row_moved, row_whole}, Numbered.{number_back, up_ascends, up_count}}
use Rattle.row_book.proofs.{PartSound.{part_sound}, BookRepositories.{book_size, sound_repository}, Flags.{flag_in}, Repositories.{between, in_packages}}
use Rattle.row_book.proofs.Placed.{count_in, at_place, chosen_cases, chosen_from, place_below, place_rises, HasPlace, IsChosen}
use Rattle.row_book.specs.{Parts.{clauses_in, number_in, numbers_up, chosen_in, part, place_in, row_in}, declared.book.Book.{Book}, Book.{repository_of, Sound}}
use Rattle.row_book.specs.{Flags.{flag}, Flattening.{core_of, has_conflict, packages, remaining_after, row_length}}
use Rattle.row_book.specs.{Repository.{Repository, against, clauses_of, conflicts_of}, Sets.{NumSet}, Sound.{SoundRepository}, Support.{row}, Uses.{row_id}}
use Rattle.std.specs.{Prelude.{Option}, List.{list_all, list_any}}
use Rattle.clause_pool.specs.{Clauses.{in_row_order}, Interned.{Interned, clause_at, clauses_at, row_at}, Lists.{InOrder}}
use Rattle.clause_pool.proofs.Order.{ordered_parts}
use Rattle.listed.specs.Lists.{In, there}
use Rattle.listed.proofs.{Bools.{same_bool}, Lists.{In_has, In_map_cases, all_at, any_cases, any_from, filter_cases, filter_same, has_In, map_alike}}
use Rattle.clause_flatten.specs.Locality.{StandsIn}
use Rattle.clause_flatten.proofs.LocalRuns.{flat_is_local_lem, flat_stays, limit_is_local_lem}
use Rattle.suite_part.specs.{declared.base.Base.{Base}, Bases.{row_of_part, AreChanged, IsBase, StaysAs}, Left.{AreLeft}}
use Rattle.suite_part.proofs.Backs.{numbers_rise}

-- so for a row of which each clause is told to be whole
pub whole_row : (from pool : Interned) (flags : List Bool) (known : List (Option ℕ)) (whole given : List Bool) (row ids : List ℕ)
    → AreLeft from flags pool known whole → given ≡ whole → list_all (flag given) row ≡ true → InOrder (clauses_at from row)
    → clauses_at pool ids ≡ map (chosen_in flags) (clauses_at from row) → clauses_at pool ids ≡ row_in flags (clauses_at from row)
whole_row from pool flags known whole given row ids are is told order left = left ∙ sym (row_whole flags (clauses_at from row) up order)
  where
    up : (c : List ℕ) → In c (clauses_at from row) → (n : ℕ) → In n c → flag flags n ≡ true
    up c i n j =
        let w : (id : ℕ) × In id row × (c ≡ clause_at from id) = In_map_cases (clause_at from) row c i in
        are.all w.0 (ap (λ z. flag z w.0) (sym is) ∙ all_at (flag given) row told w.0 w.1) n (subst (λ z. In n z) w.2 j)

-- a package is in a conflict where it has one in its list
pub conflict_from : (R : Repository) → SoundRepository R → (q m : ℕ) → In m (conflicts_of R q) → has_conflict R q ≡ true
conflict_from R s q m i =
    any_from (λ n. against R q n || against R n q) (packages R) m (in_packages R m (between R s q m (In_has i)).1) (or_left (against R q m) (against R m q) (In_has i))

pub conflict_cases : (R : Repository) → SoundRepository R → (q : ℕ) → has_conflict R q ≡ true → (m : ℕ) × In m (conflicts_of R q)
conflict_cases R s q h =
    let w : (m : ℕ) × In m (packages R) × ((against R q m || against R m q) ≡ true) = any_cases (λ n. against R q n || against R n q) (packages R) h in
    elim (or_cases (against R q w.0) (against R w.0 q) w.2) [
      | inl a ↦ (w.0, has_In (conflicts_of R q) w.0 a)
      | inr b ↦ (w.0, has_In (conflicts_of R q) w.0 (s.conflicts.either_way w.0 q b))
    ]

-- what the part of chosen packages has of one of them
module _ (R : Repository) (s : SoundRepository R) (flags : List Bool) (size : length flags ≡ length R.clauses) where
  -- it is in a conflict where one that conflicts with it is chosen
  pub part_conflict : (x : ℕ) → flag flags x ≡ true → has_conflict (part flags R) (place_in flags x) ≡ list_any (flag flags) (conflicts_of R x)
  part_conflict x up =
      same_bool (has_conflict (part flags R) (place_in flags x)) (list_any (flag flags) (conflicts_of R x))
      (λ h.
      let w : (m : ℕ) × In m (conflicts_of (part flags R) (place_in flags x)) = conflict_cases (part flags R) (part_sound R flags s size) (place_in flags x) h in
      let v : IsChosen flags (conflicts_of R x) w.0 = chosen_cases flags (conflicts_of R x) w.0 (subst (λ z. In w.0 z) (part_conflicts R s flags size x up) w.1) in
      any_from (flag flags) (conflicts_of R x) v.number v.listed v.up)
      (λ h.
      let w : (m : ℕ) × In m (conflicts_of R x) × (flag flags m ≡ true) = any_cases (flag flags) (conflicts_of R x) h in
      conflict_from (part flags R) (part_sound R flags s size) (place_in flags x) (place_in flags w.0)
      (subst (λ z. In (place_in flags w.0) z) (sym (part_conflicts R s flags size x up)) (chosen_from flags (conflicts_of R x) w.0 w.1 w.2)))

-- packages of a part that are not changed in another one
module _ (W : Repository) (s : SoundRepository W) (own flags changed : List Bool) (own_size : length own ≡ length W.clauses) (size : length flags ≡ length W.clauses)
    (long : length changed ≡ length flags) (same : AreChanged W own flags changed) where
  abbrev number : ℕ → ℕ
  number = number_in (numbers_up own)

  -- the place there of the package of a place
  abbrev there_at : ℕ → ℕ
  there_at p = place_in flags (number p)

  abbrev stays : NumSet
  stays p = ltb p (count_in own) && not (flag changed (number p))

  record Stays (p : ℕ) : Type 0 where
    pub member : ℕ
    pub is_own : flag own member ≡ true
    pub chosen : flag flags member ≡ true
    pub place : place_in own member ≡ p
    pub is : number p ≡ member
    pub alike : StaysAs W own flags changed member

  stays_alike : (x : ℕ) → flag own x ≡ true → flag changed x ≡ false → StaysAs W own flags changed x
  stays_alike x up f = let l : x < length own = flag_in own x up in same x (omega (arith, long, size, own_size)) f

  stays_parts : (p : ℕ) → stays p ≡ true → Stays p
  stays_parts p u =
      let w : (ltb p (count_in own) ≡ true) × (not (flag changed (number p)) ≡ true) = and_parts (ltb p (count_in own)) (not (flag changed (number p))) u in
      let h : HasPlace own p = at_place own p (ltb-true p (count_in own) w.0) in
      let is : number p ≡ h.number = ap number (sym h.is) ∙ number_back own h.number h.up in
      let a : StaysAs W own flags changed h.number = stays_alike h.number h.up (subst (λ z. flag changed z ≡ false) is (not-true (flag changed (number p)) w.1)) in
      record { member = h.number; is_own = h.up; chosen = sym a.alike.there ∙ h.up; place = h.is; is = is; alike = a }

  stays_from : (x : ℕ) → flag own x ≡ true → flag changed x ≡ false → stays (place_in own x) ≡ true
  stays_from x up f =
      and_from (ltb (place_in own x) (count_in own)) (not (flag changed (number (place_in own x)))) (lt-ltb (place_in own x) (count_in own) (place_below own x up))
      (not_from_false (flag changed (number (place_in own x))) (ap (flag changed) (number_back own x up) ∙ f))

  there_own : (x : ℕ) → flag own x ≡ true → there_at (place_in own x) ≡ place_in flags x
  there_own x up = ap (place_in flags) (number_back own x up)

  there_chosen : (p : ℕ) → stays p ≡ true → flag flags (number p) ≡ true
  there_chosen p u = let st : Stays p = stays_parts p u in subst (λ z. flag flags z ≡ true) (sym st.is) st.chosen

  below : (p : ℕ) → stays p ≡ true → p < count_in own
  below p u = let w : (ltb p (count_in own) ≡ true) × (not (flag changed (number p)) ≡ true) = and_parts (ltb p (count_in own)) (not (flag changed (number p))) u in ltb-true p (count_in own) w.0

  there_rises : (m n : ℕ) → stays m ≡ true → stays n ≡ true → m < n → there_at m < there_at n
  there_rises m n u v l =
      place_rises flags (number m) (number n) (there_chosen m u) (numbers_rise (numbers_up own) (up_ascends own) m n l (subst (λ z. n < z) (sym (up_count own)) (below n v)))

  -- what its clauses name is in both parts or in neither, so the same is left of them in each part
  clause_left : (x : ℕ) → StaysAs W own flags changed x → (c : List ℕ) → In c (clauses_of W x) → chosen_in flags c ≡ map there_at (chosen_in own c)
  clause_left x a c i =
      let alike : (n : ℕ) → In n c → flag flags n ≡ flag own n = λ n j.
      let l : n < length W.clauses = (s.clauses x c i).1 n j in
      sym (same n (omega (arith, long, size)) (a.needs c i n j)).alike.there in
      ap (map (place_in flags)) (filter_same (flag flags) (flag own) c alike)
      ∙ sym (map-map there_at (place_in own) (filter (flag own) c) ∙ map_alike (λ n. there_at (place_in own n)) (place_in flags) (filter (flag own) c) (λ n j. there_own n (filter_cases (flag own) c n j).1))

  -- a member of what is left is not changed
  left_stays : (x : ℕ) → StaysAs W own flags changed x → (c : List ℕ) → In c (map (chosen_in own) (clauses_of W x)) → (n : ℕ) → In n c → stays n ≡ true
  left_stays x a c i n j =
      let w : (d : List ℕ) × In d (clauses_of W x) × (c ≡ chosen_in own d) = In_map_cases (chosen_in own) (clauses_of W x) c i in
      let v : IsChosen own w.0 n = chosen_cases own w.0 n (subst (λ z. In n z) w.2 j) in
      subst (λ z. stays z ≡ true) (sym v.is) (stays_from v.number v.up (a.needs w.0 w.1 v.number v.listed))

  own_row : (p : ℕ) (st : Stays p) → clauses_of (part own W) p ≡ row_in own (clauses_of W st.member)
  own_row p st = ap (clauses_of (part own W)) (sym st.place) ∙ part_row W s own own_size st.member st.is_own

  own_conflict : (p : ℕ) (st : Stays p) → has_conflict (part own W) p ≡ list_any (flag own) (conflicts_of W st.member)
  own_conflict p st = ap (has_conflict (part own W)) (sym st.place) ∙ part_conflict W s own own_size st.member st.is_own

  there_row : (p : ℕ) (st : Stays p) → clauses_of (part flags W) (there_at p) ≡ row_in flags (clauses_of W st.member)
  there_row p st = ap (λ x. clauses_of (part flags W) (place_in flags x)) st.is ∙ part_row W s flags size st.member st.chosen

  there_conflict : (p : ℕ) (st : Stays p) → has_conflict (part flags W) (there_at p) ≡ list_any (flag flags) (conflicts_of W st.member)
  there_conflict p st = ap (λ x. has_conflict (part flags W) (place_in flags x)) st.is ∙ part_conflict W s flags size st.member st.chosen

  row_there : (p : ℕ) → Stays p → clauses_of (part flags W) (there_at p) ≡ map (map there_at) (clauses_of (part own W) p)
  row_there p st =
      let cs : List (List ℕ) = clauses_of W st.member in
      there_row p st
      ∙ ap in_row_order (map_alike (chosen_in flags) (λ c. map there_at (chosen_in own c)) cs (clause_left st.member st.alike) ∙ sym (map-map (map there_at) (chosen_in own) cs))
      ∙ sym (row_moved stays there_at there_rises (map (chosen_in own) cs) (left_stays st.member st.alike))
      ∙ ap (map (map there_at)) (sym (own_row p st))

  pub stands_there : StandsIn (part own W) stays there_at (part flags W)
  stands_there = record {
    packages = λ p u. subst (λ z. p < z) (sym (part_count W s own own_size)) (below p u);
    closed = λ p u c i.
        let st : Stays p = stays_parts p u in
        left_stays st.member st.alike c (ordered_parts (map (chosen_in own) (clauses_of W st.member)) c (subst (λ z. In c z) (own_row p st) i));
    within = λ p u. subst (λ z. there_at p < z) (sym (part_count W s flags size)) (place_below flags (number p) (there_chosen p u));
    rising = there_rises;
    clauses = λ p u. row_there p (stays_parts p u);
    conflicts = λ p u. let st : Stays p = stays_parts p u in there_conflict p st ∙ sym st.alike.alike.against ∙ sym (own_conflict p st);
  }

-- the row of such a package is its row in the base, in its new numbers, and in the numbers of the book it stays
module _ (from : Interned) (book : Book) (base : Base) (flags changed : List Bool) (sound : Sound from book) (is : IsBase from book base) (size : length flags ≡ length book.rows)
    (long : length changed ≡ length flags) (same : AreChanged (repository_of from book) base.flags.items flags changed) where
  abbrev W : Repository
  W = repository_of from book

  abbrev own : List Bool
  own = base.flags.items

  abbrev R : Repository
  R = part own W

  abbrev M : Repository
  M = part flags W

  whole : SoundRepository W
  whole = sound_repository from book sound.rows.is_pool sound

  own_sized : length own ≡ length W.clauses
  own_sized = is.size ∙ sym (book_size from book)

  sized : length flags ≡ length W.clauses
  sized = size ∙ sym (book_size from book)

  abbrev unchanged : NumSet
  unchanged = stays W whole own flags changed own_sized sized long same

  abbrev there_to : ℕ → ℕ
  there_to = there_at W whole own flags changed own_sized sized long same

  stand : StandsIn R unchanged there_to M
  stand = stands_there W whole own flags changed own_sized sized long same

  abbrev numbered : ℕ → ℕ
  numbered = number_in (numbers_up own)

  member_chosen : (p : ℕ) → unchanged p ≡ true → flag flags (numbered p) ≡ true
  member_chosen = there_chosen W whole own flags changed own_sized sized long same

  abbrev own_rows : ℕ → List (List ℕ)
  own_rows x = row R (core_of base.limit false R) (place_in own x)

  -- a package that is in the part and not changed is in the base
  pub is_own : (x : ℕ) → flag flags x ≡ true → flag changed x ≡ false → flag own x ≡ true
  is_own x up f = let l : x < length flags = flag_in flags x up in (same x (omega (arith, long)) f).alike.there ∙ up

  is_unchanged : (x : ℕ) → flag own x ≡ true → flag changed x ≡ false → unchanged (place_in own x) ≡ true
  is_unchanged = stays_from W whole own flags changed own_sized sized long same

  is_there : (x : ℕ) → flag own x ≡ true → there_to (place_in own x) ≡ place_in flags x
  is_there = there_own W whole own flags changed own_sized sized long same

  member_stays : (x : ℕ) → flag own x ≡ true → flag changed x ≡ false → (c : List ℕ) → In c (own_rows x) → (n : ℕ) → In n c → unchanged n ≡ true
  member_stays x up f = flat_stays base.limit R unchanged there_to M stand (place_in own x) (is_unchanged x up f)

  row_there_is : (x : ℕ) → flag own x ≡ true → flag changed x ≡ false → row M (core_of base.limit false M) (place_in flags x) ≡ map (map there_to) (own_rows x)
  row_there_is x up f =
      ap (row M (core_of base.limit false M)) (sym (is_there x up)) ∙ flat_is_local_lem base.limit R unchanged there_to M stand (place_in own x) (is_unchanged x up f)

  -- in the numbers of the book it is that of the base
  pub row_same : (x : ℕ) → flag flags x ≡ true → flag changed x ≡ false → row_at base.pool (row_id base.rows.items x) ≡ row_of_part base.limit flags W x
  row_same x chosen f =
      let up : flag own x ≡ true = is_own x chosen f in
      is.rows x up
      ∙ sym (ap (clauses_in (numbers_up flags)) (row_there_is x up f)
      ∙ clauses_through (number_in (numbers_up flags)) there_to numbered (own_rows x)
      (λ c i n j. number_back flags (numbered n) (member_chosen n (member_stays x up f c i n j))))

  pub within_there : (x : ℕ) → flag own x ≡ true → flag changed x ≡ false → (i : ℕ) → row_length M (remaining_after base.limit false M i).left (place_in flags x) ≤ base.limit
  within_there x up f i =
      subst (λ z. row_length M (remaining_after base.limit false M i).left z ≤ base.limit) (is_there x up)
      (limit_is_local_lem base.limit R unchanged there_to M stand is.none_passes i (place_in own x) (is_unchanged x up f))
