-- Tables of clauses: how they are made and changed, and what they tell of rows.
use Rattle.std.proofs.Common.{◌≡◌, ◌≢◌, ℕ, zero, suc, ◌<◌, ◌≤◌, ◌+◌, Bool, true, List, [], ◌∷◌, ◌++◌, inl, inr, refl, sym, ◌∙◌, ap, ap₂, subst, arith, ◌||◌}
use Rattle.std.proofs.{Common.{eqb, filter, length, get_or, take, zero-le}, lemmas.Bool.{cases_eq}}
use Rattle.std.proofs.{lemmas.List.{get_or-set_same, get_or-set_other, length-set, take_more}, lemmas.List.Folds.{list_any_more, list_any-append}}
use Rattle.std.specs.{Global.{Vec}, List.{slice_set, list_any}, List.Retain.{DiffersFromLast, IsFiltered}, List.Sorted.{IsNonDecreasing}}
use Rattle.listed.proofs.Bools.{same_bool}
use Rattle.listed.proofs.Lists.{empty_or, In_append_cases, In_append_left, In_append_right, In_cases, In_has, In_none, any_cases, any_from, decided_in}
use Rattle.listed.proofs.{Lists.{filter_cases, filter_from, has_In}, Orders.{ascending_filter}}
use Rattle.clause_pool.specs.Interned.{Interned, Kept, clause_at}
use Rattle.listed.specs.Lists.{In, here, has}
use Rattle.row_book.specs.{Book.{listed_for}, Numbers.{numbers}, Uses.{HoldsDifference, IsListOf, lists_in, list_in}}
use Rattle.row_book.specs.Holders.{is_user, users_in, ArePlaced, GainsOnly, HasAll, Holders, ListsClauses, TellsRows}
use Rattle.row_book.proofs.{Books.{in_listed}, Distinct.{distinct_ascends, distinct_from, distinct_has}, Inserts.{listed_once}}
use Rattle.row_book.proofs.{Numbers.{numbers_ascending, numbers_from}, Tables.{list_held, list_set_other, list_set_same}}

-- Lists that grow.

-- empty lists behind a table
pub more_lists : (table : List (Vec ℕ)) (v : Vec ℕ) (n : ℕ) → v.items ≡ [] → list_in (table ++ v ∷ []) n ≡ list_in table n
more_lists [] v zero e = e
more_lists [] v (suc n) e = refl
more_lists (t ∷ ts) v zero e = refl
more_lists (t ∷ ts) v (suc n) e = more_lists ts v n e

-- one item behind the others of a list
module _ (table : List (Vec ℕ)) (i x : ℕ) (w d : Vec ℕ) (l : i < length table) (more : w.items ≡ (get_or table i d).items ++ x ∷ []) where
  now : list_in (slice_set table i w) i ≡ list_in table i ++ x ∷ []
  now = list_set_same table i w l ∙ more ∙ ap (λ xs. xs ++ x ∷ []) (sym (list_held table i (get_or table i d) d l refl))

  pub pushed_there : In x (list_in (slice_set table i w) i)
  pushed_there = subst (λ xs. In x xs) (sym now) (In_append_right (list_in table i) (x ∷ []) x here)

  pub pushed_stays : HasAll (lists_in table) (lists_in (slice_set table i w))
  pushed_stays n m j = elim (cases_eq n i) [
    | inl s ↦
        subst (λ k. In m (list_in (slice_set table i w) k)) (sym s)
        (subst (λ xs. In m xs) (sym now) (In_append_left (list_in table i) (x ∷ []) m (subst (λ k. In m (list_in table k)) s j)))
    | inr ne ↦ subst (λ xs. In m xs) (sym (list_set_other table i w n ne)) j
  ]

  pub pushed_came : GainsOnly (i ∷ []) x (lists_in table) (lists_in (slice_set table i w))
  pushed_came n m j = elim (cases_eq n i) [
    | inl s ↦ elim (In_append_cases (list_in table i) (x ∷ []) m (subst (λ xs. In m xs) now (subst (λ k. In m (list_in (slice_set table i w) k)) s j))) [
      | inl a ↦ inl (subst (λ k. In m (list_in table k)) (sym s) a)
      | inr b ↦ elim (In_cases b) [ inl same ↦ inr (subst (λ k. In k (i ∷ [])) (sym s) here, same) | inr none ↦ absurd (In_none none) ]
    ]
    | inr ne ↦ inl (subst (λ xs. In m xs) (list_set_other table i w n ne) j)
  ]

pub gains_none : (numbers : List ℕ) (item : ℕ) (old new : List (List ℕ)) → new ≡ old → GainsOnly numbers item old new
gains_none numbers item old new e n m i = inl (subst (λ t. In m (listed_for t n)) e i)

pub gains_more : (numbers : List ℕ) (number item : ℕ) (old mid new : List (List ℕ)) → In number numbers → GainsOnly numbers item old mid → GainsOnly (number ∷ []) item mid new
    → GainsOnly numbers item old new
gains_more numbers number item old mid new inside f g n m i =
    elim (g n m i) [
      | inl j ↦ f n m j
      | inr w ↦ elim (In_cases w.0) [ inl e ↦ inr (subst (λ k. In k numbers) (sym e) inside, w.1) | inr none ↦ absurd (In_none none) ]
    ]

-- an item that stands in the lists of the first numbers, and then in that of one more
pub there_more : (numbers : List ℕ) (k x item : ℕ) (mid new : List (List ℕ)) → k < length numbers → x ≡ get_or numbers k x → HasAll mid new → In item (listed_for new x)
    → ((n : ℕ) → In n (take k numbers) → In item (listed_for mid n)) → (n : ℕ) → In n (take (k + 1) numbers) → In item (listed_for new n)
there_more numbers k x item mid new l e stays last first n i =
    elim (In_append_cases (take k numbers) (x ∷ []) n (subst (λ xs. In n xs) (take_more numbers k x l ∙ ap (λ z. take k numbers ++ z ∷ []) (sym e)) i)) [
      | inl a ↦ stays n item (first n a)
      | inr b ↦ elim (In_cases b) [ inl s ↦ subst (λ z. In item (listed_for new z)) (sym s) last | inr none ↦ absurd (In_none none) ]
    ]

-- One more list is empty.

module _ (numbers : List ℕ) (k x : ℕ) (old mid new : List (Vec ℕ)) (l : k < length numbers) (e : x ≡ get_or numbers k x) (empty : list_in new x ≡ [])
    (others : (n : ℕ) → n ≢ x → list_in new n ≡ list_in mid n) where
  more : take (k + 1) numbers ≡ take k numbers ++ x ∷ []
  more = take_more numbers k x l ∙ ap (λ z. take k numbers ++ z ∷ []) (sym e)

  pub emptied_more : ((n : ℕ) → In n (take k numbers) → list_in mid n ≡ []) → (n : ℕ) → In n (take (k + 1) numbers) → list_in new n ≡ []
  emptied_more f n i = elim (cases_eq n x) [
    | inl s ↦ ap (list_in new) s ∙ empty
    | inr ne ↦ elim (In_append_cases (take k numbers) (x ∷ []) n (subst (λ xs. In n xs) more i)) [
      | inl a ↦ others n ne ∙ f n a
      | inr b ↦ elim (In_cases b) [ inl s ↦ absurd (ne s) | inr none ↦ absurd (In_none none) ]
    ]
  ]

  pub spared_more : ((n : ℕ) → (In n (take k numbers) → ⊥) → list_in mid n ≡ list_in old n) → (n : ℕ) → (In n (take (k + 1) numbers) → ⊥) → list_in new n ≡ list_in old n
  spared_more f n i =
      others n (λ s. i (subst (λ xs. In n xs) (sym more) (In_append_right (take k numbers) (x ∷ []) n (subst (λ z. In n (z ∷ [])) s here))))
      ∙ f n (λ a. i (subst (λ xs. In n xs) (sym more) (In_append_left (take k numbers) (x ∷ []) n a)))

-- Clauses that are listed.

-- a clause was listed for packages that it holds
pub lists_listed : (pool : Interned) (id : ℕ) (users old new : List (List ℕ)) → HasAll old new → GainsOnly (clause_at pool id) id old new
    → ListsClauses pool (record { users = users; clauses = old }) → ListsClauses pool (record { users = users; clauses = new })
lists_listed pool id users old new stays came f = record {
  of_pool = f.of_pool;
  listed = λ c p n i j. stays n c (f.listed c p n i j);
  held = λ n c i. elim (came n c i) [ inl j ↦ f.held n c j | inr w ↦ subst (λ z. In n (clause_at pool z)) (sym w.1) w.0 ];
}

-- a package was put to the users of a clause that is listed
pub lists_pushed : (pool : Interned) (id p : ℕ) (users new clauses : List (List ℕ)) → id < length pool.clauses → GainsOnly (id ∷ []) p users new
    → ((n : ℕ) → In n (clause_at pool id) → In id (listed_for clauses n))
    → ListsClauses pool (record { users = users; clauses = clauses }) → ListsClauses pool (record { users = new; clauses = clauses })
lists_pushed pool id p users new clauses l came there f = record {
  of_pool = λ c q i. elim (came c q i) [ inl j ↦ f.of_pool c q j | inr w ↦ subst (λ z. z < length pool.clauses) (sym (only c w.0)) l ];
  listed = λ c q n i j. elim (came c q i) [
    | inl k ↦ f.listed c q n k j
    | inr w ↦ subst (λ z. In z (listed_for clauses n)) (sym (only c w.0)) (there n (subst (λ z. In n (clause_at pool z)) (only c w.0) j))
  ];
  held = f.held;
}
  where
    only : (c : ℕ) → In c (id ∷ []) → c ≡ id
    only c i = elim (In_cases i) [ inl e ↦ e | inr none ↦ absurd (In_none none) ]

-- both
pub lists_entered : (pool : Interned) (id p : ℕ) (users new old clauses : List (List ℕ)) → id < length pool.clauses → HasAll old clauses → GainsOnly (clause_at pool id) id old clauses
    → (listed_for users id ≡ [] → (n : ℕ) → In n (clause_at pool id) → In id (listed_for clauses n)) → GainsOnly (id ∷ []) p users new
    → ListsClauses pool (record { users = users; clauses = old }) → ListsClauses pool (record { users = new; clauses = clauses })
lists_entered pool id p users new old clauses l stays listed unused came f =
    lists_pushed pool id p users new clauses l came
    (λ n i. elim (empty_or (listed_for users id)) [ inl none ↦ unused none n i | inr w ↦ stays n id (f.listed id w.0 n w.1 i) ])
    (lists_listed pool id users old clauses stays listed f)

-- the same users, in more lists
pub lists_same : (pool : Interned) (users others clauses : List (List ℕ)) → ((c : ℕ) → listed_for others c ≡ listed_for users c)
    → ListsClauses pool (record { users = users; clauses = clauses }) → ListsClauses pool (record { users = others; clauses = clauses })
lists_same pool users others clauses e f = record {
  of_pool = λ c p i. f.of_pool c p (subst (λ xs. In p xs) (e c) i);
  listed = λ c p n i j. f.listed c p n (subst (λ xs. In p xs) (e c) i) j;
  held = f.held;
}

-- What a table tells of rows.

-- the packages below k are among the users of their clauses
abbrev pub AreUsers : List (List ℕ) → ℕ → List (List ℕ) → Type 0
AreUsers rows k users = (c p : ℕ) → p < k → In c (listed_for rows p) → In p (listed_for users c)

pub all_told : (pool : Interned) (rows : List (List ℕ)) (k : ℕ) (table : Holders) → length rows ≤ k → length table.clauses ≡ length rows → AreUsers rows k table.users → ListsClauses pool table → TellsRows pool rows table
all_told pool rows k table l size told lists = record {
  size = size;
  users = λ c p i. let m : p < length rows = in_listed rows p c i in told c p (omega arith) i;
  lists = lists;
}

-- a package has another row, and is entered for what that has gained
pub tells_replaced : (pool : Interned) (rows : List (List ℕ)) (p : ℕ) (old new gained : List ℕ) (table after : Holders) → p < length rows → listed_for rows p ≡ old
    → HoldsDifference new old gained → length after.clauses ≡ length table.clauses → HasAll table.users after.users
    → ((c : ℕ) → In c gained → In p (listed_for after.users c)) → (ListsClauses pool table → ListsClauses pool after)
    → TellsRows pool rows table → TellsRows pool (slice_set rows p new) after
tells_replaced pool rows p old new gained table after l o came size stays entered lists t = record {
  size = size ∙ t.size ∙ sym (length-set rows p new);
  users = λ c q i. elim (cases_eq q p) [
    | inl s ↦
        let own : In c new = subst (λ xs. In c xs) (ap (listed_for (slice_set rows p new)) s ∙ get_or-set_same rows p new [] l) i in
        subst (λ z. In z (listed_for after.users c)) (sym s) (elim (came.rest c own) [
          | inl j ↦ entered c j
          | inr j ↦ stays c p (t.users c p (subst (λ xs. In c xs) (sym o) j))
        ])
    | inr ne ↦ stays c q (t.users c q (subst (λ xs. In c xs) (get_or-set_other rows p q new [] ne) i))
  ];
  lists = lists t.lists;
}

-- a row that only loses clauses needs no change of the table
pub tells_part : (pool : Interned) (rows : List (List ℕ)) (p : ℕ) (new : List ℕ) (table : Holders) → p < length rows → ((c : ℕ) → In c new → In c (listed_for rows p))
    → TellsRows pool rows table → TellsRows pool (slice_set rows p new) table
tells_part pool rows p new table l part t = record {
  size = t.size ∙ sym (length-set rows p new);
  users = λ c q i. elim (cases_eq q p) [
    | inl s ↦
        let own : In c new = subst (λ xs. In c xs) (ap (listed_for (slice_set rows p new)) s ∙ get_or-set_same rows p new [] l) i in
        t.users c q (subst (λ z. In c (listed_for rows z)) (sym s) (part c own))
    | inr ne ↦ t.users c q (subst (λ xs. In c xs) (get_or-set_other rows p q new [] ne) i)
  ];
  lists = t.lists;
}

-- the clauses of a row that hold a package are those that are listed for it
pub are_placed : (pool : Interned) (rows : List (List ℕ)) (table : Holders) (n p : ℕ) → TellsRows pool rows table → ArePlaced pool n (listed_for table.clauses n) (listed_for rows p)
are_placed pool rows table n p t id i =
    same_bool (has (listed_for table.clauses n) id) (has (clause_at pool id) n)
    (λ h. In_has (t.lists.held n id (has_In (listed_for table.clauses n) id h)))
    (λ h. In_has (t.lists.listed id p n (t.users id p i) (has_In (clause_at pool id) n h)))

-- a table with more users still tells of the rows
pub tells_still : (pool : Interned) (rows : List (List ℕ)) (table after : Holders) → length after.clauses ≡ length table.clauses → HasAll table.users after.users
    → (ListsClauses pool table → ListsClauses pool after) → TellsRows pool rows table → TellsRows pool rows after
tells_still pool rows table after size stays lists t = record {
  size = size ∙ t.size;
  users = λ c p i. stays c p (t.users c p i);
  lists = lists t.lists;
}

-- a package whose row has a clause that holds the number is one of the users
pub is_found : (pool : Interned) (rows : List (List ℕ)) (n p : ℕ) → is_user pool rows n p ≡ true → In p (users_in pool rows n)
is_found pool rows n p h =
    let w : (c : ℕ) × In c (listed_for rows p) × (has (clause_at pool c) n ≡ true) = any_cases (λ c. has (clause_at pool c) n) (listed_for rows p) h in
    let l : p < length rows = in_listed rows p w.0 w.1 in
    filter_from (is_user pool rows n) (numbers (length rows) 0) p (numbers_from (length rows) 0 p zero-le (omega arith)) h

-- a table still tells of the rows when it has forgotten a package without users
pub tells_forgot : (pool : Interned) (rows : List (List ℕ)) (p : ℕ) (table after : Holders) → users_in pool rows p ≡ [] → length after.clauses ≡ length table.clauses
    → ((c : ℕ) → In c (listed_for table.clauses p) → listed_for after.users c ≡ [])
    → ((c : ℕ) → (In c (listed_for table.clauses p) → ⊥) → listed_for after.users c ≡ listed_for table.users c)
    → listed_for after.clauses p ≡ [] → ((n : ℕ) → n ≢ p → listed_for after.clauses n ≡ listed_for table.clauses n)
    → TellsRows pool rows table → TellsRows pool rows after
tells_forgot pool rows p table after unused size gone others own rest t = record {
  size = size ∙ t.size;
  users = λ c q i. subst (λ xs. In q xs) (sym (others c (unlisted c q i))) (t.users c q i);
  lists = record {
    of_pool = λ c q i. t.lists.of_pool c q (had c q i).0;
    listed = λ c q n i j.
        let before : In c (listed_for table.clauses n) = t.lists.listed c q n (had c q i).0 j in
        subst (λ xs. In c xs) (sym (rest n (λ e. (had c q i).1 (subst (λ z. In c (listed_for table.clauses z)) e before)))) before;
    held = λ n c i. elim (cases_eq n p) [
      | inl s ↦ absurd (In_none (subst (λ xs. In c xs) own (subst (λ z. In c (listed_for after.clauses z)) s i)))
      | inr ne ↦ t.lists.held n c (subst (λ xs. In c xs) (rest n ne) i)
    ];
  };
}
  where
    -- a clause of a row does not hold the package
    unlisted : (c q : ℕ) → In c (listed_for rows q) → In c (listed_for table.clauses p) → ⊥
    unlisted c q i j =
        let holds : is_user pool rows p q ≡ true = any_from (λ id. has (clause_at pool id) p) (listed_for rows q) c i (In_has (t.lists.held p c j)) in
        In_none (subst (λ xs. In q xs) unused (is_found pool rows p q holds))

    -- a user that is left is of a clause that was not listed for the package
    had : (c q : ℕ) → In q (listed_for after.users c) → In q (listed_for table.users c) × (In c (listed_for table.clauses p) → ⊥)
    had c q i = elim (decided_in c (listed_for table.clauses p)) [
      | inl j ↦ absurd (In_none (subst (λ xs. In q xs) (gone c j) i))
      | inr f ↦ (subst (λ xs. In q xs) (others c f) i, f)
    ]

-- Those who are listed for a package, and whose row holds it, are its users.

pub users_found : (pool : Interned) (rows : List (List ℕ)) (table : Holders) (n : ℕ) (had found : List ℕ) → TellsRows pool rows table
    → IsListOf (λ m. list_any (λ c. has (listed_for table.users c) m) (listed_for table.clauses n)) had → found ≡ filter (is_user pool rows n) had → found ≡ users_in pool rows n
users_found pool rows table n had found t f e =
    listed_once (is_user pool rows n) found (users_in pool rows n)
    (subst (IsListOf (is_user pool rows n)) (sym e) (record {
      ascending = ascending_filter (is_user pool rows n) had f.ascending;
      members = λ m.
          same_bool (has (filter (is_user pool rows n) had) m) (is_user pool rows n m)
          (λ h. (filter_cases (is_user pool rows n) had m (has_In (filter (is_user pool rows n) had) m h)).1)
          (λ h. In_has (filter_from (is_user pool rows n) had m (listed m h) h));
    }))
    (record {
      ascending = ascending_filter (is_user pool rows n) (numbers (length rows) 0) (numbers_ascending (length rows) 0);
      members = λ m.
          same_bool (has (users_in pool rows n) m) (is_user pool rows n m)
          (λ h. (filter_cases (is_user pool rows n) (numbers (length rows) 0) m (has_In (users_in pool rows n) m h)).1)
          (λ h. In_has (is_found pool rows n m h));
    })
  where
    listed : (m : ℕ) → is_user pool rows n m ≡ true → In m had
    listed m h =
        let w : (c : ℕ) × In c (listed_for rows m) × (has (clause_at pool c) n ≡ true) = any_cases (λ c. has (clause_at pool c) n) (listed_for rows m) h in
        let user : In m (listed_for table.users w.0) = t.users w.0 m w.1 in
        has_In had m (f.members m
        ∙ any_from (λ c. has (listed_for table.users c) m) (listed_for table.clauses n) w.0
        (t.lists.listed w.0 m n user (has_In (clause_at pool w.0) n w.2)) (In_has user))

-- How the users are gathered.

pub gathered_more : (users : List (Vec ℕ)) (places : List ℕ) (k place : ℕ) (found list all : List ℕ) → k < length places → place ≡ get_or places k place → list ≡ list_in users place → all ≡ found ++ list
    → (m : ℕ) → has found m ≡ list_any (λ c. has (list_in users c) m) (take k places) → has all m ≡ list_any (λ c. has (list_in users c) m) (take (k + 1) places)
gathered_more users places k place found list all l e u v m h =
    ap (λ xs. has xs m) v ∙ list_any-append (λ n. eqb m n) found list
    ∙ ap₂ (λ a b. a || b) h (ap (λ xs. has xs m) (u ∙ ap (list_in users) e))
    ∙ sym (list_any_more (λ c. has (list_in users c) m) places k place l)

pub gathered : (test : ℕ → Bool) (found sorted once : List ℕ) → ((m : ℕ) → has sorted m ≡ has found m) → IsNonDecreasing sorted → IsFiltered (DiffersFromLast eqb) [] sorted once
    → ((m : ℕ) → has found m ≡ test m) → IsListOf test once
gathered test found sorted once p up f t = record {
  ascending = distinct_ascends sorted once f up;
  members = λ m.
      same_bool (has once m) (has sorted m) (λ h. In_has (distinct_from sorted once f m (has_In once m h))) (λ h. In_has (distinct_has sorted once f m (has_In sorted m h)))
      ∙ p m ∙ t m;
}

-- In a pool that grows the table tells of the same rows.
pub tells_kept : (old new : Interned) (rows : List (List ℕ)) → Kept old new → (table : Holders) → TellsRows old rows table → TellsRows new rows table
tells_kept old new rows k table t = record {
  size = t.size;
  users = t.users;
  lists = record {
    of_pool = λ c p i. (k.clauses c (t.lists.of_pool c p i)).0;
    listed = λ c p n i j. t.lists.listed c p n i (subst (λ z. In n z) (k.clauses c (t.lists.of_pool c p i)).1 j);
    held = λ n c i. let j : In n (clause_at old c) = t.lists.held n c i in subst (λ z. In n z) (sym (k.clauses c (in_listed old.clauses c n j)).1) j;
  };
}
