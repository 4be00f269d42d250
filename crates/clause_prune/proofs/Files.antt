-- Packages that are filed under the first numbers of their clauses, with these.
use Rattle.std.proofs.Common.{◌≡◌, ◌≢◌, ℕ, ◌<◌, ◌+◌, ◌%◌, Bool, true, false, ◌&&◌, ◌||◌, eqb, eq-eqb, eqb-true, List, [], ◌∷◌, ◌++◌, inl, inr, refl, sym, ◌∙◌}
use Rattle.std.proofs.Common.{ap, ap₂, subst, length, length-set, get_or, map, take, Result, Ok, Err, OnOk}
use Rattle.std.proofs.lemmas.Bool.{and_from, and_parts, cases_eq, or_cases, or_left, or_right}
use Rattle.std.proofs.lemmas.List.{get_or-map, get_or-set_other, get_or-set_same, length-map, map-set, take_more}
use Rattle.std.proofs.lemmas.List.Folds.{list_any-append, list_any_more}
use Rattle.std.specs.{Global.{Vec}, List.{slice_set, list_any}}
use Rattle.clause_pool.specs.Interned.{Interned, OfPool, clause_at, clauses_at, row_at}
use Rattle.listed.specs.Lists.{In, has, here, is_inside}
use Rattle.row_book.specs.{Repository.{Repository, clauses_of}, Pruning.{serves}}
use Rattle.listed.proofs.Lists.{In_append_cases, In_append_left, In_append_right, In_cases, In_has, In_map, In_map_cases, In_none, all_at, any_cases, any_from}
use Rattle.listed.proofs.Lists.{has_In}
use Rattle.clause_prune.specs.Filing.{AsksServing, Filed, FiledFor, Gains, IsFiled, Takes, asks, entries_at, entries_in, filed_within, tell_within}
use Rattle.clause_prune.specs.{Filing.{tells_within, under}, Tests.{with_ids}, declared.filing.Entry.{Entry}}
use Rattle.clause_prune.proofs.Passing.{left_own}

-- Who is asked.

-- a package with a clause within another is asked about that
filed_asked : (pool : Interned) (members : List ℕ) (f : Filed) (e d : List ℕ) (n : ℕ) → IsFiled pool members f e n → ((x : ℕ) → In x d → In x members) → is_inside e d ≡ true → asks pool f d n ≡ true
filed_asked pool members f [] d n i own h = or_left (has f.always n) (filed_within pool f.lists d n) (In_has i)
filed_asked pool members f (x ∷ e) d n i own h =
    let j : In x d = has_In d x (all_at (λ y. has d y) (x ∷ e) h x here) in
    elim (i (own x j)) [
      | inl a ↦ or_left (has f.always n) (filed_within pool f.lists d n) (In_has a)
      | inr s ↦
          or_right (has f.always n) (filed_within pool f.lists d n)
          (any_from (λ y. tell_within pool (under f.lists y) d n) d x j
          (any_from (tells_within pool d n) (under f.lists x) s.entry s.there
          (and_from (eqb n s.entry.holder) (is_inside (clause_at pool s.entry.clause) d) (eq-eqb n s.entry.holder (sym s.holder)) (ap (λ c. is_inside c d) s.clause ∙ h))))
    ]

-- so whoever sees to it that a clause is hit is a member or asked, where it is filed for its clauses
pub server_asked : (pool : Interned) (R : Repository) (members : List ℕ) (f : Filed) (d : List ℕ) (n : ℕ) → ((e : List ℕ) → In e (clauses_of R n) → IsFiled pool members f e n) → ((x : ℕ) → In x d → In x members)
    → serves R d n ≡ true → (has d n || asks pool f d n) ≡ true
server_asked pool R members f d n all own h =
    elim (or_cases (has d n) (list_any (λ c. is_inside c d) (clauses_of R n)) h) [
      | inl i ↦ or_left (has d n) (asks pool f d n) i
      | inr i ↦
          let w : (c : List ℕ) × In c (clauses_of R n) × (is_inside c d ≡ true) = any_cases (λ c. is_inside c d) (clauses_of R n) i in
          or_right (has d n) (asks pool f d n) (filed_asked pool members f w.0 d n (all w.0 w.1) own w.2)
    ]

-- and whoever is filed with a clause within another sees to it that that is hit
pub filed_serves : (pool : Interned) (rows : List ℕ) (p : ℕ) (left : List ℕ) (f : Filed) (d : List ℕ) (n : ℕ) → FiledFor pool rows p f → filed_within pool f.lists d n ≡ true → serves (with_ids pool rows p left []) d n ≡ true
filed_serves pool rows p left f d n s h =
    let w : (x : ℕ) × In x d × (tell_within pool (under f.lists x) d n ≡ true) = any_cases (λ x. tell_within pool (under f.lists x) d n) d h in
    let v : (e : Entry) × In e (under f.lists w.0) × (tells_within pool d n e ≡ true) = any_cases (tells_within pool d n) (under f.lists w.0) w.2 in
    let same : n ≡ v.0.holder = eqb-true n v.0.holder (and_parts (eqb n v.0.holder) (is_inside (clause_at pool v.0.clause) d) v.2).0 in
    or_right (has d n) (list_any (λ c. is_inside c d) (clauses_of (with_ids pool rows p left []) n))
    (any_from (λ c. is_inside c d) (clauses_of (with_ids pool rows p left []) n) (clause_at pool v.0.clause)
    (subst (λ z. In (clause_at pool v.0.clause) (clauses_of (with_ids pool rows p left []) z)) (sym same) ((s.lists (w.0 % length f.lists) v.0 v.1).has left))
    (and_parts (eqb n v.0.holder) (is_inside (clause_at pool v.0.clause) d) v.2).1)

or_or : (a b c : Bool) → ((a || b) || c) ≡ (a || (b || c))
or_or true b c = refl
or_or false b c = refl

-- How they are gathered: from the first entries of a list, and from one more.
module _ (pool : Interned) (list : List Entry) (d first : List ℕ) (k : ℕ) (e : Entry) (found : List ℕ) (l : k < length list) (is : get_or list k e ≡ e) where
  one_more : (n : ℕ) → tell_within pool (take (k + 1) list) d n ≡ (tell_within pool (take k list) d n || tells_within pool d n e)
  one_more n = list_any_more (tells_within pool d n) list k e l ∙ ap (λ z. tell_within pool (take k list) d n || tells_within pool d n z) is

  pub told_more : (all : List ℕ) (n : ℕ) → is_inside (clause_at pool e.clause) d ≡ true → all ≡ found ++ e.holder ∷ [] → has found n ≡ (has first n || tell_within pool (take k list) d n)
      → has all n ≡ (has first n || tell_within pool (take (k + 1) list) d n)
  told_more all n t v h =
      ap (λ xs. has xs n) v ∙ list_any-append (λ m. eqb n m) found (e.holder ∷ [])
      ∙ ap₂ (λ a b. a || b) h (only (eqb n e.holder) (is_inside (clause_at pool e.clause) d) t)
      ∙ or_or (has first n) (tell_within pool (take k list) d n) (tells_within pool d n e)
      ∙ ap (λ b. has first n || b) (sym (one_more n))
    where
      only : (a b : Bool) → b ≡ true → (a || false) ≡ (a && b)
      only true b u = sym u
      only false b u = refl

  pub told_not : (n : ℕ) → is_inside (clause_at pool e.clause) d ≡ false → has found n ≡ (has first n || tell_within pool (take k list) d n)
      → has found n ≡ (has first n || tell_within pool (take (k + 1) list) d n)
  told_not n t h = h ∙ ap (λ b. has first n || b) (sym (one_more n ∙ none (tell_within pool (take k list) d n) (eqb n e.holder) (is_inside (clause_at pool e.clause) d) t))
    where
      none : (o a b : Bool) → b ≡ false → (o || (a && b)) ≡ o
      none true a b u = refl
      none false true b u = u
      none false false b u = refl

-- from the lists of the first members, and from that of one more
pub listed_more : (pool : Interned) (lists : List (List Entry)) (c d first : List ℕ) (k x : ℕ) (found all : List ℕ) (n : ℕ) → k < length d → x ≡ get_or d k x → has all n ≡ (has found n || tell_within pool (under lists x) c n)
    → has found n ≡ (has first n || list_any (λ y. tell_within pool (under lists y) c n) (take k d)) → has all n ≡ (has first n || list_any (λ y. tell_within pool (under lists y) c n) (take (k + 1) d))
listed_more pool lists c d first k x found all n l e v h =
    v ∙ ap₂ (λ a y. a || tell_within pool (under lists y) c n) h e
    ∙ or_or (has first n) (list_any (λ y. tell_within pool (under lists y) c n) (take k d)) (tell_within pool (under lists (get_or d k x)) c n)
    ∙ ap (λ b. has first n || b) (sym (list_any_more (λ y. tell_within pool (under lists y) c n) d k x l))

-- What comes.

pub on_ok_map : {A E : Type 0} {P Q : Type 0} (r : Result A E) → (P → Q) → OnOk r P → OnOk r Q
on_ok_map (Ok x) f p = f p
on_ok_map (Err e) f p = tt

-- an entry behind the others of a list
module _ (table : List (Vec Entry)) (i : ℕ) (x : Entry) (w d : Vec Entry) (l : i < length table) (more : w.items ≡ (get_or table i d).items ++ x ∷ []) where
  other : (k : ℕ) → k ≢ i → entries_at (entries_in (slice_set table i w)) k ≡ entries_at (entries_in table) k
  other k ne = ap (λ xs. get_or xs k []) (map-set (λ u. u.items) table i w) ∙ get_or-set_other (entries_in table) i k w.items [] ne

  now : entries_at (entries_in (slice_set table i w)) i ≡ entries_at (entries_in table) i ++ x ∷ []
  now =
      ap (λ xs. get_or xs i []) (map-set (λ u. u.items) table i w)
      ∙ get_or-set_same (entries_in table) i w.items [] (subst (λ n. i < n) (sym (length-map table (λ u. u.items))) l)
      ∙ more ∙ ap (λ xs. xs ++ x ∷ []) (sym (get_or-map (λ u. u.items) table i d [] l))

  pub entry_there : In x (entries_at (entries_in (slice_set table i w)) i)
  entry_there = subst (λ xs. In x xs) (sym now) (In_append_right (entries_at (entries_in table) i) (x ∷ []) x here)

  pub entry_gained : Gains x (entries_in table) (entries_in (slice_set table i w))
  entry_gained = record {
    size = length-map (slice_set table i w) (λ u. u.items) ∙ length-set table i w ∙ sym (length-map table (λ u. u.items));
    stays = λ k e j. elim (cases_eq k i) [
      | inl s ↦
          subst (λ z. In e (entries_at (entries_in (slice_set table i w)) z)) (sym s)
          (subst (λ xs. In e xs) (sym now) (In_append_left (entries_at (entries_in table) i) (x ∷ []) e (subst (λ z. In e (entries_at (entries_in table) z)) s j)))
      | inr ne ↦ subst (λ xs. In e xs) (sym (other k ne)) j
    ];
    came = λ k e j. elim (cases_eq k i) [
      | inl s ↦ elim (In_append_cases (entries_at (entries_in table) i) (x ∷ []) e (subst (λ xs. In e xs) now (subst (λ z. In e (entries_at (entries_in (slice_set table i w)) z)) s j))) [
        | inl a ↦ inl (subst (λ z. In e (entries_at (entries_in table) z)) (sym s) a)
        | inr b ↦ elim (In_cases b) [ inl same ↦ inr same | inr none ↦ absurd (In_none none) ]
      ]
      | inr ne ↦ inl (subst (λ xs. In e xs) (other k ne) j)
    ];
  }

pub gains_none : (x : Entry) (lists : List (List Entry)) → Gains x lists lists
gains_none x lists = record { size = refl; stays = λ k e i. i; came = λ k e i. inl i }

pub takes_none : (p n : ℕ) (row : List ℕ) (f : Filed) → Takes p n row f f
takes_none p n row f = record { size = refl; always = λ m i. i; lists = λ k e i. i; always_came = λ m i. inl i; lists_came = λ k e i. inl i }

-- with the first clauses, and with one more
pub takes_more : (p n : ℕ) (row : List ℕ) (id : ℕ) (a b c : Filed) → In id row → Takes p n row a b → Takes p n (id ∷ []) b c → Takes p n row a c
takes_more p n row id a b c inside s t = record {
  size = t.size ∙ s.size;
  always = λ m i. t.always m (s.always m i);
  lists = λ k e i. t.lists k e (s.lists k e i);
  always_came = λ m i. elim (t.always_came m i) [ inl j ↦ s.always_came m j | inr e ↦ inr e ];
  lists_came = λ k e i. elim (t.lists_came k e i) [
    | inl j ↦ s.lists_came k e j
    | inr o ↦ inr (record { holder = o.holder; apart = o.apart; clause = elim (In_cases o.clause) [ inl same ↦ subst (λ z. In z row) (sym same) inside | inr none ↦ absurd (In_none none) ] })
  ];
}

-- one more entry
pub takes_entry : (p n : ℕ) (id : ℕ) (always : List ℕ) (e : Entry) (old new : List (List Entry)) → e.holder ≡ n → e.clause ≡ id → (n ≡ p → ⊥) → Gains e old new
    → Takes p n (id ∷ []) (record { always = always; lists = old }) (record { always = always; lists = new })
takes_entry p n id always e old new s t apart g = record {
  size = g.size;
  always = λ m i. i;
  lists = g.stays;
  always_came = λ m i. inl i;
  lists_came = λ k o i. elim (g.came k o i) [
    | inl j ↦ inl j
    | inr same ↦ inr (record { holder = ap (λ z. z.holder) same ∙ s; apart = apart; clause = subst (λ z. In z (id ∷ [])) (sym (ap (λ z. z.clause) same ∙ t)) here })
  ];
}

-- one more that is always asked
module _ (always new : List ℕ) (lists : List (List Entry)) (n : ℕ) (e : new ≡ always ++ n ∷ []) where
  pub takes_always : (p : ℕ) (row : List ℕ) → Takes p n row (record { always = always; lists = lists }) (record { always = new; lists = lists })
  takes_always p row = record {
    size = refl;
    always = λ m i. subst (λ xs. In m xs) (sym e) (In_append_left always (n ∷ []) m i);
    lists = λ k o i. i;
    always_came = λ m i. elim (In_append_cases always (n ∷ []) m (subst (λ xs. In m xs) e i)) [
      | inl a ↦ inl a
      | inr b ↦ elim (In_cases b) [ inl s ↦ inr s | inr none ↦ absurd (In_none none) ]
    ];
    lists_came = λ k o i. inl i;
  }

  last : In n new
  last = subst (λ xs. In n xs) (sym e) (In_append_right always (n ∷ []) n here)

  pub filed_always : (pool : Interned) (members c : List ℕ) → IsFiled pool members (record { always = new; lists = lists }) c n
  filed_always pool members [] = last
  filed_always pool members (x ∷ c) = λ _. inl last

-- whoever is filed stays filed
pub filed_still : (pool : Interned) (members : List ℕ) (p n : ℕ) (row : List ℕ) (old new : Filed) → Takes p n row old new → (c : List ℕ) (m : ℕ) → IsFiled pool members old c m → IsFiled pool members new c m
filed_still pool members p n row old new t [] m i = t.always m i
filed_still pool members p n row old new t (x ∷ c) m i = λ inside. elim (i inside) [
  | inl a ↦ inl (t.always m a)
  | inr s ↦ inr (record {
    entry = s.entry;
    there = subst (λ z. In s.entry (entries_at new.lists (x % z))) (sym t.size) (t.lists (x % length old.lists) s.entry s.there);
    holder = s.holder;
    clause = s.clause;
  })
]

-- under the first number of its clause
pub filed_under : (pool : Interned) (members always : List ℕ) (lists : List (List Entry)) (c : List ℕ) (x : ℕ) (rest : List ℕ) (e : Entry) (n : ℕ) → c ≡ x ∷ rest → clause_at pool e.clause ≡ c → e.holder ≡ n
    → (In x members → In e (under lists x)) → IsFiled pool members (record { always = always; lists = lists }) c n
filed_under pool members always lists c x rest e n cut is of i =
    subst (λ z. IsFiled pool members (record { always = always; lists = lists }) z n) (sym cut) (λ inside. inr (record { entry = e; there = i inside; holder = of; clause = is ∙ cut }))

-- another package has the same clauses whatever is left of the pruned one
same_clauses : (pool : Interned) (rows : List ℕ) (p n : ℕ) (left other : List ℕ) → (n ≡ p → ⊥) → clauses_of (with_ids pool rows p left []) n ≡ clauses_of (with_ids pool rows p other []) n
same_clauses pool rows p n left other ne = get_or-set_other (map (row_at pool) rows) p n (clauses_at pool left) [] ne ∙ sym (get_or-set_other (map (row_at pool) rows) p n (clauses_at pool other) [] ne)

-- what is filed is right, and so it is with the clauses of one more package
pub filed_for_still : (pool : Interned) (rows : List ℕ) (p n : ℕ) (left row : List ℕ) (old new : Filed) → n < length rows → OfPool pool row → clauses_at pool row ≡ clauses_of (with_ids pool rows p left []) n
    → Takes p n row old new → FiledFor pool rows p old → FiledFor pool rows p new
filed_for_still pool rows p n left row old new l of is t f = record {
  always = λ m i. elim (t.always_came m i) [ inl j ↦ f.always m j | inr e ↦ subst (λ z. z < length rows) (sym e) l ];
  lists = λ k e i. elim (t.lists_came k e i) [
    | inl j ↦ f.lists k e j
    | inr o ↦ record {
      of_pool = of e.clause o.clause;
      has = λ now.
          subst (λ z. In (clause_at pool e.clause) (clauses_of (with_ids pool rows p now []) z)) (sym o.holder)
          (subst (λ cs. In (clause_at pool e.clause) cs) (is ∙ same_clauses pool rows p n left now o.apart) (In_map (clause_at pool) row e.clause o.clause));
    }
  ];
}

-- nobody is filed at first
pub filed_for_none : (pool : Interned) (rows : List ℕ) (p : ℕ) (always : List ℕ) (lists : List (List Entry)) → always ≡ [] → ((place : ℕ) → entries_at lists place ≡ []) → FiledFor pool rows p (record { always = always; lists = lists })
filed_for_none pool rows p always lists e f = record { always = λ m i. absurd (In_none (subst (λ xs. In m xs) e i)); lists = λ k o i. absurd (In_none (subst (λ xs. In o xs) (f k) i)) }

-- what holds of the first items, and of one more
pub more_items : (P : ℕ → Type 0) (xs : List ℕ) (k x : ℕ) → k < length xs → x ≡ get_or xs k x → ((y : ℕ) → In y (take k xs) → P y) → P x → (y : ℕ) → In y (take (k + 1) xs) → P y
more_items P xs k x l e first last y i =
    elim (In_append_cases (take k xs) (x ∷ []) y (subst (λ zs. In y zs) (take_more xs k x l ∙ ap (λ z. take k xs ++ z ∷ []) (sym e)) i)) [
      | inl a ↦ first y a
      | inr b ↦ elim (In_cases b) [ inl s ↦ subst P (sym s) last | inr none ↦ absurd (In_none none) ]
    ]

-- Clauses that go.

-- a clause of a package in what is left was one before
had : (pool : Interned) (rows : List ℕ) (p : ℕ) (ids left : List ℕ) → p < length rows → ((id : ℕ) → In id left → In id ids) → (n : ℕ) (e : List ℕ)
    → In e (clauses_of (with_ids pool rows p left []) n) → In e (clauses_of (with_ids pool rows p ids []) n)
had pool rows p ids left inside part n e i =
    elim (cases_eq n p) [
      | inl s ↦
          let now : clauses_of (with_ids pool rows p left []) n ≡ clauses_at pool left = ap (clauses_of (with_ids pool rows p left [])) s ∙ left_own pool rows p left [] inside in
          let before : clauses_of (with_ids pool rows p ids []) n ≡ clauses_at pool ids = ap (clauses_of (with_ids pool rows p ids [])) s ∙ left_own pool rows p ids [] inside in
          let o : (id : ℕ) × In id left × (e ≡ clause_at pool id) = In_map_cases (clause_at pool) left e (subst (λ cs. In e cs) now i) in
          subst (λ cs. In e cs) (sym before) (subst (λ c. In c (clauses_at pool ids)) (sym o.2) (In_map (clause_at pool) ids o.0 (part o.0 o.1)))
      | inr ne ↦
          subst (λ cs. In e cs) (same_clauses pool rows p n left ids ne) i
    ]

-- whoever sees to it that a clause is hit in what is left did so before, and is asked
pub asks_left : (pool : Interned) (rows : List ℕ) (p : ℕ) (ids left : List ℕ) (f : Filed) (d : List ℕ) → p < length rows → ((id : ℕ) → In id left → In id ids)
    → AsksServing pool (with_ids pool rows p ids []) (clauses_at pool ids) f d → AsksServing pool (with_ids pool rows p left []) (clauses_at pool left) f d
asks_left pool rows p ids left f d inside part all c i n j h =
    let o : (id : ℕ) × In id left × (c ≡ clause_at pool id) = In_map_cases (clause_at pool) left c i in
    all c (subst (λ z. In z (clauses_at pool ids)) (sym o.2) (In_map (clause_at pool) ids o.0 (part o.0 o.1))) n j
    (elim (or_cases (has d n) (list_any (λ e. is_inside e d) (clauses_of (with_ids pool rows p left []) n)) h) [
      | inl a ↦ or_left (has d n) (list_any (λ e. is_inside e d) (clauses_of (with_ids pool rows p ids []) n)) a
      | inr a ↦
          let w : (e : List ℕ) × In e (clauses_of (with_ids pool rows p left []) n) × (is_inside e d ≡ true) = any_cases (λ e. is_inside e d) (clauses_of (with_ids pool rows p left []) n) a in
          or_right (has d n) (list_any (λ e. is_inside e d) (clauses_of (with_ids pool rows p ids []) n))
          (any_from (λ e. is_inside e d) (clauses_of (with_ids pool rows p ids []) n) w.0 (had pool rows p ids left inside part n w.0 w.1) w.2)
    ])
