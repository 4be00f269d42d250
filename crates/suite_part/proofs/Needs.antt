-- What packages of a mix that have changed need there.
use Rattle.std.proofs.Common.{◌≡◌, ℕ, ◌+◌, ◌<◌, ◌⊎◌, Bool, true, false, ◌&&◌, cond, List, [], ◌∷◌, ◌++◌, length, get_or, filter, take, inl, inr, refl, sym, ◌∙◌}
use Rattle.std.proofs.{Common.{ap, subst, arith, append-nil, append_assoc}, lemmas.Bool.{and_from, and_parts, both_ways, cases_eq}}
use Rattle.std.proofs.{lemmas.List.{map-append, take_more}, lemmas.List.Elements.{filter_more}}
use Rattle.clause_pool.specs.Interned.{Interned, clause_at, clauses_at, row_at}
use Rattle.listed.specs.Lists.{In, here}
use Rattle.listed.proofs.Lists.{In_append_cases, In_append_left, In_append_right, In_cases, In_none, filter_cases, filter_from}
use Rattle.row_book.specs.{declared.book.Book.{Book}, Book.{repository_of}, Flags.{flag}, Uses.{row_id}}
use Rattle.row_book.proofs.{Books.{clauses_row}, Flags.{flag_in}}
use Rattle.suite_part.specs.{Bases.{Flags}, Small.{members_in, AreNeeded}}

-- first some packages, then some more
pub flags_join : (ps qs : List ℕ) (before mid after : List Bool) (work more most : List ℕ) → Flags ps before work mid more → Flags qs mid more after most → Flags (ps ++ qs) before work after most
flags_join ps qs before mid after work more most f g = record {
  size = g.size ∙ f.size;
  stays = λ n u. g.stays n (f.stays n u);
  all = λ n i. elim (In_append_cases ps qs n i) [ inl a ↦ g.stays n (f.all n a) | inr b ↦ g.all n b ];
  own = λ n u. elim (g.own n u) [
    | inl v ↦ elim (f.own n v) [ inl a ↦ inl a | inr i ↦ inr (In_append_left ps qs n i) ]
    | inr i ↦ inr (In_append_right ps qs n i)
  ];
  waits = λ n i. g.waits n (f.waits n i);
  gains = λ n u. elim (g.gains n u) [
    | inl v ↦ elim (f.gains n v) [ inl a ↦ inl a | inr i ↦ inr (g.waits n i) ]
    | inr i ↦ inr i
  ];
  only = λ n i. elim (g.only n i) [ inl j ↦ f.only n j | inr l ↦ inr (subst (λ z. n < z) f.size l) ];
}

-- the members of clauses
pub members_append : (flags : List Bool) (cs ds : List (List ℕ)) → members_in flags (cs ++ ds) ≡ members_in flags cs ++ members_in flags ds
members_append flags [] ds = refl
members_append flags (c ∷ cs) ds = ap (λ xs. filter (flag flags) c ++ xs) (members_append flags cs ds) ∙ sym (append_assoc (filter (flag flags) c) (members_in flags cs) (members_in flags ds))

pub members_more : (flags : List Bool) (cs : List (List ℕ)) (c : List ℕ) → members_in flags (cs ++ c ∷ []) ≡ members_in flags cs ++ filter (flag flags) c
members_more flags cs c = members_append flags cs (c ∷ []) ∙ ap (λ xs. members_in flags cs ++ xs) (append-nil (filter (flag flags) c))

pub member_from : (flags : List Bool) (cs : List (List ℕ)) (c : List ℕ) (n : ℕ) → In c cs → In n c → flag flags n ≡ true → In n (members_in flags cs)
member_from flags [] c n i j u = absurd (In_none i)
member_from flags (d ∷ cs) c n i j u = elim (In_cases i) [
  | inl e ↦ In_append_left (filter (flag flags) d) (members_in flags cs) n (filter_from (flag flags) d n (subst (λ z. In n z) e j) u)
  | inr k ↦ In_append_right (filter (flag flags) d) (members_in flags cs) n (member_from flags cs c n k j u)
]

pub member_up : (flags : List Bool) (cs : List (List ℕ)) (n : ℕ) → In n (members_in flags cs) → flag flags n ≡ true
member_up flags [] n i = absurd (In_none i)
member_up flags (d ∷ cs) n i = elim (In_append_cases (filter (flag flags) d) (members_in flags cs) n i) [ inl a ↦ (filter_cases (flag flags) d n a).1 | inr b ↦ member_up flags cs n b ]

-- the clauses of one more id
pub clauses_next : (pool : Interned) (row : List ℕ) (i id : ℕ) → i < length row → id ≡ get_or row i id → clauses_at pool (take (i + 1) row) ≡ clauses_at pool (take i row) ++ clause_at pool id ∷ []
clauses_next pool row i id l at = ap (clauses_at pool) (take_more row i id l ∙ ap (λ z. take i row ++ z ∷ []) (sym at)) ∙ map-append (clause_at pool) (take i row) (id ∷ [])

-- one more member of a clause
module _ (flags : List Bool) (clause : List ℕ) (i : ℕ) (l : i < length clause) (before mid : List Bool) (work more : List ℕ) (f : Flags (filter (flag flags) (take i clause)) before work mid more) where
  pub each_up : (after : List Bool) (most : List ℕ) → flag flags (get_or clause i 0) ≡ true → Flags (get_or clause i 0 ∷ []) mid more after most → Flags (filter (flag flags) (take (i + 1) clause)) before work after most
  each_up after most up g =
      subst (λ ps. Flags ps before work after most) (sym (filter_more (flag flags) clause i 0 l ∙ ap (λ b. filter (flag flags) (take i clause) ++ cond b (get_or clause i 0 ∷ []) []) up))
      (flags_join (filter (flag flags) (take i clause)) (get_or clause i 0 ∷ []) before mid after work more most f g)

  pub each_down : flag flags (get_or clause i 0) ≡ false → Flags (filter (flag flags) (take (i + 1) clause)) before work mid more
  each_down down =
      subst (λ ps. Flags ps before work mid more)
      (sym (filter_more (flag flags) clause i 0 l ∙ ap (λ b. filter (flag flags) (take i clause) ++ cond b (get_or clause i 0 ∷ []) []) down ∙ append-nil (filter (flag flags) (take i clause)))) f

-- one more clause of a row
pub row_next : (flags : List Bool) (pool : Interned) (row : List ℕ) (i id : ℕ) → i < length row → id ≡ get_or row i id →
    members_in flags (clauses_at pool (take (i + 1) row)) ≡ members_in flags (clauses_at pool (take i row)) ++ filter (flag flags) (clause_at pool id)
row_next flags pool row i id l at = ap (members_in flags) (clauses_next pool row i id l at) ∙ members_more flags (clauses_at pool (take i row)) (clause_at pool id)

module _ (from : Interned) (book : Book) (flags changed : List Bool) where
  abbrev members : ℕ → List ℕ
  members p = members_in flags (row_at from (row_id book.rows p))

  -- packages that are needed: of those before a number all that are in the mix and have changed; each waits, or all that it needs are needed
  pub record NeedsTo (number : ℕ) (needed : List Bool) (work : List ℕ) : Type 0 where
    pub long : length needed ≡ length book.rows
    pub all : (n : ℕ) → n < number → flag flags n ≡ true → flag changed n ≡ true → flag needed n ≡ true
    pub mix : (n : ℕ) → flag needed n ≡ true → flag flags n ≡ true
    pub spread : (n : ℕ) → flag needed n ≡ true → In n work ⊎ ((m : ℕ) → In m (members n) → flag needed m ≡ true)
    pub waiting : (n : ℕ) → In n work → n < length book.rows

  needs_by : (number : ℕ) (needed new : List Bool) (ps work rest more : List ℕ) → ((n : ℕ) → In n work → In n rest ⊎ ((m : ℕ) → In m (members n) → In m ps)) → ((n : ℕ) → In n rest → In n work)
      → ((n : ℕ) → In n ps → flag flags n ≡ true) → Flags ps needed rest new more → NeedsTo number needed work → NeedsTo number new more
  needs_by number needed new ps work rest more cut less up f s = record {
    long = f.size ∙ s.long;
    all = λ n l u c. f.stays n (s.all n l u c);
    mix = λ n u. elim (f.own n u) [ inl old ↦ s.mix n old | inr i ↦ up n i ];
    spread = λ n u. elim (f.gains n u) [
      | inr i ↦ inl i
      | inl old ↦ elim (s.spread n old) [
        | inl w ↦ elim (cut n w) [ inl r ↦ inl (f.waits n r) | inr all ↦ inr (λ m j. f.all m (all m j)) ]
        | inr all ↦ inr (λ m j. f.stays m (all m j))
      ]
    ];
    waiting = λ n i. elim (f.only n i) [ inl r ↦ s.waiting n (less n r) | inr l ↦ subst (λ z. n < z) s.long l ];
  }

  -- a package of the mix that has changed
  pub needs_first : (number : ℕ) (needed new : List Bool) (work more : List ℕ) → (flag changed number && flag flags number) ≡ true → Flags (number ∷ []) needed work new more → NeedsTo number needed work → NeedsTo (number + 1) new more
  needs_first number needed new work more both f s =
      let w : (flag changed number ≡ true) × (flag flags number ≡ true) = and_parts (flag changed number) (flag flags number) both in
      let next : NeedsTo number new more =
      needs_by number needed new (number ∷ []) work work more (λ n i. inl i) (λ n i. i)
      (λ n i. elim (In_cases i) [ inl e ↦ subst (λ z. flag flags z ≡ true) (sym e) w.1 | inr j ↦ absurd (In_none j) ]) f s in
      record {
        long = next.long;
        all = λ n l u c. elim (cases_eq n number) [
          | inl e ↦ f.all n (subst (λ z. In z (number ∷ [])) (sym e) here)
          | inr d ↦ next.all n (omega (arith, d, l)) u c
        ];
        mix = next.mix;
        spread = next.spread;
        waiting = next.waiting;
      }

  -- any other package
  pub needs_other : (number : ℕ) (needed : List Bool) (work : List ℕ) → (flag changed number && flag flags number) ≡ false → NeedsTo number needed work → NeedsTo (number + 1) needed work
  needs_other number needed work neither s = record {
    long = s.long;
    all = λ n l u c. elim (cases_eq n number) [
      | inl e ↦ absurd (both_ways (flag changed number && flag flags number) neither
          (and_from (flag changed number) (flag flags number) (subst (λ z. flag changed z ≡ true) e c) (subst (λ z. flag flags z ≡ true) e u)))
      | inr d ↦ s.all n (omega (arith, d, l)) u c
    ];
    mix = s.mix;
    spread = s.spread;
    waiting = s.waiting;
  }

  -- the needs of one that waits
  pub needs_members : (number p : ℕ) (needed new : List Bool) (work rest more : List ℕ) → work ≡ rest ++ p ∷ [] → Flags (members p) needed rest new more → NeedsTo number needed work → NeedsTo number new more
  needs_members number p needed new work rest more e f s =
      needs_by number needed new (members p) work rest more
      (λ n i. elim (In_append_cases rest (p ∷ []) n (subst (λ z. In n z) e i)) [
        | inl a ↦ inl a
        | inr b ↦ elim (In_cases b) [ inl same ↦ inr (λ m j. subst (λ z. In m (members z)) same j) | inr j ↦ absurd (In_none j) ]
      ])
      (λ n i. subst (λ z. In n z) (sym e) (In_append_left rest (p ∷ []) n i))
      (λ n i. member_up flags (row_at from (row_id book.rows p)) n i) f s

  pub waiting_below : (number p : ℕ) (needed : List Bool) (work rest : List ℕ) → work ≡ rest ++ p ∷ [] → NeedsTo number needed work → p < length book.rows
  waiting_below number p needed work rest e s = s.waiting p (subst (λ z. In p z) (sym e) (In_append_right rest (p ∷ []) p here))

  -- at the end
  pub needs_all : (number : ℕ) (needed : List Bool) (work : List ℕ) → number ≡ length book.rows → length flags ≡ length book.rows → work ≡ [] → NeedsTo number needed work → AreNeeded (repository_of from book) flags changed needed
  needs_all number needed work e size none s = record {
    count = s.long ∙ sym size;
    all = λ n u c. s.all n (let l : n < length flags = flag_in flags n u in omega (arith, l, size, e)) u c;
    mix = s.mix;
    closed = λ p u c i n j up.
        let below : p < length book.rows = subst (λ z. p < z) s.long (flag_in needed p u) in
        elim (s.spread p u) [
          | inl w ↦ absurd (In_none (subst (λ z. In p z) none w))
          | inr all ↦ all n (member_from flags (row_at from (row_id book.rows p)) c n (subst (λ cs. In c cs) (clauses_row from book p below) i) j up)
        ];
  }
