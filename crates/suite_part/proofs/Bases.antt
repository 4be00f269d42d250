-- Flags of packages that are not the same in two parts.
use Rattle.std.proofs.Common.{◌≡◌, ℕ, zero, suc, ◌+◌, ◌-◌, ◌<◌, ◌≤◌, ◌⊎◌, Bool, true, false, not, cond, ltb, List, [], ◌∷◌, ◌++◌, length, get_or, set, map}
use Rattle.std.proofs.Common.{replicate, inl, inr, refl, sym, ◌∙◌, ap, ap₂, subst, arith}
use Rattle.std.proofs.lemmas.Bool.{both_ways, cases_eq, cases_lt, false_from_ne_true, le-ltb, lt-ltb}
use Rattle.std.proofs.lemmas.List.{get_or-replicate, get_or-set_other, get_or-set_same, get_or_past, length-append, length-replicate, length-set, map-append}
use Rattle.std.proofs.lemmas.List.Sums.{sum_by-set}
use Rattle.std.specs.Prelude.{count_by, IfOk, Result, Ok, Err}
use Rattle.clause_pool.specs.Interned.{Interned, row_at}
use Rattle.listed.specs.Lists.{In, has, here}
use Rattle.listed.proofs.Lists.{In_append_left, In_append_right, In_at, In_has, In_none, any_from, in_push}
use Rattle.row_book.specs.{Book.{listed_for, repository_of, Sound}, Flags.{flag}, Numbers.{numbers}, Uses.{row_holds, row_id, uses_of}}
use Rattle.row_book.specs.declared.book.Book.{Book}
use Rattle.row_book.proofs.{Books.{clauses_row}, Numbers.{numbers_more}, Users.{list_of_uses, user_from}}
use Rattle.suite_part.specs.Bases.{first_flags, AreChanged, Flags, StandsAlike}

-- the flags of the first packages, one after another
past_first : (b n s : ℕ) → b ≤ s → map (λ k. ltb k b) (numbers n s) ≡ replicate n false
unfolding numbers
past_first b zero s l = refl
past_first b (suc n) s l = ap₂ (λ x xs. x ∷ xs) (le-ltb s b l) (past_first b n (suc s) (omega arith))

first_from : (b count size s : ℕ) → count ≤ size → b ≡ s + count → map (λ k. ltb k b) (numbers size s) ≡ first_flags count size
unfolding numbers
first_from b zero zero s l e = refl
first_from b zero (suc size) s l e = let all : suc size ≡ suc size - 0 = omega arith in past_first b (suc size) s (omega (arith, e)) ∙ ap (λ z. replicate z false) all
first_from b (suc count) zero s l e = absurd (omega arith)
first_from b (suc count) (suc size) s l e =
    let left : size - count ≡ suc size - suc count = omega arith in
    ap₂ (λ x xs. x ∷ xs) (lt-ltb s b (omega (arith, e))) (first_from b count size (suc s) (omega arith) (omega (arith, e)))
    ∙ ap (λ z. replicate (suc count) true ++ replicate z false) left

pub first_all : (count size : ℕ) → count ≤ size → map (λ k. ltb k count) (numbers size 0) ≡ first_flags count size
first_all count size l = first_from count count size 0 l (omega arith)

pub first_none : (b : ℕ) (made : List Bool) → made ≡ [] → made ≡ map (λ k. ltb k b) (numbers 0 0)
unfolding numbers
first_none b made e = e

pub first_more : (b n : ℕ) (made more : List Bool) (x : Bool) → made ≡ map (λ k. ltb k b) (numbers n 0) → x ≡ ltb n b → more ≡ made ++ x ∷ [] → more ≡ map (λ k. ltb k b) (numbers (n + 1) 0)
first_more b n made more x so_far e pushed = pushed ∙ ap₂ (λ xs y. xs ++ y ∷ []) so_far e ∙ sym (ap (map (λ k. ltb k b)) (numbers_more n) ∙ map-append (λ k. ltb k b) (numbers n 0) (n ∷ []))

pub first_last : (count size n : ℕ) (made : List Bool) → count ≤ size → n ≡ size → made ≡ map (λ k. ltb k count) (numbers n 0) → made ≡ first_flags count size
first_last count size n made l e is = is ∙ ap (λ z. map (λ k. ltb k count) (numbers z 0)) e ∙ first_all count size l

-- what is said of a value that there is
pub if_ok_then : {A E : Type 0} {P Q : A → Type 0} (r : Result A E) → ((x : A) → P x → Q x) → IfOk r P → IfOk r Q
if_ok_then (Ok x) f p = f x p
if_ok_then (Err e) f p = tt

set_up : (flags : List Bool) (x n : ℕ) → x < length flags → flag flags n ≡ true → flag (set flags x true) n ≡ true
set_up flags x n l u =
    elim (cases_eq n x) [
      | inl e ↦ subst (λ z. flag (set flags x true) z ≡ true) (sym e) (get_or-set_same flags x true false l)
      | inr d ↦ get_or-set_other flags x n true false d ∙ u
    ]

module _ (ps qs : List ℕ) (before mid : List Bool) (work more : List ℕ) (x : ℕ) (next : qs ≡ ps ++ x ∷ []) (f : Flags ps before work mid more) where
  pub flags_more : (after : List Bool) (most : List ℕ) → x < length mid → after ≡ set mid x true → most ≡ more ++ x ∷ [] → Flags qs before work after most
  flags_more after most l e m =
      let up : (n : ℕ) → flag mid n ≡ true → flag after n ≡ true = λ n u. subst (λ z. flag z n ≡ true) (sym e) (set_up mid x n l u) in
      let its : flag after x ≡ true = subst (λ z. flag z x ≡ true) (sym e) (get_or-set_same mid x true false l) in
      record {
        size = ap length e ∙ length-set mid x true ∙ f.size;
        stays = λ n u. up n (f.stays n u);
        all = λ n i. elim (in_push ps x n (subst (λ z. In n z) next i)) [ inl a ↦ up n (f.all n a) | inr s ↦ subst (λ z. flag after z ≡ true) (sym s) its ];
        own = λ n u. elim (cases_eq n x) [
          | inl s ↦ inr (subst (λ z. In n z) (sym next) (In_append_right ps (x ∷ []) n (subst (λ z. In z (x ∷ [])) (sym s) here)))
          | inr d ↦ elim (f.own n (sym (get_or-set_other mid x n true false d) ∙ ap (λ z. flag z n) (sym e) ∙ u)) [
            | inl a ↦ inl a
            | inr i ↦ inr (subst (λ z. In n z) (sym next) (In_append_left ps (x ∷ []) n i))
          ]
        ];
        waits = λ n i. subst (λ z. In n z) (sym m) (In_append_left more (x ∷ []) n (f.waits n i));
        gains = λ n u. elim (cases_eq n x) [
          | inl s ↦ inr (subst (λ z. In n z) (sym m) (In_append_right more (x ∷ []) n (subst (λ z. In z (x ∷ [])) (sym s) here)))
          | inr d ↦ elim (f.gains n (sym (get_or-set_other mid x n true false d) ∙ ap (λ z. flag z n) (sym e) ∙ u)) [
            | inl a ↦ inl a
            | inr i ↦ inr (subst (λ z. In n z) (sym m) (In_append_left more (x ∷ []) n i))
          ]
        ];
        only = λ n i. elim (in_push more x n (subst (λ z. In n z) m i)) [
          | inl a ↦ f.only n a
          | inr s ↦ inr (subst (λ z. z < length before) (sym s) (subst (λ z. x < z) f.size l))
        ];
      }

  pub flags_same : flag mid x ≡ true → Flags qs before work mid more
  flags_same u = record {
    size = f.size;
    stays = f.stays;
    all = λ n i. elim (in_push ps x n (subst (λ z. In n z) next i)) [ inl a ↦ f.all n a | inr s ↦ subst (λ z. flag mid z ≡ true) (sym s) u ];
    own = λ n v. elim (f.own n v) [ inl a ↦ inl a | inr i ↦ inr (subst (λ z. In n z) (sym next) (In_append_left ps (x ∷ []) n i)) ];
    waits = f.waits;
    gains = f.gains;
    only = f.only;
  }

-- what is put to the work loses its place among the flags that are down
pub one_waits : (mid after : List Bool) (more most : List ℕ) (x : ℕ) → x < length mid → flag mid x ≡ false → after ≡ set mid x true → most ≡ more ++ x ∷ [] → count_by not after + length most ≡ count_by not mid + length more
one_waits mid after more most x l down e m =
    let less : count_by not (set mid x true) + cond (not (get_or mid x false)) 1 0 ≡ count_by not mid + 0 = sum_by-set (λ b. cond (not b) 1 0) mid x true false l in
    let one : count_by not (set mid x true) + 1 ≡ count_by not mid + 0 = subst (λ b. count_by not (set mid x true) + cond (not b) 1 0 ≡ count_by not mid + 0) down less in
    let long : length most ≡ length more + 1 = ap length m ∙ length-append more (x ∷ []) in
    let same : count_by not after ≡ count_by not (set mid x true) = ap (count_by not) e in
    omega arith

-- flags that spread: each of the packages so far that has no flag stands alike, and each that has its flag waits, or all its users
-- have theirs
pub record Spreads (users conflicts : List (List ℕ)) (own chosen : List Bool) (size number : ℕ) (changed : List Bool) (work : List ℕ) : Type 0 where
  pub long : length changed ≡ size
  pub same : (n : ℕ) → n < number → flag changed n ≡ false → StandsAlike conflicts own chosen n
  pub spread : (n : ℕ) → flag changed n ≡ true → In n work ⊎ ((m : ℕ) → In m (listed_for users n) → flag changed m ≡ true)
  pub waiting : (n : ℕ) → In n work → n < size

none_up : (size n : ℕ) → flag (replicate size false) n ≡ false
none_up size n =
    elim (cases_lt n size) [
      | inl l ↦ get_or-replicate size n false false l
      | inr past ↦ get_or_past (replicate size false) n false (omega (arith, length-replicate size false))
    ]

module _ (users conflicts : List (List ℕ)) (own chosen : List Bool) (size : ℕ) where
  -- a package that stands alike
  pub spread_same : (number : ℕ) (changed : List Bool) (work : List ℕ) → StandsAlike conflicts own chosen number → Spreads users conflicts own chosen size number changed work → Spreads users conflicts own chosen size (number + 1) changed work
  spread_same number changed work alike s = record {
    long = s.long;
    same = λ n l d. elim (cases_eq n number) [
      | inl e ↦ subst (λ z. StandsAlike conflicts own chosen z) (sym e) alike
      | inr differs ↦ s.same n (omega (arith, differs)) d
    ];
    spread = s.spread;
    waiting = s.waiting;
  }

  spread_by : (number : ℕ) (changed new : List Bool) (ps work rest more : List ℕ) → ((n : ℕ) → In n work → In n rest ⊎ ((m : ℕ) → In m (listed_for users n) → In m ps)) → ((n : ℕ) → In n rest → In n work)
      → Flags ps changed rest new more → Spreads users conflicts own chosen size number changed work → Spreads users conflicts own chosen size number new more
  spread_by number changed new ps work rest more cut less f s = record {
    long = f.size ∙ s.long;
    same = λ n l d. s.same n l (false_from_ne_true (flag changed n) (λ u. both_ways (flag new n) d (f.stays n u)));
    spread = λ n u. elim (f.gains n u) [
      | inr i ↦ inl i
      | inl old ↦ elim (s.spread n old) [
        | inl w ↦ elim (cut n w) [ inl r ↦ inl (f.waits n r) | inr all ↦ inr (λ m j. f.all m (all m j)) ]
        | inr all ↦ inr (λ m j. f.stays m (all m j))
      ]
    ];
    waiting = λ n i. elim (f.only n i) [ inl r ↦ s.waiting n (less n r) | inr l ↦ subst (λ z. n < z) s.long l ];
  }

  -- a package that may differ has its flag
  pub spread_first : (number : ℕ) (changed new : List Bool) (work more : List ℕ) → Flags (number ∷ []) changed work new more → Spreads users conflicts own chosen size number changed work
      → Spreads users conflicts own chosen size (number + 1) new more
  spread_first number changed new work more f s =
      let next : Spreads users conflicts own chosen size number new more = spread_by number changed new (number ∷ []) work work more (λ n i. inl i) (λ n i. i) f s in
      record {
        long = next.long;
        same = λ n l d. elim (cases_eq n number) [
          | inl e ↦ absurd (both_ways (flag new n) d (f.all n (subst (λ z. In z (number ∷ [])) (sym e) here)))
          | inr differs ↦ next.same n (omega (arith, differs)) d
        ];
        spread = next.spread;
        waiting = next.waiting;
      }

  -- the users of one that waits have theirs
  pub spread_users : (number p : ℕ) (changed new : List Bool) (work rest more : List ℕ) → work ≡ rest ++ p ∷ [] → Flags (listed_for users p) changed rest new more → Spreads users conflicts own chosen size number changed work
      → Spreads users conflicts own chosen size number new more
  spread_users number p changed new work rest more e f s =
      spread_by number changed new (listed_for users p) work rest more
      (λ n i. elim (in_push rest p n (subst (λ z. In n z) e i)) [ inl a ↦ inl a | inr same_one ↦ inr (λ m j. subst (λ z. In m (listed_for users z)) same_one j) ])
      (λ n i. subst (λ z. In n z) (sym e) (In_append_left rest (p ∷ []) n i)) f s

  pub popped_below : (number p : ℕ) (changed : List Bool) (work rest : List ℕ) → work ≡ rest ++ p ∷ [] → Spreads users conflicts own chosen size number changed work → p < size
  popped_below number p changed work rest e s = s.waiting p (subst (λ z. In p z) (sym e) (In_append_right rest (p ∷ []) p here))

-- at the end
pub spread_changed : (from : Interned) (book : Book) (users : List (List ℕ)) (own chosen changed : List Bool) (work : List ℕ) (size : ℕ) → size ≡ length book.rows → work ≡ [] → Sound from book → users ≡ uses_of from book.rows
    → Spreads users book.conflicts own chosen size size changed work → AreChanged (repository_of from book) own chosen changed
spread_changed from book users own chosen changed work size all none sound are s n l d =
    let below : n < length book.rows = subst (λ z. n < z) (s.long ∙ all) l in
    record {
      needs = λ c i m j. false_from_ne_true (flag changed m) (λ u.
          let row : In c (row_at from (row_id book.rows n)) = subst (λ z. In c z) (clauses_row from book n below) i in
          let within : m < length book.rows = sound.rows.numbers (row_id book.rows n) (In_at book.rows n 0 below) c row m j in
          let holds : row_holds from (row_id book.rows n) m ≡ true = any_from (λ x. has x m) (row_at from (row_id book.rows n)) c row (In_has j) in
          let user : In n (listed_for users m) = subst (λ z. In n z) (sym (ap (λ z. listed_for z m) are ∙ list_of_uses from book.rows m within)) (user_from from book.rows m n below holds) in
          elim (s.spread m u) [
            | inl w ↦ In_none (subst (λ z. In m z) none w)
            | inr f ↦ both_ways (flag changed n) d (f n user)
          ]);
      alike = s.same n (subst (λ z. n < z) s.long l) d;
    }
