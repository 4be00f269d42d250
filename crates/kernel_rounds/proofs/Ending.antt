-- The rounds end, whatever comes after merging: packages, then conflicts, then packages without conflicts in clauses, then the
-- weight of the clauses go down.
use Rattle.std.proofs.Common.{◌≡◌, ℕ, Bool, zero, suc, ◌<◌, ◌≤◌, ◌+◌, ◌*◌, true, false, List, [], ◌∷◌, length, ◌⊎◌, inl, inr, refl, sym, ◌∙◌, ap, ap₂, subst}
use Rattle.std.proofs.{Common.{arith, slice_index_or, zero-le}, Math.Nat.{mul-le-mul_right, mul-le-mul_left}, lemmas.Bool.{cases_Bool, cases_lt}}
use Rattle.listed.specs.Lists.{In, here, there, Ascending}
use Rattle.clause_pool.specs.Lists.{Before, InOrder}
use Rattle.row_book.specs.{Numbers.{subsets}, Repository.{Repository, clauses_of}, Sound.{SoundRepository, TidyRepository}}
use Rattle.row_book.specs.{Flattening.{core_of, flat, has_conflict}, Support.{MinimalBlock}, Merging.{firsts, quotient}, Rounds.{weigh, enough_rounds}}
use Rattle.listed.proofs.Lists.{In_cases, In_none}
use Rattle.clause_pool.proofs.Order.{before_asym}
use Rattle.row_book.proofs.{Numbers.{subsets_has, subsets_order, subsets_parts}, Repositories.{repository_same, table_same}}
use Rattle.clause_flatten.proofs.{Stages.{core_stays_lem}, TidyFlat.{flat_conflicts, flat_minimal, flat_order, flat_row, flat_size, flat_sound, flat_tidy}}
use Rattle.class_merge.specs.Laws.{plain_clauses}
use Rattle.class_merge.proofs.{Kept.{merged_order, merged_size}, Plain.{firsts_le, merge_plain_lem, plain_conflicts}}
use Rattle.clause_prune.proofs.Dropping.{lighter_trans}
use Rattle.kernel_rounds.specs.{Tails.{Lighter, Tail, conflict_count, round_with, rounds_with}, Laws.{RowsInOrder, TailsEnd, standing_count, stands}}
use Rattle.kernel_rounds.proofs.Plain.{flat_is_plain, flat_plain_lem, plain_parts}
use Rattle.kernel_rounds.proofs.Standing.{StandsAt, blocks_stand, standing_few, standing_or, stands_from, stands_parts}
use Rattle.kernel_rounds.proofs.{Tails.{merged_tidy, round_size, round_sound}, Thins.{count_few, count_same}}

-- clauses in order, all of them among others in order, are the same or weigh less
pub sub_or : (xs ys : List (List ℕ)) → InOrder xs → InOrder ys → ((c : List ℕ) → In c xs → In c ys) → Lighter xs ys
sub_or [] [] a b f = inl refl
sub_or [] (y ∷ ys) a b f = inr (omega arith)
sub_or (x ∷ xs) [] a b f = absurd (In_none (f x here))
sub_or (x ∷ xs) (y ∷ ys) a b f =
    elim (In_cases (f x here)) [
      | inl e ↦
          let f2 : (c : List ℕ) → In c xs → In c ys = λ c i. elim (In_cases (f c (there i))) [
            | inl g ↦ let k : Before y y = subst (λ z. Before z y) e (subst (λ z. Before x z) g (a.0 c i)) in absurd (before_asym y y k k)
            | inr j ↦ j
          ] in
          elim (sub_or xs ys a.1 b.1 f2) [
            | inl s ↦ inl (ap₂ (λ z zs. z ∷ zs) e s)
            | inr l ↦ inr (let k : length x ≡ length y = ap (λ z. length z) e in omega (arith, k))
          ]
      | inr j ↦
          let back : Before y x = b.0 x j in
          let f3 : (c : List ℕ) → In c (x ∷ xs) → In c ys = λ c i. elim (In_cases (f c i)) [
            | inr k ↦ k
            | inl g ↦ elim (In_cases i) [
              | inl h ↦ let k : Before y y = subst (λ z. Before y z) (sym h ∙ g) back in absurd (before_asym y y k k)
              | inr m ↦ let k : Before x y = subst (λ z. Before x z) g (a.0 c m) in absurd (before_asym x y k back)
            ]
          ] in
          elim (sub_or (x ∷ xs) ys a b.1 f3) [
            | inl s ↦ inr (let k : weigh (x ∷ xs) ≡ weigh ys = ap weigh s in omega (arith, k))
            | inr l ↦ inr (omega arith)
          ]
    ]

-- the weight of all clauses
unfoldable pub total : List (List (List ℕ)) → ℕ
total [] = 0
total (r ∷ t) = weigh r + total t

total_or : (xs ys : List (List (List ℕ))) → length xs ≡ length ys → ((p : ℕ) → p < length xs → Lighter (slice_index_or xs p []) (slice_index_or ys p [])) →
    (xs ≡ ys) ⊎ (total xs < total ys)
unfolding total
total_or [] [] e f = inl refl
total_or [] (y ∷ ys) e f = absurd (omega (arith, e))
total_or (x ∷ xs) [] e f = absurd (omega (arith, e))
total_or (x ∷ xs) (y ∷ ys) e f =
    elim (total_or xs ys (omega (arith, e)) (λ p l. f (suc p) (omega arith))) [
      | inl s ↦ elim (f 0 (omega arith)) [
        | inl g ↦ inl (ap₂ (λ z zs. z ∷ zs) g s)
        | inr l ↦ inr (let k : total xs ≡ total ys = ap total s in omega (arith, k))
      ]
      | inr m ↦ elim (f 0 (omega arith)) [
        | inl g ↦ inr (let k : weigh x ≡ weigh y = ap weigh g in omega (arith, k))
        | inr l ↦ inr (omega arith)
      ]
    ]

total_few : (xs : List (List (List ℕ))) (w : ℕ) → ((p : ℕ) → p < length xs → weigh (slice_index_or xs p []) ≤ w) → total xs ≤ length xs * w
unfolding total
total_few [] w f = zero-le
total_few (x ∷ xs) w f =
    let a : weigh x ≤ w = f 0 (omega arith) in
    let b : total xs ≤ length xs * w = total_few xs w (λ p l. f (suc p) (omega arith)) in
    omega (arith, a, b)

-- what a round does: fewer packages, or as many and fewer conflicts, or as many of both and fewer packages without conflicts in
-- clauses
unfoldable pub Less : Repository → Repository → Type 0
Less K T =
    (length T.clauses < length K.clauses)
    ⊎ ((length T.clauses ≡ length K.clauses) × ((conflict_count T < conflict_count K) ⊎ ((conflict_count T ≡ conflict_count K) × (standing_count T < standing_count K))))

-- or as many of all these, and then each package that stands in a clause was of the core
pub record Same (limit : ℕ) (hold : Bool) (t : Repository → Repository) (K T : Repository) : Type 0 where
  pub is : T ≡ t (flat limit hold K)
  pub size : length T.clauses ≡ length K.clauses
  pub conflicts : T.conflicts ≡ K.conflicts
  pub standing : standing_count T ≡ standing_count K
  pub inner : (p : ℕ) (c : List ℕ) (n : ℕ) → In c (clauses_of K p) → In n c → core_of limit hold K n ≡ true

pub merge_full : (limit : ℕ) (hold : Bool) (K : Repository) → SoundRepository K → length (firsts (flat limit hold K)) ≡ length K.clauses → quotient (flat limit hold K) ≡ flat limit hold K
merge_full limit hold K s e =
    let F : Repository = flat limit hold K in
    let f : SoundRepository F = flat_sound limit hold K s in
    let full : length (firsts F) ≡ length F.clauses = e ∙ sym (flat_size limit hold K) in
    repository_same (quotient F) F
    (table_same (quotient F).clauses F.clauses (merged_size F ∙ full)
    (λ p l. (merge_plain_lem F f full p (subst (λ z. p < z) (merged_size F ∙ full) l)).clauses ∙ flat_is_plain limit hold K s p))
    (plain_conflicts F f full)

-- a package that stands in a clause of the flattened repository is of the core, and stood in a clause before
record FromCore (limit : ℕ) (hold : Bool) (K : Repository) (q : ℕ) : Type 0 where
  stood : stands K q ≡ true
  core : core_of limit hold K q ≡ true

from_core : (limit : ℕ) (hold : Bool) (t : Repository → Repository) → Tail t → (K : Repository) → SoundRepository K → (q : ℕ) → stands (t (flat limit hold K)) q ≡ true → FromCore limit hold K q
from_core limit hold t tail K s q h =
    let F : Repository = flat limit hold K in
    let w : StandsAt (t F) q = stands_parts (t F) q h in
    elim (tail.clauses F (flat_tidy limit hold K s) w.holder w.clause w.listed) [
      | inl i ↦
          let m : MinimalBlock K (core_of limit hold K) w.holder w.clause = flat_minimal limit hold K s w.holder w.clause i in
          record { stood = blocks_stand K (core_of limit hold K) w.holder w.clause q m w.inside; core = m.blocks.within q w.inside }
      | inr e ↦ absurd (In_none (subst (λ d. In q d) e w.inside))
    ]

-- where as many packages without conflicts are left in clauses, each package that stood in a clause was of the core
all_of_core : (limit : ℕ) (hold : Bool) (t : Repository → Repository) → Tail t → (K : Repository) → SoundRepository K →
    ((q : ℕ) → q < length K.clauses → has_conflict K q ≡ false → stands K q ≡ true → stands (t (flat limit hold K)) q ≡ true) →
    (p : ℕ) (c : List ℕ) (n : ℕ) → In c (clauses_of K p) → In n c → core_of limit hold K n ≡ true
all_of_core limit hold t tail K s h p c n i j =
    let l : n < length K.clauses = (s.clauses p c i).1 n j in
    elim (cases_Bool (has_conflict K n)) [
      | inl y ↦ (core_stays_lem limit hold K n).1 (l, inl y)
      | inr f ↦ (from_core limit hold t tail K s n (h n l f (stands_from K p c n i j))).core
    ]

-- where merging merges nothing and what comes after it drops no conflict
level_outcome : (limit : ℕ) (hold : Bool) (t : Repository → Repository) → Tail t → (K T : Repository) → SoundRepository K → T ≡ t (flat limit hold K) → length T.clauses ≡ length K.clauses → T.conflicts ≡ K.conflicts →
    Less K T ⊎ Same limit hold t K T
unfolding Less
level_outcome limit hold t tail K T s is size conflicts =
    let stood : (q : ℕ) → stands T q ≡ true → stands K q ≡ true = λ q h. (from_core limit hold t tail K s q (subst (λ F. stands F q ≡ true) is h)).stood in
    elim (standing_or T K size conflicts stood) [
      | inl l ↦ inl (inr (size, inr (count_same T K size conflicts, l)))
      | inr w ↦ inr (record {
        is = is;
        size = size;
        conflicts = conflicts;
        standing = w.0;
        inner = all_of_core limit hold t tail K s (λ q l f h. subst (λ F. stands F q ≡ true) is (w.1 q l f h));
      })
    ]

pub outcome : (limit : ℕ) (hold : Bool) (t : Repository → Repository) → Tail t → (K : Repository) → SoundRepository K → Less K (round_with limit hold t K) ⊎ Same limit hold t K (round_with limit hold t K)
unfolding Less
outcome limit hold t tail K s =
    let F : Repository = flat limit hold K in
    let M : Repository = quotient F in
    let m : TidyRepository M = merged_tidy limit hold K s in
    let T : Repository = t M in
    let t_size : length T.clauses ≡ length (firsts F) = round_size limit hold t tail K s in
    let le : length (firsts F) ≤ length K.clauses = subst (λ n. length (firsts F) ≤ n) (flat_size limit hold K) (firsts_le F) in
    elim (cases_lt (length (firsts F)) (length K.clauses)) [
      | inl l ↦ inl (inl (subst (λ n. n < length K.clauses) (sym t_size) l))
      | inr ge ↦
          let e : length (firsts F) ≡ length K.clauses = omega arith in
          let mf : M ≡ F = merge_full limit hold K s e in
          let conflicts : M.conflicts ≡ K.conflicts = ap (λ R. R.conflicts) mf ∙ flat_conflicts limit hold K in
          elim (tail.conflicts M m) [
            | inl g ↦ level_outcome limit hold t tail K T s (ap t mf) (t_size ∙ e) (g ∙ conflicts)
            | inr l ↦ inl (inr (t_size ∙ e, inl (subst (λ n. conflict_count T < n) (count_same M K (merged_size F ∙ e) conflicts) l)))
          ]
    ]

-- the clauses are in order after a round
pub sorted_after : (limit : ℕ) (hold : Bool) (t : Repository → Repository) → Tail t → (K : Repository) → SoundRepository K → RowsInOrder (round_with limit hold t K)
sorted_after limit hold t tail K s = tail.order (quotient (flat limit hold K)) (merged_tidy limit hold K s) (merged_order (flat limit hold K))

pub tail_lighter : (limit : ℕ) (hold : Bool) (t : Repository → Repository) → Tail t → (K T : Repository) → SoundRepository K → RowsInOrder K → Same limit hold t K T → (T ≡ K) ⊎ (total T.clauses < total K.clauses)
tail_lighter limit hold t tail K T s sorted same =
    let F : Repository = flat limit hold K in
    let P : Repository = t F in
    let tidy : TidyRepository F = flat_tidy limit hold K s in
    let size : length P.clauses ≡ length K.clauses = tail.size F tidy ∙ flat_size limit hold K in
    let rows : (p : ℕ) → p < length P.clauses → Lighter (clauses_of P p) (clauses_of K p) = λ p u.
    let l : p < length K.clauses = subst (λ z. p < z) size u in
    let plain : clauses_of F p ≡ plain_clauses K p = flat_row limit hold K p l ∙ flat_plain_lem limit hold K s same.inner p l in
    lighter_trans (clauses_of P p) (clauses_of F p) (clauses_of K p) (tail.weight F tidy p)
    (sub_or (clauses_of F p) (clauses_of K p) (flat_order limit hold K p) (sorted p) (λ c i. plain_parts K p c (subst (λ r. In c r) plain i))) in
    subst (λ F. (F ≡ K) ⊎ (total F.clauses < total K.clauses)) (sym same.is)
    (elim (total_or P.clauses K.clauses size rows) [
      | inl e ↦ inl (repository_same P K e (subst (λ F. F.conflicts ≡ K.conflicts) same.is same.conflicts))
      | inr l ↦ inr l
    ])

-- the greatest weight of such clauses
sorted_weight : (R : Repository) → SoundRepository R → RowsInOrder R → total R.clauses ≤ length R.clauses * weigh (subsets (length R.clauses))
sorted_weight R s sorted =
    total_few R.clauses (weigh (subsets (length R.clauses))) (λ p l.
    elim (sub_or (clauses_of R p) (subsets (length R.clauses)) (sorted p) (subsets_order (length R.clauses))
    (λ c i. subsets_has (length R.clauses) c (s.clauses p c i).0 (s.clauses p c i).1)) [
      | inl e ↦ (let k : weigh (clauses_of R p) ≡ weigh (subsets (length R.clauses)) = ap weigh e in omega (arith, k))
      | inr u ↦ omega (arith, u)
    ])

subsets_more : (m n : ℕ) → m ≤ n → weigh (subsets m) ≤ weigh (subsets n)
subsets_more m n l =
    elim (sub_or (subsets m) (subsets n) (subsets_order m) (subsets_order n)
    (λ c i. let w : Ascending c × ((k : ℕ) → In k c → k < m) = subsets_parts m c i in subsets_has n c w.0 (λ k j. let u : k < m = w.1 k j in omega arith))) [
      | inl e ↦ (let k : weigh (subsets m) ≡ weigh (subsets n) = ap weigh e in omega (arith, k))
      | inr u ↦ omega (arith, u)
    ]

weight_bound : (R : Repository) (n : ℕ) → SoundRepository R → RowsInOrder R → length R.clauses ≤ n → total R.clauses ≤ n * weigh (subsets n)
weight_bound R n s sorted l =
    let a : total R.clauses ≤ length R.clauses * weigh (subsets (length R.clauses)) = sorted_weight R s sorted in
    let b : length R.clauses * weigh (subsets (length R.clauses)) ≤ length R.clauses * weigh (subsets n) = mul-le-mul_left (length R.clauses) (subsets_more (length R.clauses) n l) in
    let c : length R.clauses * weigh (subsets n) ≤ n * weigh (subsets n) = mul-le-mul_right (weigh (subsets n)) l in
    omega (arith, a, b, c)

count_bound : (R : Repository) (n : ℕ) → length R.clauses ≤ n → conflict_count R ≤ n * n
count_bound R n l =
    let a : conflict_count R ≤ length R.clauses * length R.clauses = count_few R in
    let b : length R.clauses * length R.clauses ≤ length R.clauses * n = mul-le-mul_left (length R.clauses) l in
    let c : length R.clauses * n ≤ n * n = mul-le-mul_right n l in
    omega (arith, a, b, c)

-- what no round changes after so many, none changes after more
Ends : ℕ → Bool → (Repository → Repository) → Repository → ℕ → Type 0
Ends limit hold t R n = round_with limit hold t (rounds_with limit hold t R n) ≡ rounds_with limit hold t R n

ends_now : (limit : ℕ) (hold : Bool) (t : Repository → Repository) (n : ℕ) (R : Repository) → round_with limit hold t R ≡ R → Ends limit hold t R n
unfolding Ends
ends_now limit hold t zero R e = e
ends_now limit hold t (suc n) R e = subst (λ F. round_with limit hold t (rounds_with limit hold t F n) ≡ rounds_with limit hold t F n) (sym e) (ends_now limit hold t n R e)

ends_later : (limit : ℕ) (hold : Bool) (t : Repository → Repository) (m n : ℕ) (R : Repository) → m ≤ n → Ends limit hold t R m → Ends limit hold t R n
unfolding Ends
ends_later limit hold t zero n R l e = ends_now limit hold t n R e
ends_later limit hold t (suc m) zero R l e = absurd (omega arith)
ends_later limit hold t (suc m) (suc n) R l e = ends_later limit hold t m n (round_with limit hold t R) (omega arith) e

ends_next : (limit : ℕ) (hold : Bool) (t : Repository → Repository) (n : ℕ) (R : Repository) → Ends limit hold t (round_with limit hold t R) n → Ends limit hold t R (suc n)
unfolding Ends
ends_next limit hold t n R e = e

-- where each lesser repository ends after so many
Lower : ℕ → Bool → (Repository → Repository) → Repository → ℕ → Type 0
Lower limit hold t R n = (F : Repository) → SoundRepository F → Less R F → Ends limit hold t F n

lower_same : (limit : ℕ) (hold : Bool) (t : Repository → Repository) (R T : Repository) (n : ℕ) → Same limit hold t R T → Lower limit hold t R n → Lower limit hold t T n
unfolding Lower Less
lower_same limit hold t R T n e low F s l =
    let counts : conflict_count T ≡ conflict_count R = count_same T R e.size e.conflicts in
    low F s (elim l [
      | inl k ↦ inl (subst (λ n. length F.clauses < n) e.size k)
      | inr w ↦ inr (
        w.0 ∙ e.size,
        elim w.1 [
          | inl c ↦ inl (subst (λ n. conflict_count F < n) counts c)
          | inr d ↦ inr (d.0 ∙ counts, subst (λ n. standing_count F < n) e.standing d.1)
        ],
      )
    ])

ends_sorted : (limit : ℕ) (hold : Bool) (t : Repository → Repository) → Tail t → (c b : ℕ) (R : Repository) → SoundRepository R → RowsInOrder R → total R.clauses < c → Lower limit hold t R b →
    Ends limit hold t R (c + b)
unfolding Lower
ends_sorted limit hold t tail zero b R s sorted l low = absurd (omega arith)
ends_sorted limit hold t tail (suc c) b R s sorted l low =
    let T : Repository = round_with limit hold t R in
    let sound : SoundRepository T = round_sound limit hold t tail R s in
    elim (outcome limit hold t tail R s) [
      | inl less ↦ ends_later limit hold t (suc b) (suc c + b) R (omega arith) (ends_next limit hold t b R (low T sound less))
      | inr same ↦ elim (tail_lighter limit hold t tail R T s sorted same) [
        | inl e ↦ ends_now limit hold t (suc c + b) R e
        | inr w ↦
            ends_later limit hold t (suc (c + b)) (suc c + b) R (omega arith)
            (ends_next limit hold t (c + b) R (ends_sorted limit hold t tail c b T sound (sorted_after limit hold t tail R s) (omega (arith, w)) (lower_same limit hold t R T b same low)))
      ]
    ]

-- a round to have clauses in order, and then as many as the greatest weight
ends_any : (limit : ℕ) (hold : Bool) (t : Repository → Repository) → Tail t → (n b : ℕ) (R : Repository) → SoundRepository R → length R.clauses ≤ n → Lower limit hold t R b →
    Ends limit hold t R ((2 + n * weigh (subsets n)) + b)
unfolding Lower
ends_any limit hold t tail n b R s l low =
    let W : ℕ = n * weigh (subsets n) in
    let T : Repository = round_with limit hold t R in
    let sound : SoundRepository T = round_sound limit hold t tail R s in
    elim (outcome limit hold t tail R s) [
      | inl less ↦ ends_later limit hold t (suc b) ((2 + W) + b) R (omega arith) (ends_next limit hold t b R (low T sound less))
      | inr same ↦
          let sorted : RowsInOrder T = sorted_after limit hold t tail R s in
          let small : length T.clauses ≤ n = subst (λ z. z ≤ n) (sym same.size) l in
          let w : total T.clauses ≤ W = weight_bound T n sound sorted small in
          ends_later limit hold t (suc (suc W + b)) ((2 + W) + b) R (omega arith)
          (ends_next limit hold t (suc W + b) R (ends_sorted limit hold t tail (suc W) b T sound sorted (omega arith) (lower_same limit hold t R T b same low)))
    ]

-- where each repository with fewer packages, or no more and fewer conflicts, ends after so many
Fewer : ℕ → Bool → (Repository → Repository) → ℕ → ℕ → ℕ → Type 0
Fewer limit hold t a c b = (F : Repository) → SoundRepository F → (length F.clauses < a) ⊎ ((length F.clauses ≤ a) × (conflict_count F < c)) → Ends limit hold t F b

by_standing : (limit : ℕ) (hold : Bool) (t : Repository → Repository) → Tail t → (n b a c : ℕ) → a ≤ n → Fewer limit hold t a c b →
    (k : ℕ) (R : Repository) → SoundRepository R → length R.clauses ≤ a → conflict_count R ≤ c → standing_count R < k → Ends limit hold t R (k * (2 + n * weigh (subsets n)) + b)
unfolding Lower Less Fewer
by_standing limit hold t tail n b a c u f zero R s l m v = absurd (omega arith)
by_standing limit hold t tail n b a c u f (suc k) R s l m v =
    let W : ℕ = n * weigh (subsets n) in
    ends_later limit hold t ((2 + W) + (k * (2 + W) + b)) (suc k * (2 + W) + b) R (omega arith)
    (ends_any limit hold t tail n (k * (2 + W) + b) R s (omega arith) (λ F g less. elim less [
      | inl x ↦ ends_later limit hold t b (k * (2 + W) + b) F (omega arith) (f F g (inl (omega arith)))
      | inr w ↦
          let size : length F.clauses ≡ length R.clauses = w.0 in
          elim w.1 [
            | inl x ↦ ends_later limit hold t b (k * (2 + W) + b) F (omega arith) (f F g (inr (omega arith, omega arith)))
            | inr y ↦
                let counts : conflict_count F ≡ conflict_count R = y.0 in
                let fewer : standing_count F < standing_count R = y.1 in
                by_standing limit hold t tail n b a c u f k F g (omega arith) (omega arith) (omega arith)
          ]
    ]))

by_conflicts : (limit : ℕ) (hold : Bool) (t : Repository → Repository) → Tail t → (n b : ℕ) → (a : ℕ) → a ≤ n → ((F : Repository) → SoundRepository F → length F.clauses < a → Ends limit hold t F b) →
    (c : ℕ) (R : Repository) → SoundRepository R → length R.clauses ≤ a → conflict_count R < c → Ends limit hold t R (c * (suc n * (2 + n * weigh (subsets n))) + b)
unfolding Fewer
by_conflicts limit hold t tail n b a u f zero R s l m = absurd (omega arith)
by_conflicts limit hold t tail n b a u f (suc c) R s l m =
    let once : ℕ = suc n * (2 + n * weigh (subsets n)) in
    let few : standing_count R ≤ length R.clauses = standing_few R in
    ends_later limit hold t (once + (c * once + b)) (suc c * once + b) R (omega arith)
    (by_standing limit hold t tail n (c * once + b) a c u (λ F g k. elim k [
      | inl v ↦ ends_later limit hold t b (c * once + b) F (omega arith) (f F g v)
      | inr w ↦ by_conflicts limit hold t tail n b a u f c F g w.0 w.1
    ]) (suc n) R s l (omega arith) (omega arith))

by_packages : (limit : ℕ) (hold : Bool) (t : Repository → Repository) → Tail t → (n a : ℕ) → a ≤ suc n → (R : Repository) → SoundRepository R → length R.clauses < a →
    Ends limit hold t R (a * (suc (n * n) * (suc n * (2 + n * weigh (subsets n)))))
by_packages limit hold t tail n zero u R s l = absurd (omega arith)
by_packages limit hold t tail n (suc a) u R s l =
    let once : ℕ = suc (n * n) * (suc n * (2 + n * weigh (subsets n))) in
    let few : conflict_count R ≤ n * n = count_bound R n (omega arith) in
    ends_later limit hold t (once + a * once) (suc a * once) R (omega arith)
    (by_conflicts limit hold t tail n (a * once) a (omega arith) (λ F g k. by_packages limit hold t tail n a (omega arith) F g k) (suc (n * n)) R s (omega arith) (omega arith))

pub tails_end_lem : TailsEnd
unfolding Ends enough_rounds
tails_end_lem limit hold t tail R s = by_packages limit hold t tail (length R.clauses) (suc (length R.clauses)) (omega arith) R s (omega arith)
