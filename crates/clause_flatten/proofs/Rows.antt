-- The computed row is the row.
use Rattle.std.proofs.Common.{◌≡◌, ℕ, ◌<◌, Bool, true, not, ◌&&◌, ◌||◌, eqb, List, [], ◌∷◌, length, ◌⊎◌, inl, inr, refl, sym, subst, arith, eq-eqb, eqb-true}
use Rattle.std.proofs.Common.{zero-le}
use Rattle.std.proofs.lemmas.Bool.{both_ways, cases_Bool, cases_lt, and_parts, and_from, or_cases, or_left, or_right, not_from_false, not-true}
use Rattle.std.proofs.{lemmas.Bool.{false_from_ne_true}, lemmas.List.{get_or_past}}
use Rattle.std.specs.List.{list_all, list_any}
use Rattle.row_book.specs.{Sets.{Hit, Is, NumSet, minus, without}, Repository.{Repository, Satisfied, clauses_of}, Numbers.{subsets}}
use Rattle.row_book.specs.Support.{Alive, Blocks, IsRow, MinimalBlock, Support, among, blocks, is_minimal_block, is_supported, row, supports}
use Rattle.row_book.specs.{Sound.{OfPackages}, Flattening.{packages}}
use Rattle.listed.specs.Lists.{In, has, here, there, Inside, is_inside}
use Rattle.row_book.proofs.Sets.{Hit-mono, without_from, without_parts}
use Rattle.row_book.proofs.Lists.{any_hit, hit_any, members_from, members_from_ascending, members_from_from, members_from_parts, minus_from, minus_parts}
use Rattle.row_book.proofs.Numbers.{numbers_from, subsets_has, subsets_parts}
use Rattle.listed.proofs.Lists.{In_cases, In_has, In_none, all_at, all_from, any_cases, any_from, any_none, filter_cases, filter_from, has_In}
use Rattle.clause_pool.proofs.Clauses.{inside_at, inside_from}
use Rattle.clause_families.specs.Unions.{clause_without}
use Rattle.clause_flatten.proofs.Supports.{support_grows_lem}
use Rattle.clause_families.proofs.Unions.{dropped_from, dropped_parts}

-- the test of support
among_alive : (X : NumSet) (J : List ℕ) (p n : ℕ) → Is (among X J p) n → Alive X (has J) p n
among_alive X J p n h =
    elim (or_cases (X n) (has J n || eqb n p) h) [
      | inl a ↦ inl a
      | inr b ↦ elim (or_cases (has J n) (eqb n p) b) [ inl j ↦ inr (inl j) | inr e ↦ inr (inr (eqb-true n p e)) ]
    ]

alive_among : (X : NumSet) (J : List ℕ) (p n : ℕ) → Alive X (has J) p n → Is (among X J p) n
alive_among X J p n (inl a) = or_left (X n) (has J n || eqb n p) a
alive_among X J p n (inr (inl j)) = or_right (X n) (has J n || eqb n p) (or_left (has J n) (eqb n p) j)
alive_among X J p n (inr (inr e)) = or_right (X n) (has J n || eqb n p) (or_right (has J n) (eqb n p) (eq-eqb n p e))

pub support_from : (R : Repository) (V : NumSet) (p : ℕ) (X : NumSet) → is_supported R V p X ≡ true → Support R V p X
unfolding is_supported supports
support_from R V p X h =
    let w : (J : List ℕ) × In J (subsets (length R.clauses)) × (supports R V p X J ≡ true) = any_cases (supports R V p X) (subsets (length R.clauses)) h in
    let J : List ℕ = w.0 in
    let parts : (list_all (λ n. not (V n)) J ≡ true) × (list_all (λ n. list_all (λ c. list_any (among X J p) c) (clauses_of R n)) (p ∷ J) ≡ true) =
    and_parts (list_all (λ n. not (V n)) J) (list_all (λ n. list_all (λ c. list_any (among X J p) c) (clauses_of R n)) (p ∷ J)) w.2 in
    let meets : (n : ℕ) → In n (p ∷ J) → Satisfied R (Alive X (has J) p) n =
    λ n i c j. Hit-mono (among_alive X J p) (hit_any (among X J p) c
    (all_at (λ c. list_any (among X J p) c) (clauses_of R n) (all_at (λ n. list_all (λ c. list_any (among X J p) c) (clauses_of R n)) (p ∷ J) parts.1 n i) c j)) in
    record {
      helpers = has J;
      packages = λ n j. (subsets_parts (length R.clauses) J w.1).1 n (has_In J n j);
      outside = λ n j. not-true (V n) (all_at (λ n. not (V n)) J parts.0 n (has_In J n j));
      own = meets p here;
      others = λ n j. meets n (there (has_In J n j));
    }

pub support_test : (R : Repository) (V : NumSet) (p : ℕ) (X : NumSet) → Support R V p X → is_supported R V p X ≡ true
unfolding is_supported supports
support_test R V p X s =
    let J : List ℕ = members_from s.helpers (length R.clauses) 0 in
    let is_helper : (n : ℕ) → In n J → Is s.helpers n = λ n i. (members_from_parts s.helpers (length R.clauses) 0 n i).0 in
    let more : (n : ℕ) → Alive X s.helpers p n → Is (among X J p) n =
    λ n a. alive_among X J p n (elim a [
      | inl x ↦ inl x
      | inr (inl y) ↦ inr (inl (In_has (members_from_from s.helpers (length R.clauses) 0 n y zero-le (let l : n < length R.clauses = s.packages n y in omega arith))))
      | inr (inr e) ↦ inr (inr e)
    ]) in
    let met : (n : ℕ) → Satisfied R (Alive X s.helpers p) n → list_all (λ c. list_any (among X J p) c) (clauses_of R n) ≡ true =
    λ n f. all_from (λ c. list_any (among X J p) c) (clauses_of R n) (λ c i. any_hit (among X J p) c (Hit-mono more (f c i))) in
    any_from (supports R V p X) (subsets (length R.clauses)) J
    (subsets_has (length R.clauses) J (members_from_ascending s.helpers (length R.clauses) 0) (λ m i. s.packages m (is_helper m i)))
    (and_from (list_all (λ n. not (V n)) J) (list_all (λ n. list_all (λ c. list_any (among X J p) c) (clauses_of R n)) (p ∷ J))
    (all_from (λ n. not (V n)) J (λ n i. not_from_false (V n) (s.outside n (is_helper n i))))
    (all_from (λ n. list_all (λ c. list_any (among X J p) c) (clauses_of R n)) (p ∷ J) (λ n i. elim (In_cases i) [
      | inl e ↦ subst (λ m. list_all (λ c. list_any (among X J p) c) (clauses_of R m) ≡ true) (sym e) (met p s.own)
      | inr j ↦ met n (s.others n (is_helper n j))
    ])))

-- the tests of blocking and of the least
blocks_from : (R : Repository) (V : NumSet) (p : ℕ) (T : List ℕ) → blocks R V p T ≡ true → Blocks R V p T
unfolding blocks
blocks_from R V p T h =
    let w : (list_all (without V p) T ≡ true) × (not (is_supported R V p (minus V T)) ≡ true) = and_parts (list_all (without V p) T) (not (is_supported R V p (minus V T))) h in
    record {
      within = λ n i. (without_parts V p n (all_at (without V p) T w.0 n i)).0;
      apart = λ n i. (without_parts V p n (all_at (without V p) T w.0 n i)).1;
      fails = λ s. both_ways (is_supported R V p (minus V T)) (not-true (is_supported R V p (minus V T)) w.1) (support_test R V p (minus V T) s);
    }

blocks_test : (R : Repository) (V : NumSet) (p : ℕ) (T : List ℕ) → Blocks R V p T → blocks R V p T ≡ true
unfolding blocks
blocks_test R V p T b =
    and_from (list_all (without V p) T) (not (is_supported R V p (minus V T)))
    (all_from (without V p) T (λ n i. without_from V p n (b.within n i) (b.apart n i)))
    (not_from_false (is_supported R V p (minus V T)) (false_from_ne_true (is_supported R V p (minus V T)) (λ h. b.fails (support_from R V p (minus V T) h))))

-- a set of numbers as an ascending list
settle : ℕ → List ℕ → List ℕ
settle n S = members_from (has S) n 0

settle_in : (n : ℕ) (S : List ℕ) → Inside (settle n S) S
unfolding settle
settle_in n S m i = has_In S m (members_from_parts (has S) n 0 m i).0

settle_out : (n : ℕ) (S : List ℕ) → ((m : ℕ) → In m S → m < n) → Inside S (settle n S)
unfolding settle
settle_out n S f m i = members_from_from (has S) n 0 m (In_has i) zero-le (let l : m < n = f m i in omega arith)

settle_blocks : (R : Repository) (V : NumSet) (p n : ℕ) (S : List ℕ) → ((m : ℕ) → In m S → m < n) → Blocks R V p S → Blocks R V p (settle n S)
settle_blocks R V p n S f b = record {
  within = λ m i. b.within m (settle_in n S m i);
  apart = λ m i. b.apart m (settle_in n S m i);
  fails = λ s. b.fails (support_grows_lem R V p (minus V (settle n S)) (minus V S)
      (λ m h. let w : Is V m × (In m (settle n S) → ⊥) = minus_parts V (settle n S) m h in minus_from V S m w.0 (λ i. w.1 (settle_out n S f m i))) s);
}

least_test : (R : Repository) (V : NumSet) (p : ℕ) (T : List ℕ) → MinimalBlock R V p T → is_minimal_block R V p T ≡ true
unfolding is_minimal_block
least_test R V p T l =
    let test : List ℕ → Bool = λ S. not (blocks R V p S && is_inside S T) || is_inside T S in
    and_from (blocks R V p T) (list_all test (subsets (length R.clauses))) (blocks_test R V p T l.blocks)
    (all_from test (subsets (length R.clauses)) (λ S i.
    elim (cases_Bool (blocks R V p S && is_inside S T)) [
      | inl y ↦
          let w : (blocks R V p S ≡ true) × (is_inside S T ≡ true) = and_parts (blocks R V p S) (is_inside S T) y in
          or_right (not (blocks R V p S && is_inside S T)) (is_inside T S) (inside_from T S (l.minimal S (blocks_from R V p S w.0) (inside_at S T w.1)))
      | inr f ↦ or_left (not (blocks R V p S && is_inside S T)) (is_inside T S) (not_from_false (blocks R V p S && is_inside S T) f)
    ]))

least_from : (R : Repository) (V : NumSet) (p : ℕ) → OfPackages R V → (T : List ℕ) → In T (subsets (length R.clauses)) → is_minimal_block R V p T ≡ true → MinimalBlock R V p T
unfolding is_minimal_block settle
least_from R V p bound T i h =
    let size : ℕ = length R.clauses in
    let test : List ℕ → Bool = λ S. not (blocks R V p S && is_inside S T) || is_inside T S in
    let w : (blocks R V p T ≡ true) × (list_all test (subsets (length R.clauses)) ≡ true) = and_parts (blocks R V p T) (list_all test (subsets (length R.clauses))) h in
    record {
      ascending = (subsets_parts size T i).0;
      blocks = blocks_from R V p T w.0;
      minimal = λ S b f.
          let small : (m : ℕ) → In m S → m < size = λ m j. bound m (b.within m j) in
          let U : List ℕ = settle size S in
          let in_all : In U (subsets size) = subsets_has size U (members_from_ascending (has S) size 0) (λ m j. small m (settle_in size S m j)) in
          let u_blocks : blocks R V p U ≡ true = blocks_test R V p U (settle_blocks R V p size S small b) in
          let u_in : is_inside U T ≡ true = inside_from U T (λ m j. f m (settle_in size S m j)) in
          elim (or_cases (not (blocks R V p U && is_inside U T)) (is_inside T U) (all_at test (subsets (length R.clauses)) w.1 U in_all)) [
            | inl n ↦ absurd (both_ways (blocks R V p U && is_inside U T) (not-true (blocks R V p U && is_inside U T) n) (and_from (blocks R V p U) (is_inside U T) u_blocks u_in))
            | inr g ↦ λ m j. settle_in size S m (inside_at T U g m j)
          ];
    }

pub row_is : (R : Repository) (V : NumSet) (p : ℕ) → OfPackages R V → IsRow R V p (row R V p)
unfolding row
row_is R V p bound = record {
  sound = λ T i. let w : In T (subsets (length R.clauses)) × (is_minimal_block R V p T ≡ true) = filter_cases (is_minimal_block R V p) (subsets (length R.clauses)) T i in least_from R V p bound T w.0 w.1;
  whole = λ T l. filter_from (is_minimal_block R V p) (subsets (length R.clauses)) T
      (subsets_has (length R.clauses) T l.ascending (λ m i. bound m (l.blocks.within m i)))
      (least_test R V p T l);
}

-- the package stands in a clause of the repository
abbrev pub Stands : Repository → ℕ → Type 0
Stands R q = (p : ℕ) × (c : List ℕ) × In c (clauses_of R p) × In q c

stands_or : (R : Repository) (q : ℕ) → Stands R q ⊎ ((p : ℕ) (c : List ℕ) → In c (clauses_of R p) → In q c → ⊥)
stands_or R q =
    elim (cases_Bool (list_any (λ p. list_any (λ c. has c q) (clauses_of R p)) (packages R))) [
      | inl t ↦
          let w : (p : ℕ) × In p (packages R) × (list_any (λ c. has c q) (clauses_of R p) ≡ true) =
          any_cases (λ p. list_any (λ c. has c q) (clauses_of R p)) (packages R) t in
          let v : (c : List ℕ) × In c (clauses_of R w.0) × (has c q ≡ true) = any_cases (λ c. has c q) (clauses_of R w.0) w.2 in
          inl (w.0, v.0, v.1, has_In v.0 q v.2)
      | inr f ↦ inr (λ p c i j. elim (cases_lt p (length R.clauses)) [
        | inl l ↦
            both_ways (has c q)
            (any_none (λ c. has c q) (clauses_of R p)
            (any_none (λ p. list_any (λ c. has c q) (clauses_of R p)) (packages R) f p (numbers_from (length R.clauses) 0 p zero-le (omega arith))) c i)
            (In_has j)
        | inr g ↦ In_none (subst (λ z. In c z) (get_or_past R.clauses p [] g) i)
      ])
    ]

-- a package that stands in no clause supports nothing
module _ (R : Repository) (V : NumSet) (p q : ℕ) (unused : (r : ℕ) (c : List ℕ) → In c (clauses_of R r) → In q c → ⊥) where
  supports_less : (T : List ℕ) → Support R V p (minus V (clause_without q T)) → Support R V p (minus V T)
  supports_less T s = record {
    helpers = s.helpers;
    packages = s.packages;
    outside = s.outside;
    own = met p s.own;
    others = λ n j. met n (s.others n j);
  }
    where
      met : (r : ℕ) → Satisfied R (Alive (minus V (clause_without q T)) s.helpers p) r → Satisfied R (Alive (minus V T) s.helpers p) r
      met r f c i = hit (f c i)
        where
          hit : Hit (Alive (minus V (clause_without q T)) s.helpers p) c → Hit (Alive (minus V T) s.helpers p) c
          hit h = record { by = h.by; inside = h.inside; alive = live h.alive }
            where
              live : Alive (minus V (clause_without q T)) s.helpers p h.by → Alive (minus V T) s.helpers p h.by
              live (inl x) =
                  let w : Is V h.by × (In h.by (clause_without q T) → ⊥) = minus_parts V (clause_without q T) h.by x in
                  inl (minus_from V T h.by w.0 (λ j. w.1 (dropped_from q T h.by j (λ e. unused r c i (subst (λ z. In z c) e h.inside)))))
              live (inr y) = inr y

  not_in_blocks : (T : List ℕ) → MinimalBlock R V p T → In q T → ⊥
  not_in_blocks T m i =
      (dropped_parts q T q (m.minimal (clause_without q T) (record {
        within = λ n j. m.blocks.within n (dropped_parts q T n j).0;
        apart = λ n j. m.blocks.apart n (dropped_parts q T n j).0;
        fails = λ s. m.blocks.fails (supports_less T s);
      }) (λ n j. (dropped_parts q T n j).0) q i)).1 refl

-- a member of a row stands in some clause
pub member_stands : (R : Repository) (V : NumSet) (p : ℕ) (T : List ℕ) (q : ℕ) → MinimalBlock R V p T → In q T → Stands R q
member_stands R V p T q m i = elim (stands_or R q) [ inl u ↦ u | inr f ↦ absurd (not_in_blocks R V p q f T m i) ]
