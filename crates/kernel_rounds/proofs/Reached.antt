-- The kernel: what a round leaves is settled, and is reached.
use Rattle.std.proofs.Common.{◌≡◌, ◌≢◌, ℕ, zero, suc, ◌<◌, ◌≤◌, ◌+◌, Bool, true, false, not, ◌||◌, eqb, cond, List, [], ◌∷◌, length, filter, inl, inr, refl}
use Rattle.std.proofs.{Common.{sym, ◌∙◌, ap, subst, arith, zero-le, ◌↔◌}, lemmas.Bool.{and_from, and_parts, both_ways, cases_eq}}
use Rattle.std.specs.{Cmp.Lexicographic.{pointwise}, List.{list_all, list_any}}
use Rattle.row_book.specs.{Sets.{NumSet, Is}, Numbers.{numbers}, Repository.{Repository, Coinst, clauses_of}}
use Rattle.row_book.specs.{Sound.{OfPackages, SoundRepository, TidyRepository}, Flattening.{flat}, Merging.{firsts, class_of, image, quotient}}
use Rattle.row_book.specs.Pruning.{made_dead, others, without_clause, is_dead, is_dropped, prune_clause, prune_clauses, prune_package, prune_over, prune}
use Rattle.row_book.specs.{Pruning.{serves}, Thinning.{thin}}
use Rattle.row_book.specs.Rounds.{round, rounds, class_after, image_after, is_same_repository, enough_rounds, rounds_until, round_count, kernel, kernel_image}
use Rattle.listed.specs.Lists.{In, here, there}
use Rattle.row_book.proofs.{Books.{in_listed}, Numbers.{numbers_parts}}
use Rattle.row_book.proofs.Repositories.{repository_same, same_rows, rows_test, same_tables, tables_test, table_same}
use Rattle.listed.proofs.Lists.{In_cases, In_none}
use Rattle.clause_flatten.proofs.{Stages.{core_stays_lem}, TidyFlat.{flat_minimal, flat_size, flat_tidy}}
use Rattle.class_merge.proofs.{Classes.{alike_from, image_from, image_parts}, Kept.{merged_size}, Plain.{alike_one}}
use Rattle.clause_prune.proofs.{Changed.{row_new, row_other, row_cases, others_parts, others_not}, Dropping.{Step, package_step}}
use Rattle.kernel_rounds.specs.{Tails.{rounds_with, image_with}, Laws.{LeftByEach, FixedIsSettled, RoundsKept, KernelIs, KernelKeeps, ImageIsOfClasses}}
use Rattle.kernel_rounds.proofs.{Ending.{tails_end_lem}, Settling.{fixed_parts_lem}, Tails.{image_within, round_sound, tails_keep_lem, thin_tail}}
use Rattle.kernel_rounds.proofs.Thins.{thin_needed}

-- pruning leaves the clauses of other packages
clause_other : (R : Repository) (p : ℕ) (d : List ℕ) (n : ℕ) → n ≢ p → clauses_of (prune_clause R p d).left n ≡ clauses_of R n
clause_other R p d n ne = pick (is_dropped R p d)
  where
    pick : (b : Bool) → clauses_of (cond b (without_clause R p d) R) n ≡ clauses_of R n
    pick true = row_other R p (others R p d) n ne
    pick false = refl

clauses_other : (ds : List (List ℕ)) (R : Repository) (p n : ℕ) → n ≢ p → clauses_of (prune_clauses R p ds).left n ≡ clauses_of R n
clauses_other [] R p n ne = refl
clauses_other (d ∷ ds) R p n ne = clauses_other ds (prune_clause R p d).left p n ne ∙ clause_other R p d n ne

package_other : (R : Repository) (p n : ℕ) → n ≢ p → clauses_of (prune_package R p).left n ≡ clauses_of R n
package_other R p n ne = pick (is_dead R p)
  where
    pick : (b : Bool) → clauses_of (cond b (made_dead R p) (prune_clauses R p (clauses_of R p))).left n ≡ clauses_of R n
    pick true = row_other R p ([] ∷ []) n ne
    pick false = clauses_other (clauses_of R p) R p n ne

over_other : (ps : List ℕ) (R : Repository) (n : ℕ) → ((p : ℕ) → In p ps → n ≢ p) → clauses_of (prune_over R ps).left n ≡ clauses_of R n
over_other [] R n f = refl
over_other (p ∷ ps) R n f = over_other ps (prune_package R p).left n (λ q i. f q (there i)) ∙ package_other R p n (f p here)

-- its own
clause_less : (R : Repository) (p : ℕ) (d c : List ℕ) → In c (clauses_of (prune_clause R p d).left p) → In c (clauses_of R p)
clause_less R p d c i = pick (is_dropped R p d) i
  where
    pick : (b : Bool) → In c (clauses_of (cond b (without_clause R p d) R) p) → In c (clauses_of R p)
    pick true j = elim (row_cases R p (others R p d) p c j) [ inl o ↦ o | inr w ↦ others_parts R p d c w.1 ]
    pick false j = j

clauses_less : (ds : List (List ℕ)) (R : Repository) (p : ℕ) (c : List ℕ) → In c (clauses_of (prune_clauses R p ds).left p) → In c (clauses_of R p)
clauses_less [] R p c i = i
clauses_less (d ∷ ds) R p c i = clause_less R p d c (clauses_less ds (prune_clause R p d).left p c i)

drop_gone : (R : Repository) (p : ℕ) (d : List ℕ) → p < length R.clauses → In d (clauses_of (without_clause R p d) p) → ⊥
drop_gone R p d l i = others_not R p d (subst (λ r. In d r) (row_new R p (others R p d) l) i)

clauses_fixed : (ds : List (List ℕ)) (R : Repository) (p : ℕ) → p < length R.clauses → ((d : List ℕ) → In d ds → In d (clauses_of (prune_clauses R p ds).left p)) →
    (d : List ℕ) → In d ds → is_dropped R p d ≡ false
clauses_fixed [] R p l f d i = absurd (In_none i)
clauses_fixed (c ∷ ds) R p l f d i = pick (is_dropped R p c) refl (λ g. clauses_fixed ds R p l g d)
  where
    pick : (b : Bool) → is_dropped R p c ≡ b → (((e : List ℕ) → In e ds → In e (clauses_of (prune_clauses R p ds).left p)) → In d ds → is_dropped R p d ≡ false) → is_dropped R p d ≡ false
    pick true e g =
        let j : In c (clauses_of (prune_clause R p c).left p) = clauses_less ds (prune_clause R p c).left p c (f c here) in
        absurd (drop_gone R p c l (subst (λ b. In c (clauses_of (cond b (without_clause R p c) R) p)) e j))
    pick false e g =
        let same : (prune_clause R p c).left ≡ R = ap (λ b. cond b (without_clause R p c) R) e in
        elim (In_cases i) [
          | inl s ↦ ap (λ u. is_dropped R p u) s ∙ e
          | inr j ↦ g (λ u k. subst (λ F. In u (clauses_of (prune_clauses F p ds).left p)) same (f u (there k))) j
        ]

record Fine (R : Repository) (p : ℕ) : Type 0 where
  dead : is_dead R p ≡ true → clauses_of R p ≡ [] ∷ []
  kept : (d : List ℕ) → is_dead R p ≡ false → In d (clauses_of R p) → is_dropped R p d ≡ false

package_fine : (R : Repository) (p : ℕ) → p < length R.clauses → clauses_of (prune_package R p).left p ≡ clauses_of R p → Fine R p
package_fine R p l e = record {
  dead = λ t. sym e ∙ (ap (λ b. clauses_of (cond b (made_dead R p) (prune_clauses R p (clauses_of R p))).left p) t ∙ row_new R p ([] ∷ []) l);
  kept = λ d t i.
      let same : clauses_of (prune_clauses R p (clauses_of R p)).left p ≡ clauses_of R p =
      sym (ap (λ b. clauses_of (cond b (made_dead R p) (prune_clauses R p (clauses_of R p))).left p) t) ∙ e in
      clauses_fixed (clauses_of R p) R p l (λ c j. subst (λ r. In c r) (sym same) j) d i;
}

-- the numbers of a pass are different
over_fine : (n k : ℕ) (R : Repository) → TidyRepository R → ((q : ℕ) → clauses_of (prune_over R (numbers n k)).left q ≡ clauses_of R q) → (p : ℕ) → p < length R.clauses → k ≤ p → p < k + n → Fine R p
unfolding numbers
over_fine zero k R tidy e p l m u = absurd (omega arith)
over_fine (suc n) k R tidy e p l m u =
    let own : clauses_of (prune_package R k).left k ≡ clauses_of R k =
    sym (over_other (numbers n (suc k)) (prune_package R k).left k (λ q i s. let w : (suc k ≤ q) × (q < suc k + n) = numbers_parts n (suc k) q i in omega (arith, s))) ∙ e k in
    elim (cases_eq p k) [
      | inl s ↦ subst (λ z. Fine R z) (sym s) (package_fine R k (subst (λ z. z < length R.clauses) s l) own)
      | inr ne ↦
          let step : Step R (prune_package R k).left = package_step R k tidy in
          let rows : (q : ℕ) → clauses_of (prune_package R k).left q ≡ clauses_of R q =
          λ q. elim (cases_eq q k) [ inl s ↦ subst (λ z. clauses_of (prune_package R k).left z ≡ clauses_of R z) (sym s) own | inr other ↦ package_other R k q other ] in
          let same : (prune_package R k).left ≡ R = repository_same (prune_package R k).left R (table_same (prune_package R k).left.clauses R.clauses step.size (λ q v. rows q)) step.conflicts in
          over_fine n (suc k) R tidy (subst (λ F. (q : ℕ) → clauses_of (prune_over F (numbers n (suc k))).left q ≡ clauses_of R q) same e) p l (omega (arith, ne)) (omega arith)
    ]

prune_fine : (K : Repository) → TidyRepository K → prune K ≡ K → (p : ℕ) → p < length K.clauses → Fine K p
unfolding prune
prune_fine K tidy e p l = over_fine (length K.clauses) 0 K tidy (λ q. ap (λ R. clauses_of R q) e) p l zero-le (omega arith)

-- the empty clause of a dead package is neither forced nor idle
dead_clause : (K : Repository) (p : ℕ) (d : List ℕ) → clauses_of K p ≡ [] ∷ [] → In d (clauses_of K p) → is_dropped K p d ≡ false
dead_clause K p d e i =
    let empty : d ≡ [] = elim (In_cases (subst (λ cs. In d cs) e i)) [ inl same ↦ same | inr j ↦ absurd (In_none j) ] in
    ap (is_dropped K p) empty
    ∙ ap (λ cs. list_any (λ c. list_all (serves K []) c) (filter (λ c. not (pointwise eqb c [])) cs) || false) e

-- no clause of a pruned repository is forced or idle
needed_clause : (K : Repository) → TidyRepository K → prune K ≡ K → (p : ℕ) (d : List ℕ) → In d (clauses_of K p) → is_dropped K p d ≡ false
needed_clause K tidy e p d i = pick (is_dead K p) refl
  where
    l : p < length K.clauses
    l = in_listed K.clauses p d i

    pick : (b : Bool) → is_dead K p ≡ b → is_dropped K p d ≡ false
    pick true t = dead_clause K p d ((prune_fine K tidy e p l).dead t) i
    pick false t = (prune_fine K tidy e p l).kept d t i

pub fixed_is_settled_lem : FixedIsSettled
fixed_is_settled_lem limit hold K s e =
    let w : LeftByEach limit hold K = fixed_parts_lem limit hold K s e in
    let tidy : TidyRepository K = subst (λ R. TidyRepository R) w.flattening (flat_tidy limit hold K s) in
    let size : length (firsts K) ≡ length K.clauses = sym (merged_size K) ∙ ap (λ R. length R.clauses) w.merging in
    record {
      stays = λ p c n i j.
          ((core_stays_lem limit hold K n).0 ((flat_minimal limit hold K s p c (subst (λ R. In c (clauses_of R p)) (sym w.flattening) i)).blocks.within n j)).1;
      unlike = λ p q l m t. alike_one K size p q l m (alike_from K p q t);
      dead = λ p l t. (prune_fine K tidy w.pruning p l).dead t;
      needed = needed_clause K tidy w.pruning;
      irredundant = thin_needed K s w.thinning;
    }

-- the first repository that a round leaves
pub same_from : (R F : Repository) → is_same_repository R F ≡ true → R ≡ F
same_from R F h =
    let w : (pointwise (pointwise (pointwise eqb)) R.clauses F.clauses ≡ true) × (pointwise (pointwise eqb) R.conflicts F.conflicts ≡ true) =
    and_parts (pointwise (pointwise (pointwise eqb)) R.clauses F.clauses) (pointwise (pointwise eqb) R.conflicts F.conflicts) h in
    repository_same R F (same_tables R.clauses F.clauses w.0) (same_rows R.conflicts F.conflicts w.1)

pub repository_test : (R F : Repository) → R ≡ F → is_same_repository R F ≡ true
repository_test R F e =
    and_from (pointwise (pointwise (pointwise eqb)) R.clauses F.clauses) (pointwise (pointwise eqb) R.conflicts F.conflicts)
    (tables_test R.clauses F.clauses (ap (λ T. T.clauses) e)) (rows_test R.conflicts F.conflicts (ap (λ T. T.conflicts) e))

record Until (limit : ℕ) (hold : Bool) (m : ℕ) (R : Repository) : Type 0 where
  fixed : (n : ℕ) → n ≤ m → round limit hold (rounds limit hold R n) ≡ rounds limit hold R n → round limit hold (rounds limit hold R (rounds_until limit hold m R)) ≡ rounds limit hold R (rounds_until limit hold m R)
  first : (n : ℕ) → round limit hold (rounds limit hold R n) ≡ rounds limit hold R n → rounds_until limit hold m R ≤ n

until_is : (limit : ℕ) (hold : Bool) → (m : ℕ) (R : Repository) → Until limit hold m R
until_is limit hold zero R = record {
  fixed = λ n l e. subst (λ k. round limit hold (rounds limit hold R k) ≡ rounds limit hold R k) (let z : n ≡ 0 = omega arith in z) e;
  first = λ n e. zero-le;
}
until_is limit hold (suc m) R = pick (is_same_repository (round limit hold R) R) refl (until_is limit hold m (round limit hold R))
  where
    pick : (b : Bool) → is_same_repository (round limit hold R) R ≡ b → Until limit hold m (round limit hold R) → Until limit hold (suc m) R
    pick true t u = record {
      fixed = λ n l e. subst (λ b. round limit hold (rounds limit hold R (cond b 0 (suc (rounds_until limit hold m (round limit hold R))))) ≡ rounds limit hold R (cond b 0 (suc (rounds_until limit hold m (round limit hold R))))) (sym t) (same_from (round limit hold R) R t);
      first = λ n e. subst (λ b. cond b 0 (suc (rounds_until limit hold m (round limit hold R))) ≤ n) (sym t) zero-le;
    }
    pick false t u = record {
      fixed = λ n l e. subst (λ b. round limit hold (rounds limit hold R (cond b 0 (suc (rounds_until limit hold m (round limit hold R))))) ≡ rounds limit hold R (cond b 0 (suc (rounds_until limit hold m (round limit hold R))))) (sym t) (later n l e);
      first = λ n e. subst (λ b. cond b 0 (suc (rounds_until limit hold m (round limit hold R))) ≤ n) (sym t) (below n e);
    }
      where
        later : (n : ℕ) → n ≤ suc m → round limit hold (rounds limit hold R n) ≡ rounds limit hold R n → round limit hold (rounds limit hold (round limit hold R) (rounds_until limit hold m (round limit hold R))) ≡ rounds limit hold (round limit hold R) (rounds_until limit hold m (round limit hold R))
        later zero l e = absurd (both_ways (is_same_repository (round limit hold R) R) t (repository_test (round limit hold R) R e))
        later (suc n) l e = u.fixed n (omega arith) e

        below : (n : ℕ) → round limit hold (rounds limit hold R n) ≡ rounds limit hold R n → suc (rounds_until limit hold m (round limit hold R)) ≤ n
        below zero e = absurd (both_ways (is_same_repository (round limit hold R) R) t (repository_test (round limit hold R) R e))
        below (suc n) e = let l : rounds_until limit hold m (round limit hold R) ≤ n = u.first n e in omega (arith, l)

-- rounds as the tail's
tail : Repository → Repository
tail R = thin (prune R)

rounds_are : (limit : ℕ) (hold : Bool) → (R : Repository) (n : ℕ) → rounds_with limit hold (λ R. thin (prune R)) R n ≡ rounds limit hold R n
unfolding round
rounds_are limit hold R zero = refl
rounds_are limit hold R (suc n) = rounds_are limit hold (round limit hold R) n

images_are : (limit : ℕ) (hold : Bool) → (R : Repository) (n : ℕ) (S : NumSet) → image_with limit hold (λ R. thin (prune R)) R n S ≡ image_after limit hold R n S
unfolding round
images_are limit hold R zero S = refl
images_are limit hold R (suc n) S = images_are limit hold (round limit hold R) n (image (flat limit hold R) S)

rounds_end : (limit : ℕ) (hold : Bool) → (R : Repository) → SoundRepository R → round limit hold (rounds limit hold R (enough_rounds (length R.clauses))) ≡ rounds limit hold R (enough_rounds (length R.clauses))
unfolding round
rounds_end limit hold R s = subst (λ F. thin (prune (quotient (flat limit hold F))) ≡ F) (rounds_are limit hold R (enough_rounds (length R.clauses))) (tails_end_lem limit hold (λ R. thin (prune R)) thin_tail R s)

pub rounds_sound : (limit : ℕ) (hold : Bool) → (R : Repository) → SoundRepository R → (n : ℕ) → SoundRepository (rounds limit hold R n)
rounds_sound limit hold R s n = subst (λ F. SoundRepository F) (rounds_are limit hold R n) (tails_keep_lem limit hold (λ R. thin (prune R)) thin_tail R s n).sound

stays_fixed : (limit : ℕ) (hold : Bool) → (n : ℕ) (R : Repository) → round limit hold R ≡ R → rounds limit hold R n ≡ R
stays_fixed limit hold zero R e = refl
stays_fixed limit hold (suc n) R e = ap (λ F. rounds limit hold F n) e ∙ stays_fixed limit hold n R e

one_end : (limit : ℕ) (hold : Bool) → (R : Repository) (m n : ℕ) → round limit hold (rounds limit hold R m) ≡ rounds limit hold R m → round limit hold (rounds limit hold R n) ≡ rounds limit hold R n → rounds limit hold R m ≡ rounds limit hold R n
one_end limit hold R zero n e f = sym (stays_fixed limit hold n R e)
one_end limit hold R (suc m) zero e f = stays_fixed limit hold (suc m) R f
one_end limit hold R (suc m) (suc n) e f = one_end limit hold (round limit hold R) m n e f

pub kernel_is_lem : KernelIs
unfolding round_count
kernel_is_lem limit hold R s =
    let n : ℕ = enough_rounds (length R.clauses) in
    let u : Until limit hold n R = until_is limit hold n R in
    let fixed : round limit hold (kernel limit hold R) ≡ kernel limit hold R = u.fixed n (omega arith) (rounds_end limit hold R s) in
    let sound : SoundRepository (kernel limit hold R) = rounds_sound limit hold R s (round_count limit hold R) in
    record {
      fixed = fixed;
      first = u.first;
      only = λ m e. one_end limit hold R m (round_count limit hold R) e fixed;
      sound = sound;
      settled = fixed_is_settled_lem limit hold (kernel limit hold R) sound fixed;
    }

pub kernel_keeps_lem : KernelKeeps
kernel_keeps_lem limit hold R s S small =
    let k : RoundsKept limit hold (λ R. thin (prune R)) R (round_count limit hold R) = tails_keep_lem limit hold (λ R. thin (prune R)) thin_tail R s (round_count limit hold R) in
    let both : (F : Repository) (T : NumSet) → rounds_with limit hold (λ R. thin (prune R)) R (round_count limit hold R) ≡ F → image_with limit hold (λ R. thin (prune R)) R (round_count limit hold R) S ≡ T →
    (Coinst R S ↔ Coinst F T) = λ F T e f. subst (λ F. Coinst R S ↔ Coinst F T) e (subst (λ T. Coinst R S ↔ Coinst (rounds_with limit hold (λ R. thin (prune R)) R (round_count limit hold R)) T) f (k.keeps S small)) in
    both (kernel limit hold R) (kernel_image limit hold R S) (rounds_are limit hold R (round_count limit hold R)) (images_are limit hold R (round_count limit hold R) S)

-- the image of a set
record Imaged (limit : ℕ) (hold : Bool) (R : Repository) (n : ℕ) (S : NumSet) (k : ℕ) : Type 0 where
  by : ℕ
  within : by < length R.clauses
  inside : Is S by
  class : class_after limit hold R n by ≡ k

imaged_parts : (limit : ℕ) (hold : Bool) → (R : Repository) → SoundRepository R → (n : ℕ) (S : NumSet) → OfPackages R S → (k : ℕ) → Is (image_after limit hold R n S) k → Imaged limit hold R n S k
unfolding round
imaged_parts limit hold R s zero S small k i = record { by = k; within = small k i; inside = i; class = refl }
imaged_parts limit hold R s (suc n) S small k i =
    let w : Imaged limit hold (round limit hold R) n (image (flat limit hold R) S) k =
    imaged_parts limit hold (round limit hold R) (round_sound limit hold (λ R. thin (prune R)) thin_tail R s) n (image (flat limit hold R) S) (image_within limit hold (λ R. thin (prune R)) thin_tail R s S) k i in
    let v : (p : ℕ) × (p < length (flat limit hold R).clauses) × Is S p × (class_of (flat limit hold R) p ≡ w.by) = image_parts (flat limit hold R) S w.by w.inside in
    record { by = v.0; within = subst (λ z. v.0 < z) (flat_size limit hold R) v.1; inside = v.2; class = ap (class_after limit hold (round limit hold R) n) v.3 ∙ w.class }

imaged_from : (limit : ℕ) (hold : Bool) → (R : Repository) (n : ℕ) (S : NumSet) (p : ℕ) → p < length R.clauses → SoundRepository R → Is S p → Is (image_after limit hold R n S) (class_after limit hold R n p)
unfolding round
imaged_from limit hold R zero S p l s i = i
imaged_from limit hold R (suc n) S p l s i =
    let q : p < length (flat limit hold R).clauses = subst (λ z. p < z) (sym (flat_size limit hold R)) l in
    let j : Is (image (flat limit hold R) S) (class_of (flat limit hold R) p) = image_from (flat limit hold R) S p q i in
    imaged_from limit hold (round limit hold R) n (image (flat limit hold R) S) (class_of (flat limit hold R) p)
    (image_within limit hold (λ R. thin (prune R)) thin_tail R s S (class_of (flat limit hold R) p) j)
    (round_sound limit hold (λ R. thin (prune R)) thin_tail R s) j

pub image_is_of_classes_lem : ImageIsOfClasses
image_is_of_classes_lem limit hold R s S small k = (
  (λ i. let w : Imaged limit hold R (round_count limit hold R) S k = imaged_parts limit hold R s (round_count limit hold R) S small k i in
      record { by = w.by; within = w.within; inside = w.inside; class = w.class }),
  (λ h. subst (λ z. Is (kernel_image limit hold R S) z) h.class (imaged_from limit hold R (round_count limit hold R) S h.by h.within s h.inside)),
)
