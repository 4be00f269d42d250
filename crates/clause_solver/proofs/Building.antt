-- The table of sentences, as it is made.
use Rattle.std.proofs.Common.{◌≡◌, ℕ, ◌+◌, ◌*◌, ◌<◌, List, [], ◌∷◌, ◌++◌, ◌⊎◌, ◌≤◌, length, get_or, set, take, refl, ap, sym, ◌∙◌, arith, inl, inr, subst}
use Rattle.std.proofs.{lemmas.Bool.{cases_eq}, lemmas.List.{get_or_default, take_all, length-set, get_or-set_same, get_or-set_other}}
use Rattle.std.proofs.lemmas.List.Elements.{All-contains, All-more, Contains-push, Contains-append_left, Contains-push_cases, Contains-get_or}
use Rattle.std.specs.Prelude.{All, Contains}
use Rattle.search_terms.specs.{declared.literals.Literal.{Literal}, Closure.{negation}, Marks.{flag_place}}
use Rattle.clause_solver.specs.{Engine.{Contradicts, Enters, IsTable, IsUse, IsUseOf, Names}, declared.table.Use.{Use}}

-- the sentence is entered for its first literals
pub record EntersTo (old new : List (List Use)) (sentence : List Literal) (i k : ℕ) : Type 0 where
  pub long : length new ≡ length old
  pub kept : (p : ℕ) (u : Use) → Contains (get_or old p []) u → Contains (get_or new p []) u
  pub entered : (m : Literal) → Contains (take i sentence) m → Names (get_or new (flag_place (negation m)) []) k
  pub only : (p : ℕ) (u : Use) → Contains (get_or new p []) u → Contains (get_or old p []) u ⊎ IsUseOf sentence k u

pub enters_none : (uses : List (List Use)) (sentence : List Literal) (k : ℕ) → EntersTo uses uses sentence 0 k
enters_none uses sentence k = record { long = refl; kept = λ p u c. c; entered = λ m c. absurd (omega (arith, c.1)); only = λ p u c. inl c }

pub enters_more : (old cur : List (List Use)) (sentence : List Literal) (i k p : ℕ) (l : Literal) (row row_was : List Use) (u : Use) → i < length sentence → l ≡ get_or sentence i l → p ≡ flag_place (negation l) → p < length cur
    → row_was ≡ get_or cur p row_was → row ≡ row_was ++ u ∷ [] → IsUseOf sentence k u → EntersTo old cur sentence i k → EntersTo old (set cur p row) sentence (i + 1) k
enters_more old cur sentence i k p l row row_was u lt is place plt was e of inv =
    let here_was : get_or cur p [] ≡ row_was = sym (was ∙ get_or_default cur p row_was [] plt) in
    let there_now : get_or (set cur p row) p [] ≡ row_was ++ u ∷ [] = get_or-set_same cur p row [] plt ∙ e in
    let stays : (q : ℕ) (v : Use) → Contains (get_or cur q []) v → Contains (get_or (set cur p row) q []) v =
    λ q v c. elim (cases_eq q p) [
      | inl same_one ↦ rw (same_one, there_now) (Contains-append_left row_was (u ∷ []) v (rw (same_one, here_was) at c))
      | inr n ↦ rw (get_or-set_other cur p q row [] n) c
    ] in
    let Named : Literal → Type 0 = λ x. Names (get_or (set cur p row) (flag_place (negation x)) []) k in
    record {
      long = length-set cur p row ∙ inv.long;
      kept = λ q v c. stays q v (inv.kept q v c);
      entered = λ m c. All-contains Named (take (i + 1) sentence) m
          (All-more Named sentence i l lt
          (λ j d jlt. let w = inv.entered (get_or (take i sentence) j d) (Contains-get_or (take i sentence) j d jlt) in
          (w.0, stays (flag_place (negation (get_or (take i sentence) j d))) w.0 w.1, w.2))
          (rw (← is, ← place, there_now) (u, Contains-push row_was u, of.named))) c;
      only = λ q v c. elim (cases_eq q p) [
        | inl same_one ↦ elim (Contains-push_cases row_was u v (rw (same_one, there_now) at c)) [
          | inl old_one ↦ inv.only q v (rw (same_one, here_was) old_one)
          | inr eq ↦ inr (subst (λ z. IsUseOf sentence k z) eq of)
        ]
        | inr n ↦ inv.only q v (rw (get_or-set_other cur p q row [] n) at c)
      ];
    }

pub enters_all : (old new : List (List Use)) (sentence : List Literal) (i k : ℕ) → length sentence ≤ i → EntersTo old new sentence i k → Enters old new sentence k
enters_all old new sentence i k le inv = record {
  long = inv.long;
  kept = inv.kept;
  entered = λ m c. inv.entered m (rw (take_all i sentence le) c);
  only = inv.only;
}

-- the table of the sentences so far
pub record IsTableTo (n k : ℕ) (uses : List (List Use)) (own : List (List Literal)) : Type 0 where
  pub long : length uses ≡ n * 2
  pub within : (p : ℕ) (u : Use) → Contains (get_or uses p []) u → IsUse own u
  pub listed : (j : ℕ) (m : Literal) → j < k → Contains (get_or own j []) m → Names (get_or uses (flag_place (negation m)) []) j

-- a use of the sentence of number k is one of the sentence at its place
use_at : (own : List (List Literal)) (k : ℕ) (s : List Literal) (u : Use) → k < length own → s ≡ get_or own k [] → IsUseOf s k u → IsUse own u
use_at own k s u lt e w =
    let at : s ≡ get_or own u.sentence [] = e ∙ ap (λ j. get_or own j []) (sym w.named) in
    record {
      within = let x = w.named in omega (arith, lt, x);
      one = subst (λ z. Contradicts z u.one) at w.one;
      other = subst (λ z. Contradicts z u.other) at w.other;
    }

pub table_more : (n k : ℕ) (uses new : List (List Use)) (own : List (List Literal)) (s : List Literal) → k < length own → s ≡ get_or own k s → Enters uses new s k → IsTableTo n k uses own → IsTableTo n (k + 1) new own
table_more n k uses new own s lt is e inv =
    let at : s ≡ get_or own k [] = is ∙ get_or_default own k s [] lt in
    record {
      long = e.long ∙ inv.long;
      within = λ p u c. elim (e.only p u c) [ inl old ↦ inv.within p u old | inr of ↦ use_at own k s u lt at of ];
      listed = λ j m jlt c. elim (cases_eq j k) [
        | inl eq ↦ rw eq (e.entered m (subst (λ z. Contains z m) (sym at) (rw eq at c)))
        | inr ne ↦
            let w = inv.listed j m (omega (arith, jlt, ne)) c in
            (w.0, e.kept (flag_place (negation m)) w.0 w.1, w.2)
      ];
    }

pub table_all : (n k : ℕ) (uses : List (List Use)) (own : List (List Literal)) → k ≡ length own → IsTableTo n k uses own → IsTable n uses own
table_all n k uses own e inv = record {
  long = inv.long;
  within = λ p d plt i j ilt. inv.within p (get_or (get_or uses p d) i j) (subst (λ row. Contains row (get_or (get_or uses p d) i j)) (get_or_default uses p d [] plt) (Contains-get_or (get_or uses p d) i j ilt));
  listed = λ j m jlt c. inv.listed j m (rw e jlt) c;
}
