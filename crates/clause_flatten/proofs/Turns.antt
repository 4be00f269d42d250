-- What the numbers at the packages say of those that are filed.
use Rattle.std.proofs.Common.{◌≡◌, ◌≢◌, ℕ, ◌<◌, ◌≤◌, ◌+◌, true, false, List, drop, inl, inr, ◌∙◌, ap, subst, sym, arith}
use Rattle.std.proofs.lemmas.Bool.{cases_Bool, cases_lt, false_from_ne_true}
use Rattle.row_book.specs.Sets.{NumSet}
use Rattle.clause_flatten.specs.{LeastTree.{node, IsTree, IsFirstLeast}, Waiting.{never, turn, Filed, IsFirst}}
use Rattle.clause_flatten.proofs.Leaves.{leaf_at, leaf_behind}

-- other counts and another set
pub filed_as : (turns : List ℕ) (may other : NumSet) (count counted : ℕ → ℕ) → Filed turns may count → ((q : ℕ) → may q ≡ other q) → ((q : ℕ) → may q ≡ true → count q ≡ counted q) → Filed turns other counted
filed_as turns may other count counted d f g = record {
  counts = λ q h. d.counts q (f q ∙ h) ∙ g q (f q ∙ h);
  few = λ q h. subst (λ n. n < never) (g q (f q ∙ h)) (d.few q (f q ∙ h));
  others = λ q h. d.others q (f q ∙ h);
}

-- the first of the least leaves
module _ (nodes turns : List ℕ) (leaves p : ℕ) (e : turns ≡ drop leaves nodes) (t : IsTree nodes leaves) (w : IsFirstLeast nodes leaves p) where
  turn_at : (q : ℕ) → q < leaves → turn turns q ≡ node nodes (leaves + q)
  turn_at q l = ap (λ xs. turn xs q) e ∙ leaf_at nodes leaves never q t l

  none_less : turn turns p ≤ never → (q : ℕ) → turn turns p ≤ turn turns q
  none_less k q =
      elim (cases_lt q leaves) [
        | inl l ↦
            let own : turn turns p ≡ node nodes (leaves + p) = turn_at p w.there in
            let other : turn turns q ≡ node nodes (leaves + q) = turn_at q l in
            let least : node nodes (leaves + p) ≤ node nodes (leaves + q) = w.least q l in
            omega arith
        | inr g ↦ let other : turn turns q ≡ never = ap (λ xs. turn xs q) e ∙ leaf_behind nodes leaves never q t g in omega arith
      ]

  none_before : (q : ℕ) → q < p → turn turns p < turn turns q
  none_before q l =
      let there : p < leaves = w.there in
      let own : turn turns p ≡ node nodes (leaves + p) = turn_at p w.there in
      let other : turn turns q ≡ node nodes (leaves + q) = turn_at q (omega arith) in
      let before : node nodes (leaves + p) < node nodes (leaves + q) = w.before q l in
      omega arith

  -- nobody waits where it is the leaf of one that does not
  pub none_waits : turn turns p ≡ never → (may : NumSet) (count : ℕ → ℕ) → Filed turns may count → (q : ℕ) → may q ≡ false
  none_waits k may count d q =
      false_from_ne_true (may q) (λ h.
      let a : turn turns q ≡ count q = d.counts q h in
      let b : count q < never = d.few q h in
      let c : turn turns p ≤ turn turns q = none_less (omega arith) q in
      omega arith)

  -- else it is that of the package whose turn is first
  pub first_turn : turn turns p ≢ never → turn turns p ≤ never → (may : NumSet) (count : ℕ → ℕ) → Filed turns may count → IsFirst may count p
  first_turn waits k may count d =
      let there : may p ≡ true = elim (cases_Bool (may p)) [ inl h ↦ h | inr h ↦ absurd (waits (d.others p h)) ] in
      let own : turn turns p ≡ count p = d.counts p there in
      record {
        waits = there;
        least = λ r h.
            let other : turn turns r ≡ count r = d.counts r h in
            let least : turn turns p ≤ turn turns r = none_less k r in
            elim (cases_lt (count p) (count r)) [
              | inl l ↦ inl l
              | inr g ↦ elim (cases_lt r p) [
                | inl l ↦ let before : turn turns p < turn turns r = none_before r l in inl (omega arith)
                | inr m ↦ inr (omega arith, m)
              ]
            ];
      }

-- a leaf that was put stays so, and the others too
pub turn_kept : (old new : List ℕ) (leaves number : ℕ) → IsTree old leaves → IsTree new leaves → ((i : ℕ) → leaves ≤ i → i ≢ leaves + number → node new i ≡ node old i)
    → (q : ℕ) → q ≢ number → turn (drop leaves new) q ≡ turn (drop leaves old) q
turn_kept old new leaves number t u f q ne =
    elim (cases_lt q leaves) [
      | inl l ↦ leaf_at new leaves never q u l ∙ f (leaves + q) (omega arith) (λ e. ne (omega arith)) ∙ sym (leaf_at old leaves never q t l)
      | inr g ↦ leaf_behind new leaves never q u g ∙ sym (leaf_behind old leaves never q t g)
    ]
