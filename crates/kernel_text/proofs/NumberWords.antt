-- The numbers of a clause, word by word.
use Rattle.std.proofs.Common.{◌≡◌, ℕ, suc, ◌+◌, ◌<◌, List, [], ◌∷◌, ◌++◌, Option, Some, None, inl, inr, refl, sym, ap, ◌∙◌, subst, append_assoc, length}
use Rattle.std.proofs.{Common.{length-append, arith}, lemmas.Grind.{flat_map-append}, lemmas.List.{append-nil}}
use Rattle.std.specs.{Fmt.{decimal}, List.{flat_map}, Option.{option_map_or}}
use Rattle.listed.specs.Lists.{In, here, there}
use Rattle.listed.proofs.Lists.{In_append_cases, In_cases, In_none}
use Rattle.kernel_text.specs.{KernelLines.{behind_space}, Numbers.{NumberRead}, Reading.{number_limit}, Words.{IsCut, NumbersRead, behind_word, numbers_text}}
use Rattle.kernel_text.proofs.LineWords.{digits_word, same_cut}

abbrev AreLow : List ℕ → Type 0
AreLow xs = (l : ℕ) → In l xs → l < number_limit

behind_numbers : (xs : List ℕ) → behind_word (numbers_text xs) ≡ flat_map behind_space xs
behind_numbers [] = refl
behind_numbers (x ∷ xs) = refl

-- numbers were read up to some word, and all that the words can write has what is left
pub record NumbersSoFar (words : Option (List ℕ)) (numbers : List ℕ) (left : Option (List ℕ)) : Type 0 where
  pub whole : behind_word words ≡ flat_map behind_space numbers ++ behind_word left
  pub low : AreLow numbers
  pub others : (clause : List ℕ) → words ≡ numbers_text clause → AreLow clause → (more : List ℕ) × (left ≡ numbers_text more) × AreLow more

pub no_numbers : (words : Option (List ℕ)) → NumbersSoFar words [] words
no_numbers words = record { whole = refl; low = λ l i. absurd (In_none i); others = λ clause e low. (clause, e, low) }

-- the first of the numbers that are left
record IsNext (text word : List ℕ) (rest : Option (List ℕ)) : Type 0 where
  number : ℕ
  more : List ℕ
  word_is : word ≡ decimal number
  low : number < number_limit
  rest_is : rest ≡ numbers_text more
  more_low : AreLow more

next_of : (text word : List ℕ) (rest : Option (List ℕ)) → IsCut text word rest → (xs : List ℕ) → Some text ≡ numbers_text xs → AreLow xs → IsNext text word rest
next_of text word rest cut [] e low = let f : ⊥ = cc in absurd f
next_of text word rest cut (x ∷ xs) e low =
    let same : text ≡ decimal x ++ flat_map behind_space xs = cc in
    let parts : (word ≡ decimal x) × (rest ≡ numbers_text xs) =
    same_cut word (decimal x) rest (numbers_text xs) cut.word (digits_word x (low x here)) (sym cut.whole ∙ same ∙ ap (λ t. decimal x ++ t) (sym (behind_numbers xs))) in
    record { number = x; more = xs; word_is = parts.0; low = low x here; rest_is = parts.1; more_low = λ l i. low l (there i) }

pub one_number : (words : Option (List ℕ)) (numbers new text word : List ℕ) (rest : Option (List ℕ)) (n : ℕ) → NumbersSoFar words numbers (Some text) → IsCut text word rest → NumberRead word (Some n) →
    new ≡ numbers ++ n ∷ [] → NumbersSoFar words new rest
one_number words numbers new text word rest n so_far cut read pushed = record {
  whole = so_far.whole
      ∙ ap (λ t. flat_map behind_space numbers ++ 32 ∷ t) (cut.whole ∙ ap (λ t. t ++ behind_word rest) read.0)
      ∙ sym (append_assoc (flat_map behind_space numbers) (behind_space n) (behind_word rest))
      ∙ ap (λ t. (flat_map behind_space numbers ++ t) ++ behind_word rest) (sym (append-nil (behind_space n)))
      ∙ ap (λ t. t ++ behind_word rest) (sym (flat_map-append behind_space numbers (n ∷ [])))
      ∙ ap (λ xs. flat_map behind_space xs ++ behind_word rest) (sym pushed);
  low = λ l i.
      elim (In_append_cases numbers (n ∷ []) l (subst (λ xs. In l xs) pushed i)) [
        | inl j ↦ so_far.low l j
        | inr j ↦ elim (In_cases j) [ inl e ↦ subst (λ k. k < number_limit) (sym e) read.1 | inr k ↦ absurd (In_none k) ]
      ];
  others = λ clause e low.
      let w : (more : List ℕ) × (Some text ≡ numbers_text more) × AreLow more = so_far.others clause e low in
      let next : IsNext text word rest = next_of text word rest cut w.0 w.1 w.2 in
      (next.more, next.rest_is, next.more_low);
}

pub no_number : (words : Option (List ℕ)) (numbers text word : List ℕ) (rest : Option (List ℕ)) → NumbersSoFar words numbers (Some text) → IsCut text word rest → NumberRead word None → NumbersRead words None
no_number words numbers text word rest so_far cut none clause e low =
    let w : (more : List ℕ) × (Some text ≡ numbers_text more) × AreLow more = so_far.others clause e low in
    let next : IsNext text word rest = next_of text word rest cut w.0 w.1 w.2 in
    none next.number next.word_is next.low

-- each word makes what is left shorter
pub fewer_left : (text word : List ℕ) (rest left : Option (List ℕ)) → left ≡ Some text → IsCut text word rest →
    option_map_or (λ (t : List ℕ). suc (length t)) rest 0 < option_map_or (λ (t : List ℕ). suc (length t)) left 0
fewer_left text word rest left e cut = rw e (shorter rest cut.whole)
  where
    shorter : (rest : Option (List ℕ)) → text ≡ word ++ behind_word rest → option_map_or (λ (t : List ℕ). suc (length t)) rest 0 < suc (length text)
    shorter None f = omega arith
    shorter (Some t) f = let l : length text ≡ length word + suc (length t) = ap length f ∙ length-append word (32 ∷ t) in omega arith
