-- Signed classes, sentences, and the closure of a set of signed classes under unit steps, as a
-- least set: the unit propagation of Davis, Putnam, Logemann and Loveland.
-- A sentence is a list of signed classes; at least one is to hold. A formula is a list of
-- sentences. A set contradicts a signed class if it has the class with the other sign.
use Rattle.std.specs.Prelude.{◌≡◌, ℕ, ◌<◌, Bool, true, false, not, ◌&&◌, ◌||◌, ◌==◌, ◌⊎◌, List, All}
use Rattle.std.specs.{Prelude.{Any}, List.{list_all, list_any}}
use Rattle.search_terms.specs.declared.literals.Literal.{Literal}

-- a class with a sign
abbrev pub literal : ℕ → Bool → Literal
literal c sign = record { class = c; positive = sign }

-- the class with the other sign
abbrev pub negation : Literal → Literal
negation l = record { class = l.class; positive = not l.positive }

-- whether two signs are one
abbrev pub same_sign : Bool → Bool → Bool
same_sign true b = b
same_sign false b = not b

-- whether two signed classes are one
abbrev pub is_same : Literal → Literal → Bool
is_same a b = (a.class == b.class) && same_sign a.positive b.positive

-- a unit step: the set contradicts each literal of the sentence but this one
abbrev pub forces : (Literal → Bool) → Literal → List Literal → Bool
forces set l sentence = list_all (λ m. is_same m l || set (negation m)) sentence

-- the set contradicts each literal of the sentence
abbrev pub is_refuted : (Literal → Bool) → List Literal → Bool
is_refuted set sentence = list_all (λ m. set (negation m)) sentence

-- what the sentence forces is in the set
abbrev pub IsClosedUnder : (Literal → Bool) → List Literal → Type 0
IsClosedUnder set sentence = All (λ l. forces set l sentence ≡ true → set l ≡ true) sentence

-- closed under unit steps
pub record IsUnitClosed (formula : List (List Literal)) (set : Literal → Bool) : Type 0 where
  pub steps : All (IsClosedUnder set) formula

-- the set has each of the given literals
abbrev pub HasGiven : (Literal → Bool) → List Literal → Type 0
HasGiven set given = All (λ l. set l ≡ true) given

-- the literal is in each closed set that holds the given ones
abbrev pub InClosure : List (List Literal) → List Literal → Literal → Type 0
InClosure formula given l = (set : Literal → Bool) → HasGiven set given →
    IsUnitClosed formula set → set l ≡ true

-- the set is the closure of the given literals: the least set that holds them and is closed under
-- unit steps
pub record IsClosure (formula : List (List Literal)) (given : List Literal)
    (set : Literal → Bool) : Type 0 where
  pub sound : (l : Literal) → set l ≡ true → InClosure formula given l
  pub whole : (l : Literal) → InClosure formula given l → set l ≡ true

-- the closure of the given literals clashes: it has a class with both signs, or contradicts each
-- literal of a sentence
abbrev pub Clashes : List (List Literal) → List Literal → Type 0
Clashes formula given =
    ((l : Literal) × InClosure formula given l × InClosure formula given (negation l))
    ⊎ Any (λ sentence. All (λ m. InClosure formula given (negation m)) sentence) formula

-- each class in the sentences is below the number of classes
abbrev pub InRange : ℕ → List (List Literal) → Type 0
InRange classes formula = All (λ sentence. All (λ l. l.class < classes) sentence) formula

-- a set of classes makes the literal true: its class is in the set if it is positive, and is not if
-- it is negative
abbrev pub satisfies : (ℕ → Bool) → Literal → Bool
satisfies v l = same_sign l.positive (v l.class)

-- the set of classes makes a literal of each sentence true
abbrev pub Models : (ℕ → Bool) → List (List Literal) → Type 0
Models v formula = All (λ sentence. list_any (satisfies v) sentence ≡ true) formula

-- no set of classes makes all sentences true
abbrev pub HaveNoModel : List (List Literal) → Type 0
HaveNoModel formula = (v : ℕ → Bool) → Models v formula → ⊥
