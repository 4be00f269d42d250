-- Putting a package to the users of what it names.
use Rattle.std.proofs.Common.{◌≡◌, ◌≢◌, ℕ, ◌+◌, ◌<◌, true, false, List, [], ◌∷◌, ◌++◌, ◌⊎◌, length, get_or, set, take, refl, ap, sym, ◌∙◌, inl, inr, subst}
use Rattle.std.proofs.{lemmas.Bool.{cases_eq, both_ways}, lemmas.List.{length-set, map_more, take_more, get_or-set_same, get_or-set_other}}
use Rattle.clause_pool.specs.Interned.{Interned, clause_at, clauses_at}
use Rattle.row_book.specs.{Sets.{NumSet}, Book.{listed_for}}
use Rattle.listed.specs.Lists.{In, here, there}
use Rattle.listed.proofs.Lists.{In_cases, In_none, In_append_cases}
use Rattle.install_lift.specs.Raising.{PutsUser}

pub puts_none : (J : NumSet) (user : ℕ) (table : List (List ℕ)) → PutsUser J [] user table table
puts_none J user table = record {
  size = refl;
  kept = λ n p i. i;
  only = λ n p i. inl i;
  listed = λ c i. absurd (In_none i);
}

pub puts_first : (J : NumSet) (user : ℕ) (table : List (List ℕ)) → PutsUser J ([] ∷ []) user table table
puts_first J user table = record {
  size = refl;
  kept = λ n p i. i;
  only = λ n p i. inl i;
  listed = λ c i n k. elim (In_cases i) [ inl e ↦ absurd (In_none (rw e at k)) | inr j ↦ absurd (In_none j) ];
}

-- one more number of the clause
one_more : (xs : List ℕ) (i x m : ℕ) → i < length xs → x ≡ get_or xs i 0 → In m (take (i + 1) xs) → In m (take i xs) ⊎ (m ≡ x)
one_more xs i x m lt is k =
    elim (In_append_cases (take i xs) (x ∷ []) m (subst (λ ys. In m ys) (more xs i x lt is) k)) [
      | inl a ↦ inl a
      | inr b ↦ elim (In_cases b) [ inl e ↦ inr e | inr j ↦ absurd (In_none j) ]
    ]
  where
    more : (xs : List ℕ) (i x : ℕ) → i < length xs → x ≡ get_or xs i 0 → take (i + 1) xs ≡ take i xs ++ x ∷ []
    more xs i x lt is = take_more xs i 0 lt ∙ ap (λ y. take i xs ++ y ∷ []) (sym is)

pub puts_down : (J : NumSet) (clause : List ℕ) (i n user : ℕ) (old new : List (List ℕ)) → i < length clause → n ≡ get_or clause i 0 → J n ≡ false → PutsUser J (take i clause ∷ []) user old new → PutsUser J (take (i + 1) clause ∷ []) user old new
puts_down J clause i n user old new lt is down puts = record {
  size = puts.size;
  kept = puts.kept;
  only = puts.only;
  listed = λ c a m k now. elim (In_cases a) [
    | inr j ↦ absurd (In_none j)
    | inl e ↦ elim (one_more clause i n m lt is (subst (λ z. In m z) e k)) [
      | inl b ↦ puts.listed (take i clause) here m b now
      | inr b ↦ absurd (both_ways (J n) down (subst (λ z. J z ≡ true) b now))
    ]
  ];
}

pub puts_up : (J : NumSet) (clause : List ℕ) (i n user : ℕ) (old mid new : List (List ℕ)) → i < length clause → n ≡ get_or clause i 0 → n < length mid → new ≡ set mid n (user ∷ listed_for mid n) → PutsUser J (take i clause ∷ []) user old mid
    → PutsUser J (take (i + 1) clause ∷ []) user old new
puts_up J clause i n user old mid new lt is within f puts = record {
  size = ap length f ∙ length-set mid n (user ∷ listed_for mid n) ∙ puts.size;
  kept = λ m p a. stays m p (puts.kept m p a);
  only = λ m p a. elim (cases_eq m n) [
    | inl e ↦ elim (In_cases (subst (λ z. In p z) (at m e) a)) [ inl b ↦ inr b | inr j ↦ puts.only m p (subst (λ z. In p (listed_for mid z)) (sym e) j) ]
    | inr ne ↦ puts.only m p (subst (λ z. In p z) (other m ne) a)
  ];
  listed = λ c a m k now. elim (In_cases a) [
    | inr j ↦ absurd (In_none j)
    | inl e ↦ elim (one_more clause i n m lt is (subst (λ z. In m z) e k)) [
      | inl b ↦ stays m user (puts.listed (take i clause) here m b now)
      | inr b ↦ subst (λ z. In user z) (sym (at m b)) here
    ]
  ];
}
  where
    at : (m : ℕ) → m ≡ n → listed_for new m ≡ user ∷ listed_for mid n
    at m e = ap (λ t. listed_for t m) f ∙ ap (listed_for (set mid n (user ∷ listed_for mid n))) e ∙ get_or-set_same mid n (user ∷ listed_for mid n) [] within

    other : (m : ℕ) → m ≢ n → listed_for new m ≡ listed_for mid m
    other m ne = ap (λ t. listed_for t m) f ∙ get_or-set_other mid n m (user ∷ listed_for mid n) [] ne

    stays : (m p : ℕ) → In p (listed_for mid m) → In p (listed_for new m)
    stays m p a = elim (cases_eq m n) [
      | inl e ↦ subst (λ z. In p z) (sym (at m e)) (there (subst (λ z. In p (listed_for mid z)) e a))
      | inr ne ↦ subst (λ z. In p z) (sym (other m ne)) a
    ]

-- one more clause of the row
pub puts_more : (J : NumSet) (pool : Interned) (ids : List ℕ) (i id user : ℕ) (clause : List ℕ) (old mid new : List (List ℕ)) → i < length ids → id ≡ get_or ids i id → clause ≡ clause_at pool id → PutsUser J (clauses_at pool (take i ids)) user old mid
    → PutsUser J (clause ∷ []) user mid new → PutsUser J (clauses_at pool (take (i + 1) ids)) user old new
puts_more J pool ids i id user clause old mid new lt is lent first second = record {
  size = second.size ∙ first.size;
  kept = λ n p a. second.kept n p (first.kept n p a);
  only = λ n p a. elim (second.only n p a) [ inl b ↦ first.only n p b | inr b ↦ inr b ];
  listed = λ c a n k now. elim (In_append_cases (clauses_at pool (take i ids)) (clause ∷ []) c (subst (λ cs. In c cs) more a)) [
    | inl b ↦ second.kept n user (first.listed c b n k now)
    | inr b ↦ second.listed c b n k now
  ];
}
  where
    more : clauses_at pool (take (i + 1) ids) ≡ clauses_at pool (take i ids) ++ clause ∷ []
    more = map_more (clause_at pool) ids i id lt ∙ ap (λ x. clauses_at pool (take i ids) ++ clause_at pool x ∷ []) (sym is) ∙ ap (λ c. clauses_at pool (take i ids) ++ c ∷ []) (sym lent)
