-- Support when the given set grows, and when one more package is gone.
use Rattle.std.proofs.Common.{◌≡◌, ◌≢◌, ℕ, ◌<◌, Bool, true, false, length, ◌⊎◌, inl, inr, refl, sym, subst, cond}
use Rattle.std.proofs.lemmas.Bool.{or_cases, or_left, or_right, cases_Bool, cases_eq, both_ways}
use Rattle.row_book.specs.{Sets.{Is, NumSet, plus, union, without}, Repository.{Repository, Satisfied}, Support.{Alive, Support}}
use Rattle.clause_flatten.specs.Laws.{OneStep, SupportGrows, with_user}
use Rattle.row_book.proofs.Sets.{Hit-mono, outside_gone, outside_less, outside_more, plus_cases, plus_new, plus_old, without_from, without_parts}

pub alive_map : (X Y J K : NumSet) (p q : ℕ) → ((n : ℕ) → Is X n → Alive Y K q n) → ((n : ℕ) → Is J n → Alive Y K q n) → Alive Y K q p →
    (n : ℕ) → Alive X J p n → Alive Y K q n
alive_map X Y J K p q f g h n (inl a) = f n a
alive_map X Y J K p q f g h n (inr (inl b)) = g n b
alive_map X Y J K p q f g h n (inr (inr e)) = subst (λ m. Alive Y K q m) (sym e) h

pub support_grows_lem : SupportGrows
support_grows_lem R V p X Y w s =
    let more : (n : ℕ) → Alive X s.helpers p n → Alive Y s.helpers p n =
    alive_map X Y s.helpers s.helpers p p (λ n a. inl (w n a)) (λ n b. inr (inl b)) (inr (inr refl)) in
    record {
      helpers = s.helpers;
      packages = s.packages;
      outside = s.outside;
      own = λ c i. Hit-mono more (s.own c i);
      others = λ n j c i. Hit-mono more (s.others n j c i);
    }

-- q was no helper: the helpers stand outside V too
step_same : (R : Repository) (V : NumSet) (p q : ℕ) (X : NumSet) (s : Support R (without V q) p X) → s.helpers q ≡ false → Support R V p X
step_same R V p q X s no_q = record {
  helpers = s.helpers;
  packages = s.packages;
  outside = λ n j. outside_less V q n (s.outside n j) (λ e. both_ways (s.helpers n) (subst (λ m. s.helpers m ≡ false) (sym e) no_q) j);
  own = s.own;
  others = s.others;
}

-- q was a helper: it is given now
step_given : (R : Repository) (V : NumSet) (p q : ℕ) (X : NumSet) (s : Support R (without V q) p X) → Support R V p (plus X q)
step_given R V p q X s =
    let more : (n : ℕ) → Alive X s.helpers p n → Alive (plus X q) (without s.helpers q) p n =
    alive_map X (plus X q) s.helpers (without s.helpers q) p p (λ n a. inl (plus_old X q n a))
    (λ n b. elim (cases_eq n q) [ inl e ↦ inl (plus_new X q n e) | inr ne ↦ inr (inl (without_from s.helpers q n b ne)) ])
    (inr (inr refl)) in
    record {
      helpers = without s.helpers q;
      packages = λ n j. s.packages n (without_parts s.helpers q n j).0;
      outside = λ n j. outside_less V q n (s.outside n (without_parts s.helpers q n j).0) (without_parts s.helpers q n j).1;
      own = λ c i. Hit-mono more (s.own c i);
      others = λ n j c i. Hit-mono more (s.others n (without_parts s.helpers q n j).0 c i);
    }

-- q was a helper, and p is in V
step_user_in : (R : Repository) (V : NumSet) (p q : ℕ) (X : NumSet) (s : Support R (without V q) p X) → s.helpers q ≡ true → Support R V q (plus X p)
step_user_in R V p q X s is_q =
    let more : (n : ℕ) → Alive X s.helpers p n → Alive (plus X p) (without s.helpers q) q n =
    alive_map X (plus X p) s.helpers (without s.helpers q) p q (λ n a. inl (plus_old X p n a))
    (λ n b. elim (cases_eq n q) [ inl e ↦ inr (inr e) | inr ne ↦ inr (inl (without_from s.helpers q n b ne)) ])
    (inl (plus_new X p p refl)) in
    record {
      helpers = without s.helpers q;
      packages = λ n j. s.packages n (without_parts s.helpers q n j).0;
      outside = λ n j. outside_less V q n (s.outside n (without_parts s.helpers q n j).0) (without_parts s.helpers q n j).1;
      own = λ c i. Hit-mono more (s.others q is_q c i);
      others = λ n j c i. Hit-mono more (s.others n (without_parts s.helpers q n j).0 c i);
    }

-- q was a helper, and p is outside V: it helps q
step_user_out : (R : Repository) (V : NumSet) (p q : ℕ) (X : NumSet) → p < length R.clauses → V p ≡ false → (s : Support R (without V q) p X) → s.helpers q ≡ true → Support R V q X
step_user_out R V p q X p_in p_out s is_q =
    let K : NumSet = plus (without s.helpers q) p in
    let more : (n : ℕ) → Alive X s.helpers p n → Alive X K q n =
    alive_map X X s.helpers K p q (λ n a. inl a)
    (λ n b. elim (cases_eq n q) [ inl e ↦ inr (inr e) | inr ne ↦ inr (inl (plus_old (without s.helpers q) p n (without_from s.helpers q n b ne))) ])
    (inr (inl (plus_new (without s.helpers q) p p refl))) in
    let split : (n : ℕ) → Is K n → (Is s.helpers n × (n ≢ q)) ⊎ (n ≡ p) =
    λ n j. elim (plus_cases (without s.helpers q) p n j) [ inl a ↦ inl (without_parts s.helpers q n a) | inr e ↦ inr e ] in
    record {
      helpers = K;
      packages = λ n j. elim (split n j) [ inl a ↦ s.packages n a.0 | inr e ↦ subst (λ m. m < length R.clauses) (sym e) p_in ];
      outside = λ n j. elim (split n j) [ inl a ↦ outside_less V q n (s.outside n a.0) a.1 | inr e ↦ subst (λ m. V m ≡ false) (sym e) p_out ];
      own = λ c i. Hit-mono more (s.others q is_q c i);
      others = λ n j. elim (split n j) [
        | inl a ↦ λ c i. Hit-mono more (s.others n a.0 c i)
        | inr e ↦ subst (λ m. Satisfied R (Alive X K q) m) (sym e) (λ c i. Hit-mono more (s.own c i))
      ];
    }

step_user : (R : Repository) (V : NumSet) (p q : ℕ) (X : NumSet) (v : Bool) → V p ≡ v → p < length R.clauses → (s : Support R (without V q) p X) → s.helpers q ≡ true →
    Support R V q (cond v (plus X p) X)
step_user R V p q X true e p_in s is_q = step_user_in R V p q X s is_q
step_user R V p q X false e p_in s is_q = step_user_out R V p q X p_in e s is_q

-- the other direction
step_more : (R : Repository) (V : NumSet) (p q : ℕ) (X : NumSet) → Support R V p X → Support R (without V q) p X
step_more R V p q X s = record {
  helpers = s.helpers;
  packages = s.packages;
  outside = λ n j. outside_more V q n (s.outside n j);
  own = s.own;
  others = s.others;
}

pub with_user_cases : (v : Bool) (p : ℕ) (X : NumSet) (n : ℕ) → Is (cond v (plus X p) X) n → Is X n ⊎ (n ≡ p)
with_user_cases true p X n h = plus_cases X p n h
with_user_cases false p X n h = inl h

step_joined : (R : Repository) (V : NumSet) (p q : ℕ) (X : NumSet) → q < length R.clauses → Support R V p (plus X q) → Support R V q (with_user V p X) → Support R (without V q) p X
step_joined R V p q X q_in s t =
    let K : NumSet = plus (union s.helpers t.helpers) q in
    let from_s : (n : ℕ) → Is s.helpers n → Alive X K p n =
    λ n b. inr (inl (plus_old (union s.helpers t.helpers) q n (or_left (s.helpers n) (t.helpers n) b))) in
    let from_t : (n : ℕ) → Is t.helpers n → Alive X K p n =
    λ n b. inr (inl (plus_old (union s.helpers t.helpers) q n (or_right (s.helpers n) (t.helpers n) b))) in
    let is_q : (n : ℕ) → n ≡ q → Alive X K p n = λ n e. inr (inl (plus_new (union s.helpers t.helpers) q n e)) in
    let more_s : (n : ℕ) → Alive (plus X q) s.helpers p n → Alive X K p n =
    alive_map (plus X q) X s.helpers K p p (λ n a. elim (plus_cases X q n a) [ inl x ↦ inl x | inr e ↦ is_q n e ]) from_s (inr (inr refl)) in
    let more_t : (n : ℕ) → Alive (with_user V p X) t.helpers q n → Alive X K p n =
    alive_map (with_user V p X) X t.helpers K q p (λ n a. elim (with_user_cases (V p) p X n a) [ inl x ↦ inl x | inr e ↦ inr (inr e) ]) from_t (is_q q refl) in
    let split : (n : ℕ) → Is K n → (Is s.helpers n ⊎ Is t.helpers n) ⊎ (n ≡ q) =
    λ n j. elim (plus_cases (union s.helpers t.helpers) q n j) [ inl a ↦ inl (or_cases (s.helpers n) (t.helpers n) a) | inr e ↦ inr e ] in
    record {
      helpers = K;
      packages = λ n j. elim (split n j) [ inl (inl a) ↦ s.packages n a | inl (inr b) ↦ t.packages n b | inr e ↦ subst (λ m. m < length R.clauses) (sym e) q_in ];
      outside = λ n j. elim (split n j) [ inl (inl a) ↦ outside_more V q n (s.outside n a) | inl (inr b) ↦ outside_more V q n (t.outside n b) | inr e ↦ outside_gone V q n e ];
      own = λ c i. Hit-mono more_s (s.own c i);
      others = λ n j. elim (split n j) [
        | inl (inl a) ↦ λ c i. Hit-mono more_s (s.others n a c i)
        | inl (inr b) ↦ λ c i. Hit-mono more_t (t.others n b c i)
        | inr e ↦ subst (λ m. Satisfied R (Alive X K p) m) (sym e) (λ c i. Hit-mono more_t (t.own c i))
      ];
    }

pub one_step_lem : OneStep
one_step_lem R V p q X p_in q_in q_v = (
  λ s. elim (cases_Bool (s.helpers q)) [
    | inl yes_q ↦ inr (step_given R V p q X s, step_user R V p q X (V p) refl p_in s yes_q)
    | inr no_q ↦ inl (step_same R V p q X s no_q)
  ],
  elim [ inl s ↦ step_more R V p q X s | inr b ↦ step_joined R V p q X q_in b.0 b.1 ],
)
