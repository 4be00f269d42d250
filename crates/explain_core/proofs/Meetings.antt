-- Packages that are met one after another, and what is within reach by them.
use Rattle.std.proofs.Common.{◌≡◌, ℕ, zero, suc, ◌+◌, ◌<◌, ◌≤◌, Bool, true, false, List, [], ◌∷◌, ◌++◌, ◌⊎◌, inl, inr, length, get_or, take, map, refl, sym, ap}
use Rattle.std.proofs.{Common.{◌∙◌, subst, arith, append_assoc}, lemmas.Bool.{cases_lt}}
use Rattle.std.proofs.{lemmas.List.{append-nil, length-append, map-append, take_more, get_or_default}, lemmas.List.Folds.{concat-append}}
use Rattle.std.specs.List.{concat}
use Rattle.row_book.specs.{Flags.{flag}, Needs.{NeedsFit}, Repository.{Repository, clauses_of}, Book.{repository_of, Sound}, Uses.{row_id}}
use Rattle.row_book.specs.declared.book.Book.{Book}
use Rattle.listed.specs.Lists.{In, has, here, there}
use Rattle.listed.proofs.Lists.{In_append_cases, In_append_left, In_append_right, In_cases, In_has, In_none, In_at, has_In}
use Rattle.clause_pool.specs.Interned.{Interned}
use Rattle.clause_pool.proofs.Lists.{In_place}
use Rattle.row_book.proofs.{BookRepositories.{book_size}, Books.{clauses_row, in_listed}}
use Rattle.explain_core.specs.{Meeting.{IsMetList, IsReachedTo, Meets}, Reach.{IsReach}}

pub meets_both : (old mid new front more : List ℕ) → Meets old mid front → Meets mid new more → Meets old new (front ++ more)
meets_both old mid new front more a b = record {
  rest = a.rest ++ b.rest;
  behind = b.behind ∙ ap (λ l. l ++ b.rest) a.behind ∙ append_assoc old a.rest b.rest;
  all = λ n i. elim (In_append_cases front more n i) [
    | inl j ↦ subst (λ l. In n l) (sym b.behind) (In_append_left mid b.rest n (a.all n j))
    | inr j ↦ b.all n j
  ];
  only = λ n i. elim (In_append_cases a.rest b.rest n i) [
    | inl j ↦ In_append_left front more n (a.only n j)
    | inr j ↦ In_append_right front more n (b.only n j)
  ];
}

pub meets_again : (old : List ℕ) (n : ℕ) → In n old → Meets old old (n ∷ [])
meets_again old n i = record {
  rest = [];
  behind = sym (append-nil old);
  all = λ m j. elim (In_cases j) [ inl e ↦ subst (λ k. In k old) (sym e) i | inr k ↦ absurd (In_none k) ];
  only = λ m j. absurd (In_none j);
}

pub meets_new : (old new : List ℕ) (n : ℕ) → new ≡ old ++ n ∷ [] → Meets old new (n ∷ [])
meets_new old new n e = record {
  rest = n ∷ [];
  behind = e;
  all = λ m j. subst (λ l. In m l) (sym e) (In_append_right old (n ∷ []) m j);
  only = λ m j. j;
}

-- a loop over a list, one more item at a time
pub meets_step : (old mid new items : List ℕ) (i d : ℕ) → i < length items → Meets old mid (take i items) → Meets mid new (get_or items i d ∷ []) → Meets old new (take (i + 1) items)
meets_step old mid new items i d l a b = subst (λ m. Meets old new m) (sym (take_more items i d l)) (meets_both old mid new (take i items) (get_or items i d ∷ []) a b)

pub meets_list : (old mid new : List ℕ) (lists : List (List ℕ)) (i : ℕ) (d : List ℕ) → i < length lists → Meets old mid (concat (take i lists)) → Meets mid new (get_or lists i d) → Meets old new (concat (take (i + 1) lists))
meets_list old mid new lists i d l a b =
    subst (λ m. Meets old new m) (sym (ap concat (take_more lists i d l) ∙ concat-append (take i lists) (get_or lists i d ∷ []) ∙ ap (λ m. concat (take i lists) ++ m) (append-nil (get_or lists i d))))
    (meets_both old mid new (concat (take i lists)) (get_or lists i d) a b)

in_concat : (lists : List (List ℕ)) (c : List ℕ) (n : ℕ) → In c lists → In n c → In n (concat lists)
in_concat [] c n i j = absurd (In_none i)
in_concat (d ∷ lists) c n i j = elim (In_cases i) [
  | inl e ↦ In_append_left d (concat lists) n (subst (λ x. In n x) e j)
  | inr k ↦ In_append_right d (concat lists) n (in_concat lists c n k j)
]

from_concat : (lists : List (List ℕ)) (n : ℕ) → In n (concat lists) → (c : List ℕ) × In c lists × In n c
from_concat [] n i = absurd (In_none i)
from_concat (d ∷ lists) n i = elim (In_append_cases d (concat lists) n i) [
  | inl a ↦ (d, here, a)
  | inr b ↦ let w = from_concat lists n b in (w.0, there w.1, w.2)
]

-- the packages of the goals
pub reached_start : (R : Repository) (goals : List (List ℕ)) (order : List ℕ) → NeedsFit (length R.clauses) goals → Meets [] order (concat goals) → IsReachedTo R goals order 0
reached_start R goals order fit w = record {
  before = omega arith;
  below = λ n i. let g = from_concat goals n (w.only n (subst (λ l. In n l) w.behind i)) in fit g.0 g.1 n g.2;
  of_goals = λ g i n j. w.all n (in_concat goals g n i j);
  of_clauses = λ j l c i n k. absurd (omega arith);
  least = λ T holds n i. let g = from_concat goals n (w.only n (subst (λ l. In n l) w.behind i)) in holds.of_goals g.0 g.1 n g.2;
}

get_front : (xs ys : List ℕ) (j : ℕ) → j < length xs → get_or (xs ++ ys) j 0 ≡ get_or xs j 0
get_front [] ys j l = absurd (omega arith)
get_front (x ∷ xs) ys zero l = refl
get_front (x ∷ xs) ys (suc j) l = get_front xs ys j (omega arith)

-- and what one more package needs
pub reached_more : (R : Repository) (goals : List (List ℕ)) (order new : List ℕ) (place p : ℕ) → ((q : ℕ) (c : List ℕ) → In c (clauses_of R q) → (n : ℕ) → In n c → n < length R.clauses) → place < length order → p ≡ get_or order place 0 → IsReachedTo R goals order place →
    Meets order new (concat (clauses_of R p)) → IsReachedTo R goals new (place + 1)
reached_more R goals order new place p ranged l is w m = record {
  before =
      let e : length new ≡ length order + length m.rest = ap length m.behind ∙ length-append order m.rest in
      omega (arith, e);
  below = λ n i. elim (cases n i) [
    | inl a ↦ w.below n a
    | inr b ↦ let c = from_concat (clauses_of R p) n b in ranged p c.0 c.1 n c.2
  ];
  of_goals = λ g i n j. kept n (w.of_goals g i n j);
  of_clauses = λ j lj c i n k. elim (cases_lt j place) [
    | inl lt ↦
        let at : get_or new j 0 ≡ get_or order j 0 = ap (λ o. get_or o j 0) m.behind ∙ get_front order m.rest j (omega arith) in
        kept n (w.of_clauses j lt c (subst (λ q. In c (clauses_of R q)) at i) n k)
    | inr ge ↦
        let same : j ≡ place = omega arith in
        let at : get_or new j 0 ≡ p = ap (λ o. get_or o j 0) m.behind ∙ get_front order m.rest j (omega arith) ∙ ap (λ q. get_or order q 0) same ∙ sym is in
        m.all n (in_concat (clauses_of R p) c n (subst (λ q. In c (clauses_of R q)) at i) k)
  ];
  least = λ T holds n i. elim (cases n i) [
    | inl a ↦ w.least T holds n a
    | inr b ↦ let c = from_concat (clauses_of R p) n b in holds.of_clauses p (w.least T holds p (subst (λ q. In q order) (sym is) (In_at order place 0 l))) c.0 c.1 n c.2
  ];
}
  where
    kept : (n : ℕ) → In n order → In n new
    kept n i = subst (λ o. In n o) (sym m.behind) (In_append_left order m.rest n i)

    cases : (n : ℕ) → In n new → In n order ⊎ In n (concat (clauses_of R p))
    cases n i = elim (In_append_cases order m.rest n (subst (λ o. In n o) m.behind i)) [ inl a ↦ inl a | inr b ↦ inr (m.only n b) ]

-- where each package was taken, the packages that were met are those within reach
pub reached_all : (R : Repository) (goals : List (List ℕ)) (order : List ℕ) (place : ℕ) (flags : List Bool) → length order ≤ place → IsReachedTo R goals order place →
    ((n : ℕ) → flag flags n ≡ has order n) → IsReach R goals (flag flags)
reached_all R goals order place flags l w same = record {
  holds = record {
    of_goals = λ g i n j. same n ∙ In_has (w.of_goals g i n j);
    of_clauses = λ p t c i n j.
        let at = In_place order p 0 (has_In order p (sym (same p) ∙ t)) in
        let inside : at.0 < place = omega (arith, at.1) in
        same n ∙ In_has (w.of_clauses at.0 inside c (subst (λ q. In c (clauses_of R q)) (sym at.2) i) n j);
  };
  least = λ T holds n t. w.least T holds n (has_In order n (sym (same n) ∙ t));
}

-- a loop over a row, one more clause at a time
pub meets_row : (old mid new : List ℕ) (f : ℕ → List ℕ) (row : List ℕ) (i id : ℕ) → i < length row → id ≡ get_or row i id → Meets old mid (concat (map f (take i row))) → Meets mid new (f id) →
    Meets old new (concat (map f (take (i + 1) row)))
meets_row old mid new f row i id l is a b =
    subst (λ m. Meets old new m)
    (sym (ap (λ r. concat (map f r)) (take_more row i id l ∙ ap (λ x. take i row ++ x ∷ []) (sym is)) ∙ ap concat (map-append f (take i row) (id ∷ []))
    ∙ concat-append (map f (take i row)) (f id ∷ []) ∙ ap (λ m. concat (map f (take i row)) ++ m) (append-nil (f id))))
    (meets_both old mid new (concat (map f (take i row))) (f id) a b)

-- a package whose flag is up was met
pub met_there : (flags : List Bool) (order : List ℕ) (p : ℕ) (r : Bool) → IsMetList flags order → p < length flags → r ≡ get_or flags p r → r ≡ true → In p order
met_there flags order p r w l is up = has_In order p (sym (w.each p) ∙ get_or_default flags p false r l ∙ sym is ∙ up)

-- what the rows of a book name is below its size
pub ranged : (pool : Interned) (book : Book) → Sound pool book → (q : ℕ) (c : List ℕ) → In c (clauses_of (repository_of pool book) q) → (n : ℕ) → In n c → n < length (repository_of pool book).clauses
ranged pool book sound q c i n j =
    let size : length (repository_of pool book).clauses ≡ length book.rows = book_size pool book in
    let l : q < length book.rows = subst (λ k. q < k) size (in_listed (repository_of pool book).clauses q c i) in
    subst (λ k. n < k) (sym size) (sound.rows.numbers (row_id book.rows q) (In_at book.rows q 0 l) c (subst (λ cs. In c cs) (clauses_row pool book q l) i) n j)
