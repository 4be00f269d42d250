-- One clause fewer among those that are left.
use Rattle.std.proofs.Common.{◌≡◌, ℕ, zero, suc, ◌<◌, Bool, true, false, not, ◌||◌, cond, eqb, List, [], ◌∷◌, ◌++◌, length, refl, sym, ◌∙◌, ap, ap₂, subst, inl}
use Rattle.std.proofs.{Common.{inr, map, filter, slice_set, append_assoc, get_or, Option, Some, None, eq-eqb, ne_eqb}, lemmas.Bool.{cases_eq}}
use Rattle.std.proofs.lemmas.List.{get_or-map, map-append, set-get_or}
use Rattle.std.specs.{List.{find, list_any}, Prelude.{is_some}, Cmp.Lexicographic.{pointwise}}
use Rattle.clause_pool.specs.{Interned.{Interned, IsIdOf, IsPool, OfPool, clause_at, clauses_at, ids_at, row_at}, Lists.{InOrder}}
use Rattle.row_book.specs.{Facing.{face, against_in}, Uses.{row_id}, Repository.{Repository, clauses_of}}
use Rattle.row_book.specs.Pruning.{made_dead, IdleClause, prune_clause, prune_clauses, is_forced, is_idle, others, is_dead, prune_package, step_by}
use Rattle.row_book.specs.{Pruning.{with_clauses, without_clause}, Rounds.{IdleStep, RoundStep}}
use Rattle.listed.specs.Lists.{In, here, there}
use Rattle.listed.proofs.Lists.{filter_cases}
use Rattle.clause_pool.proofs.Order.{order_filter}
use Rattle.row_book.proofs.Repositories.{repository_same}
use Rattle.clause_prune.specs.Tests.{ids_without, with_ids, repository_in}
use Rattle.clause_prune.proofs.{Lifted.{any_found}, Passing.{left_own, other_id, same_id}}

set_twice : {A : Type 0} (xs : List A) (i : ℕ) (a b : A) → slice_set (slice_set xs i a) i b ≡ slice_set xs i b
set_twice [] i a b = refl
set_twice (x ∷ xs) zero a b = refl
set_twice (x ∷ xs) (suc i) a b = ap (λ z. x ∷ z) (set_twice xs i a b)

ids_filter : (pool : Interned) → IsPool pool → (ids : List ℕ) (id : ℕ) → OfPool pool ids → id < length pool.clauses →
    filter (λ c. not (pointwise eqb c (clause_at pool id))) (clauses_at pool ids) ≡ clauses_at pool (ids_without ids id)
ids_filter pool is [] id f l = refl
ids_filter pool is (x ∷ xs) id f l =
    ap₂ (λ b z. cond b (clause_at pool x ∷ z) z) test (ids_filter pool is xs id (λ y j. f y (there j)) l) ∙ pick (not (eqb x id))
  where
    test : not (pointwise eqb (clause_at pool x) (clause_at pool id)) ≡ not (eqb x id)
    test = elim (cases_eq x id) [
      | inl e ↦ same_id pool x id e ∙ sym (ap not (eq-eqb x id e))
      | inr ne ↦ other_id pool is x id (f x here) l ne ∙ sym (ap not (ne_eqb x id ne))
    ]

    pick : (b : Bool) → cond b (clause_at pool x ∷ clauses_at pool (ids_without xs id)) (clauses_at pool (ids_without xs id)) ≡ clauses_at pool (cond b (x ∷ ids_without xs id) (ids_without xs id))
    pick true = refl
    pick false = refl

module _ (pool : Interned) (is : IsPool pool) (rows : List ℕ) (p : ℕ) (left : List ℕ) (table : List (List ℕ)) (id : ℕ)
    (inside : p < length rows) (of : OfPool pool left) (l : id < length pool.clauses) where
  abbrev R : Repository
  R = with_ids pool rows p left table

  pub less_left : with_ids pool rows p (ids_without left id) table ≡ without_clause R p (clause_at pool id)
  less_left =
      repository_same (with_ids pool rows p (ids_without left id) table) (without_clause R p (clause_at pool id))
      (sym (set_twice (map (row_at pool) rows) p (clauses_at pool left) (others R p (clause_at pool id))
      ∙ ap (slice_set (map (row_at pool) rows) p)
      (ap (filter (λ c. not (pointwise eqb c (clause_at pool id)))) (left_own pool rows p left table inside) ∙ ids_filter pool is left id of l)))
      refl

  pub went : (b : Bool) → b ≡ true → (is_forced R p (clause_at pool id) || list_any (is_idle R p (clause_at pool id)) (clause_at pool id)) ≡ b →
      with_ids pool rows p (ids_without left id) table ≡ (prune_clause R p (clause_at pool id)).left
  went b e f = less_left ∙ sym (ap (λ t. cond t (without_clause R p (clause_at pool id)) R) (f ∙ e))

  pub forced_goes : is_forced R p (clause_at pool id) ≡ true → with_ids pool rows p (ids_without left id) table ≡ (prune_clause R p (clause_at pool id)).left
  forced_goes e = went true refl (ap (λ t. t || list_any (is_idle R p (clause_at pool id)) (clause_at pool id)) e)

  pub idle_goes : (x : ℕ) → is_forced R p (clause_at pool id) ≡ false → Some x ≡ find (is_idle R p (clause_at pool id)) (clause_at pool id) → with_ids pool rows p (ids_without left id) table ≡ (prune_clause R p (clause_at pool id)).left
  idle_goes x e f =
      went true refl (ap (λ t. t || list_any (is_idle R p (clause_at pool id)) (clause_at pool id)) e ∙ any_found (is_idle R p (clause_at pool id)) (clause_at pool id) ∙ ap is_some (sym f))

  pub none_goes : is_forced R p (clause_at pool id) ≡ false → None ≡ find (is_idle R p (clause_at pool id)) (clause_at pool id) → R ≡ (prune_clause R p (clause_at pool id)).left
  none_goes e f =
      sym (ap (λ t. cond t (without_clause R p (clause_at pool id)) R)
      (ap (λ t. t || list_any (is_idle R p (clause_at pool id)) (clause_at pool id)) e ∙ any_found (is_idle R p (clause_at pool id)) (clause_at pool id) ∙ ap is_some (sym f)))

  pub found_steps : (o : Option ℕ) → is_forced R p (clause_at pool id) ≡ false → o ≡ find (is_idle R p (clause_at pool id)) (clause_at pool id) → (prune_clause R p (clause_at pool id)).steps ≡ step_by p (clause_at pool id) o
  found_steps o e f = ap₂ (λ t u. cond t [] (step_by p (clause_at pool id) u)) e (sym f)

ids_part : (left : List ℕ) (clause id : ℕ) → In id (ids_without left clause) → In id left
ids_part left clause id i = (filter_cases (λ other. not (eqb other clause)) left id i).0

pub part_less : (left new : List ℕ) (clause : ℕ) → new ≡ ids_without left clause → (id : ℕ) → In id new → In id left
part_less left new clause e id i = ids_part left clause id (subst (λ z. In id z) e i)

pub order_less : (pool : Interned) → IsPool pool → (left new : List ℕ) (id : ℕ) → OfPool pool left → id < length pool.clauses → new ≡ ids_without left id → InOrder (clauses_at pool left) → InOrder (clauses_at pool new)
order_less pool is left new id of l e o =
    subst InOrder (ids_filter pool is left id of l ∙ ap (clauses_at pool) (sym e)) (order_filter (λ c. not (pointwise eqb c (clause_at pool id))) (clauses_at pool left) o)

-- the clauses one after another
pub record Pruning (pool : Interned) (rows : List ℕ) (p : ℕ) (ids left : List ℕ) (table : List (List ℕ)) (first told : List RoundStep) (rest : List ℕ) : Type 0 where
  pub clauses : (prune_clauses (with_ids pool rows p left table) p (clauses_at pool rest)).left ≡ (prune_clauses (with_ids pool rows p ids table) p (clauses_at pool ids)).left
  pub part : (id : ℕ) → In id left → In id ids
  pub order : InOrder (clauses_at pool ids) → InOrder (clauses_at pool left)
  pub idle : told ++ map IdleStep (prune_clauses (with_ids pool rows p left table) p (clauses_at pool rest)).steps ≡ first ++ map IdleStep (prune_clauses (with_ids pool rows p ids table) p (clauses_at pool ids)).steps

pub pruning_more : (pool : Interned) (rows : List ℕ) (p : ℕ) (ids left new : List ℕ) (table : List (List ℕ)) (first told more : List RoundStep) (id : ℕ) (rest : List ℕ) →
    Pruning pool rows p ids left table first told (id ∷ rest) → with_ids pool rows p new table ≡ (prune_clause (with_ids pool rows p left table) p (clause_at pool id)).left → ((x : ℕ) → In x new → In x left) →
    (InOrder (clauses_at pool left) → InOrder (clauses_at pool new)) → more ≡ told ++ map IdleStep (prune_clause (with_ids pool rows p left table) p (clause_at pool id)).steps →
    Pruning pool rows p ids new table first more rest
pruning_more pool rows p ids left new table first told more id rest s e f g h =
    let R : Repository = with_ids pool rows p left table in
    let now : List IdleClause = (prune_clause R p (clause_at pool id)).steps in
    let then : List IdleClause = (prune_clauses (prune_clause R p (clause_at pool id)).left p (clauses_at pool rest)).steps in
    record {
      clauses = ap (λ F. (prune_clauses F p (clauses_at pool rest)).left) e ∙ s.clauses;
      part = λ x i. s.part x (f x i);
      order = λ o. g (s.order o);
      idle = ap₂ (λ z F. z ++ map IdleStep (prune_clauses F p (clauses_at pool rest)).steps) h e
          ∙ append_assoc told (map IdleStep now) (map IdleStep then)
          ∙ ap (λ z. told ++ z) (sym (map-append IdleStep now then)) ∙ s.idle;
    }

-- the whole of a package
module _ (pool : Interned) (rows : List ℕ) (p : ℕ) (ids : List ℕ) (table : List (List ℕ)) (inside : p < length rows) (same : ids ≡ ids_at pool (row_id rows p)) where
  abbrev R0 : Repository
  R0 = repository_in pool rows table

  own_clauses : clauses_of R0 p ≡ clauses_at pool ids
  own_clauses = get_or-map (row_at pool) rows p 0 [] inside ∙ ap (clauses_at pool) (sym same)

  pub start_is : with_ids pool rows p ids table ≡ R0
  start_is =
      repository_same (with_ids pool rows p ids table) R0
      (ap (slice_set (map (row_at pool) rows) p) (sym own_clauses) ∙ set-get_or (map (row_at pool) rows) p []) refl

  pub dead_is : face (against_in table) ((p ∷ []) ∷ clauses_at pool ids) ((p ∷ []) ∷ clauses_at pool ids) ≡ is_dead R0 p
  dead_is = ap (λ cs. face (against_in table) ((p ∷ []) ∷ cs) ((p ∷ []) ∷ cs)) (sym own_clauses)

  pub dead_package : (cs : List (List ℕ)) → is_dead R0 p ≡ true → cs ≡ [] ∷ [] → (prune_package R0 p).left ≡ with_clauses R0 p cs
  dead_package cs e f = ap (λ b. (cond b (made_dead R0 p) (prune_clauses R0 p (clauses_of R0 p))).left) e ∙ ap (with_clauses R0 p) (sym f)

  pub live_package : (left : List ℕ) (cs : List (List ℕ)) → is_dead R0 p ≡ false → with_ids pool rows p left table ≡ (prune_clauses (with_ids pool rows p ids table) p (clauses_at pool ids)).left → cs ≡ clauses_at pool left →
      (prune_package R0 p).left ≡ with_clauses R0 p cs
  live_package left cs e f g =
      ap (λ b. (cond b (made_dead R0 p) (prune_clauses R0 p (clauses_of R0 p))).left) e
      ∙ ap₂ (λ F c. (prune_clauses F p c).left) (sym start_is) own_clauses ∙ sym f ∙ ap (with_clauses R0 p) (sym g)

  pub dead_steps : is_dead R0 p ≡ true → (prune_package R0 p).steps ≡ []
  dead_steps e = ap (λ b. (cond b (made_dead R0 p) (prune_clauses R0 p (clauses_of R0 p))).steps) e

  pub live_steps : is_dead R0 p ≡ false → (prune_package R0 p).steps ≡ (prune_clauses (with_ids pool rows p ids table) p (clauses_at pool ids)).steps
  live_steps e = ap (λ b. (cond b (made_dead R0 p) (prune_clauses R0 p (clauses_of R0 p))).steps) e ∙ ap₂ (λ F c. (prune_clauses F p c).steps) (sym start_is) own_clauses

pub interned_row : (old new : Interned) (left : List ℕ) (id : ℕ) → new.clauses ≡ old.clauses → IsIdOf new.rows left id → row_at new id ≡ clauses_at old left
interned_row old new left id e at = ap (clauses_at new) at.holds ∙ ap (λ cs. map (λ i. get_or cs i []) left) e
