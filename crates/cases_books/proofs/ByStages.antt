-- Repositories that are flattened by the definition, told by the tables of its stages.
use Rattle.std.proofs.Common.{◌≡◌, ℕ, Bool, true, false, ◌&&◌, ltb, List, [], ◌∷◌, inl, inr, length, refl, sym, ap, arith, filter, Some, None}
use Rattle.std.proofs.{lemmas.Bool.{and_parts, ltb-true, cases_lt}, lemmas.List.{get_or_past}}
use Rattle.std.specs.List.{list_all}
use Rattle.listed.specs.Lists.{In, Ascending}
use Rattle.row_book.specs.{Repository.{Repository, clauses_of}, Numbers.{numbers}, Sound.{SoundClauses}, Flattening.{flat, held_of, passes, packages}}
use Rattle.listed.proofs.Lists.{In_none, all_at}
use Rattle.row_book.proofs.Numbers.{numbers_from}
use Rattle.clause_flatten.specs.Substitution.{table_without, table_passes, choice_in, first_table, stage_after, passes_by_stages}
use Rattle.clause_flatten.proofs.Stages.{flat_by_stages_lem, passes_by_stages_lem, stages_run_lem}

-- clauses that are sound, by a test
is_ascending : List ℕ → Bool
is_ascending [] = true
is_ascending (x ∷ xs) = list_all (λ y. ltb x y) xs && is_ascending xs

is_sound : Repository → Bool
is_sound R = list_all (λ p. list_all (λ c. is_ascending c && list_all (λ n. ltb n (length R.clauses)) c) (clauses_of R p)) (packages R)

ascending_from : (c : List ℕ) → is_ascending c ≡ true → Ascending c
unfolding is_ascending
ascending_from [] h = tt
ascending_from (x ∷ xs) h =
    let w : (list_all (λ y. ltb x y) xs ≡ true) × (is_ascending xs ≡ true) = and_parts (list_all (λ y. ltb x y) xs) (is_ascending xs) h in
    ((λ y i. ltb-true x y (all_at (λ y. ltb x y) xs w.0 y i)), ascending_from xs w.1)

sound_from : (R : Repository) → is_sound R ≡ true → SoundClauses R
unfolding is_sound
sound_from R h p c i =
    elim (cases_lt p (length R.clauses)) [
      | inl l ↦
          let each : ℕ → Bool = λ p. list_all (λ c. is_ascending c && list_all (λ n. ltb n (length R.clauses)) c) (clauses_of R p) in
          let at : each p ≡ true = all_at each (packages R) h p (numbers_from (length R.clauses) 0 p (omega arith) (omega arith)) in
          let w : (is_ascending c ≡ true) × (list_all (λ n. ltb n (length R.clauses)) c ≡ true) =
          and_parts (is_ascending c) (list_all (λ n. ltb n (length R.clauses)) c) (all_at (λ c. is_ascending c && list_all (λ n. ltb n (length R.clauses)) c) (clauses_of R p) at c i) in
          (ascending_from c w.0, λ n j. ltb-true n (length R.clauses) (all_at (λ n. ltb n (length R.clauses)) c w.1 n j))
      | inr g ↦ absurd (In_none (elim_past (clauses_of R p) (get_or_past R.clauses p [] g) i))
    ]
  where
    elim_past : (cs : List (List ℕ)) → cs ≡ [] → In c cs → In c []
    elim_past [] e j = j
    elim_past (d ∷ ds) e j = absurd (let f : ⊥ = cc in f)

-- `a: Depends m`, `m: Depends b, c | d`, `b: Conflicts e`, `c: Conflicts e`, `d: Conflicts f`, `e`, `f`
chain : Repository
chain = record {
  clauses = ((1 ∷ []) ∷ []) ∷ ((2 ∷ []) ∷ (3 ∷ 4 ∷ []) ∷ []) ∷ [] ∷ [] ∷ [] ∷ [] ∷ [] ∷ [];
  conflicts = [] ∷ [] ∷ (5 ∷ []) ∷ (5 ∷ []) ∷ (6 ∷ []) ∷ (2 ∷ 3 ∷ []) ∷ (4 ∷ []) ∷ [];
}

-- a and m are taken out, and a gets the clauses of m
flat_chain : (flat 2 false chain).clauses ≡ ((2 ∷ []) ∷ (3 ∷ 4 ∷ []) ∷ []) ∷ ((2 ∷ []) ∷ (3 ∷ 4 ∷ []) ∷ []) ∷ [] ∷ [] ∷ [] ∷ [] ∷ [] ∷ []
unfolding chain is_sound is_ascending numbers table_without table_passes choice_in first_table stage_after
flat_chain = ap (λ r. r.clauses) (flat_by_stages_lem 2 false chain (sound_from chain refl))

-- `a: Depends m, n`, `m: Depends b, c`, `n: Depends d`, `b: Conflicts e`, `c: Conflicts e`, `d: Conflicts e`, `e`
grown : Repository
grown = record {
  clauses = ((1 ∷ []) ∷ (2 ∷ []) ∷ []) ∷ ((3 ∷ []) ∷ (4 ∷ []) ∷ []) ∷ ((5 ∷ []) ∷ []) ∷ [] ∷ [] ∷ [] ∷ [] ∷ [];
  conflicts = [] ∷ [] ∷ [] ∷ (6 ∷ []) ∷ (6 ∷ []) ∷ (6 ∷ []) ∷ (3 ∷ 4 ∷ 5 ∷ []) ∷ [];
}

-- n goes first, then a, then m, and then the row of a has three clauses
passes_grown : passes 2 false grown ≡ Some (record { gone = 3; over = 0; count = 3 })
unfolding grown is_sound is_ascending numbers table_without table_passes choice_in first_table stage_after passes_by_stages
passes_grown = passes_by_stages_lem 2 false grown (sound_from grown refl)

grown_is_allowed : passes 3 false grown ≡ None
unfolding grown is_sound is_ascending numbers table_without table_passes choice_in first_table stage_after passes_by_stages
grown_is_allowed = passes_by_stages_lem 3 false grown (sound_from grown refl)

-- with hold the limit is not passed, and m stays, as the row of a would have three clauses without it
grown_is_held : passes 2 true grown ≡ None
unfolding grown is_sound is_ascending numbers table_without table_passes choice_in first_table stage_after passes_by_stages
grown_is_held = passes_by_stages_lem 2 true grown (sound_from grown refl)

held_grown : held_of 2 true grown ≡ 1 ∷ []
unfolding grown is_sound is_ascending held_of numbers table_without table_passes choice_in first_table stage_after
held_grown = ap (λ s. filter s.remaining.held (packages grown)) (sym (stages_run_lem 2 true grown (sound_from grown refl) 7))

flat_grown : (flat 2 true grown).clauses ≡ ((1 ∷ []) ∷ (5 ∷ []) ∷ []) ∷ ((3 ∷ []) ∷ (4 ∷ []) ∷ []) ∷ ((5 ∷ []) ∷ []) ∷ [] ∷ [] ∷ [] ∷ [] ∷ []
unfolding grown is_sound is_ascending numbers table_without table_passes choice_in first_table stage_after
flat_grown = ap (λ r. r.clauses) (flat_by_stages_lem 2 true grown (sound_from grown refl))

-- at limit 3 none is held
held_none : held_of 3 true grown ≡ []
unfolding grown is_sound is_ascending held_of numbers table_without table_passes choice_in first_table stage_after
held_none = ap (λ s. filter s.remaining.held (packages grown)) (sym (stages_run_lem 3 true grown (sound_from grown refl) 7))
