-- A clause is forced where another one lies within those that see to it that it is hit.
use Rattle.std.proofs.Common.{◌≡◌, ℕ, ◌<◌, ◌+◌, Bool, true, false, not, ◌&&◌, ◌||◌, cond, eqb, List, [], ◌∷◌, ◌++◌, append-nil, append_assoc, refl, sym, ◌∙◌}
use Rattle.std.proofs.{Common.{inl, inr, ap, ap₂, filter, length, get_or, take, Some}, lemmas.Bool.{or_cases, or_left, or_right}, lemmas.List.{take_more}}
use Rattle.std.proofs.{lemmas.List.Elements.{filter-append}, lemmas.List.Folds.{list_any-append}}
use Rattle.std.specs.{List.{list_any}, Cmp.Lexicographic.{pointwise}}
use Rattle.listed.proofs.{Bools.{same_bool}, Lists.{In_has, all_same, filter_cases, filter_from, has_In}}
use Rattle.clause_pool.specs.{Interned.{Interned}, Within.{is_within}}
use Rattle.listed.specs.Lists.{In, has, here, there, is_inside}
use Rattle.row_book.specs.{Repository.{clauses_of}, Uses.{IsListOf}, Pruning.{serves}}
use Rattle.clause_prune.specs.{Filing.{AsksServing, Filed, FiledFor, asks, filed_within}, Tests.{forces_in, with_ids}}
use Rattle.clause_prune.proofs.Files.{filed_serves}

any_same : (p q : List ℕ → Bool) (cs : List (List ℕ)) → ((c : List ℕ) → In c cs → p c ≡ q c) → list_any p cs ≡ list_any q cs
any_same p q [] f = refl
any_same p q (c ∷ cs) f = ap₂ (λ a b. a || b) (f c here) (any_same p q cs (λ d i. f d (there i)))

-- One more that was asked.
module _ (test : ℕ → Bool) (d xs : List ℕ) (k x : ℕ) (found : List ℕ) (l : k < length xs) (e : x ≡ get_or xs k x) (before : found ≡ d ++ filter test (take k xs)) where
  step : filter test (take (k + 1) xs) ≡ filter test (take k xs) ++ cond (test x) (x ∷ []) []
  step = ap (filter test) (take_more xs k x l ∙ ap (λ z. take k xs ++ z ∷ []) (sym e)) ∙ filter-append test (take k xs) (x ∷ [])

  pub serves_too : (more : List ℕ) → test x ≡ true → more ≡ found ++ x ∷ [] → more ≡ d ++ filter test (take (k + 1) xs)
  serves_too more t u =
      u ∙ ap (λ ys. ys ++ x ∷ []) before ∙ append_assoc d (filter test (take k xs)) (x ∷ [])
      ∙ ap (λ ys. d ++ ys) (sym (step ∙ ap (λ b. filter test (take k xs) ++ cond b (x ∷ []) []) t))

  pub serves_not : test x ≡ false → found ≡ d ++ filter test (take (k + 1) xs)
  serves_not t =
      before
      ∙ ap (λ ys. d ++ ys) (sym (step ∙ ap (λ b. filter test (take k xs) ++ cond b (x ∷ []) []) t ∙ append-nil (filter test (take k xs))))

-- The members of the clause, those that were asked and serve, and those that are filed with a clause within it.
module _ (pool : Interned) (rows : List ℕ) (p : ℕ) (left d : List ℕ) (f : Filed) (found : List ℕ) (sound : FiledFor pool rows p f)
    (all_found : IsListOf (λ n. has (d ++ filter (serves (with_ids pool rows p left []) d) f.always) n || filed_within pool f.lists d n) found) where
  abbrev test : ℕ → Bool
  test = serves (with_ids pool rows p left []) d

  both : (n : ℕ) → has (d ++ filter test f.always) n ≡ (has d n || has (filter test f.always) n)
  both n = list_any-append (λ m. eqb n m) d (filter test f.always)

  -- these are all that serve, where each that serves is a member or was asked
  served_is : (n : ℕ) → (test n ≡ true → (has d n || asks pool f d n) ≡ true) → has found n ≡ test n
  served_is n reached =
      all_found.members n
      ∙ same_bool (has (d ++ filter test f.always) n || filed_within pool f.lists d n) (test n)
      (λ h. elim (or_cases (has (d ++ filter test f.always) n) (filed_within pool f.lists d n) h) [
        | inl a ↦ elim (or_cases (has d n) (has (filter test f.always) n) (sym (both n) ∙ a)) [
          | inl b ↦ or_left (has d n) (list_any (λ c. is_inside c d) (clauses_of (with_ids pool rows p left []) n)) b
          | inr b ↦ (filter_cases test f.always n (has_In (filter test f.always) n b)).1
        ]
        | inr a ↦ filed_serves pool rows p left f d n sound a
      ])
      (λ h. elim (or_cases (has d n) (asks pool f d n) (reached h)) [
        | inl a ↦ or_left (has (d ++ filter test f.always) n) (filed_within pool f.lists d n) (both n ∙ or_left (has d n) (has (filter test f.always) n) a)
        | inr a ↦ elim (or_cases (has f.always n) (filed_within pool f.lists d n) a) [
          | inl b ↦
              or_left (has (d ++ filter test f.always) n) (filed_within pool f.lists d n)
              (both n ∙ or_right (has d n) (has (filter test f.always) n) (In_has (filter_from test f.always n (has_In f.always n b) h)))
          | inr b ↦ or_right (has (d ++ filter test f.always) n) (filed_within pool f.lists d n) b
        ]
      ])

  pub forced_within : (cs : List (List ℕ)) → AsksServing pool (with_ids pool rows p left []) cs f d → list_any (is_within (Some d) found) cs ≡ list_any (forces_in pool rows p left d) cs
  forced_within cs all =
      any_same (is_within (Some d) found) (forces_in pool rows p left d) cs (λ e i.
      ap (λ b. not (pointwise eqb e d) && b) (all_same (has found) test e (λ n j. served_is n (all e i n j))))
