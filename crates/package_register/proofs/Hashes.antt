-- Look-ups by a hash in a table whose values are seen as lists of numbers.
use Rattle.std.proofs.Common.{◌≡◌, ℕ, Bool, true, false, eqb, List, [], ◌∷◌, Option, Some, None, IsSome, is_some, Result, Ok, Err, OnOk, IfOk, length, refl}
use Rattle.std.proofs.Common.{sym, ap, subst, ◌∙◌, eqb-true}
use Rattle.std.specs.{Prelude.{if◌then◌else◌}, Option.{option_map_or}, Map.{KeepsOthers}, HashMap.{HashMap, get_by, UpdatesBy}}
use Rattle.package_register.specs.Hashed.{with_number}

module _ {X S : Type 0} (list : X → List ℕ) where
  -- the value under a hash, and the list that is seen there
  abbrev pub found_at : HashMap ℕ X S → ℕ → Option X
  found_at m hash = get_by (eqb hash) m

  abbrev pub list_at : HashMap ℕ X S → ℕ → List ℕ
  list_at m hash = option_map_or list (found_at m hash) []

  -- a value is put under a hash
  abbrev pub UpdatesAt : HashMap ℕ X S → HashMap ℕ X S → ℕ → X → Type 0
  UpdatesAt m n hash w = UpdatesBy eqb (eqb hash) m n (Some w)

  -- the hash has it then, and others have what they had
  found_at-updated : (hash other : ℕ) (m n : HashMap ℕ X S) (w : X) → UpdatesAt m n hash w
      → found_at n other ≡ (if eqb other hash then Some w else found_at m other)
  unfolding KeepsOthers
  found_at-updated hash other m n w h = by (eqb other hash) refl
    where
      by : (b : Bool) → eqb other hash ≡ b → found_at n other ≡ (if b then Some w else found_at m other)
      by true e = ap (found_at n) (eqb-true other hash e) ∙ h.1
      by false e =
          h.3 (eqb other)
          (λ x y hit. ap (λ k. eqb k y) (eqb-true other x hit))
          (λ k hit. ap (eqb other) (sym (eqb-true hash k hit)) ∙ e)

  -- a number is put behind those of the hash
  list_at-puts : (hash other number : ℕ) (m n : HashMap ℕ X S) (w : X) → UpdatesAt m n hash w → list w ≡ with_number number (list_at m hash)
      → list_at n other ≡ (if eqb other hash then with_number number (list_at m other) else list_at m other)
  list_at-puts hash other number m n w h e = ap (λ found. option_map_or list found []) (found_at-updated hash other m n w h) ∙ by (eqb other hash) refl
    where
      by : (b : Bool) → eqb other hash ≡ b → option_map_or list (if b then Some w else found_at m other) [] ≡ (if b then with_number number (list_at m other) else list_at m other)
      by true same = e ∙ ap (λ k. with_number number (list_at m k)) (sym (eqb-true other hash same))
      by false same = refl

  -- what is under a hash once a value is put there
  pub list_there : (hash : ℕ) (m n : HashMap ℕ X S) (w : X) → UpdatesAt m n hash w → list_at n hash ≡ list w
  list_there hash m n w h = ap (λ found. option_map_or list found []) h.1

  -- the hash had a list, which took the number
  pub there_ok : {T E : Type 0} (result : Result T E) (hash number : ℕ) (m n : HashMap ℕ X S) (had w : X) → (IsSome (found_at m hash) → UpdatesAt m n hash w)
      → found_at m hash ≡ Some had → OnOk result (list w ≡ with_number number (list had))
      → OnOk result ((other : ℕ) → list_at n other ≡ (if eqb other hash then with_number number (list_at m other) else list_at m other))
  there_ok (Ok x) hash number m n had w h there e = λ other.
      list_at-puts hash other number m n w (h (ap is_some there)) (e ∙ ap (λ found. with_number number (option_map_or list found [])) (sym there))
  there_ok (Err x) hash number m n had w h there e = tt

  -- and its length is what was told
  pub there_count : {E : Type 0} (result : Result ℕ E) (hash : ℕ) (m n : HashMap ℕ X S) (had w : X) → (IsSome (found_at m hash) → UpdatesAt m n hash w) → found_at m hash ≡ Some had
      → IfOk result (λ count. count ≡ length (list w)) → IfOk result (λ count. count ≡ length (list_at n hash))
  there_count (Ok count) hash m n had w h there e = e ∙ sym (ap length (list_there hash m n w (h (ap is_some there))))
  there_count (Err x) hash m n had w h there e = tt

  -- a hash that had no list gets one of this number alone
  pub new_ok : (hash other number : ℕ) (m before n : HashMap ℕ X S) (w : X) → UpdatesAt before n hash w → before ≡ m → list w ≡ number ∷ [] → found_at m hash ≡ None
      → list_at n other ≡ (if eqb other hash then with_number number (list_at m other) else list_at m other)
  new_ok hash other number m before n w h same one none =
      list_at-puts hash other number m n w (subst (λ b. UpdatesAt b n hash w) same h)
      (one ∙ ap (λ found. with_number number (option_map_or list found [])) (sym none))
