-- What a register finds, as it grows, and what is asked of it.
use Rattle.std.proofs.Common.{◌≡◌, ℕ, zero, suc, ◌≤◌, ◌⊎◌, true, false, List, [], ◌∷◌, ◌++◌, length, take, Option, Some, None, inl, inr, refl, sym, ap, subst}
use Rattle.std.proofs.{Common.{◌∙◌}, lemmas.Bool.{and_parts, false≢true}, lemmas.List.{take_all}}
use Rattle.std.specs.{Cmp.{Equal-is}, Option.{option_map_or}, Ordering.{is_eq}, Prelude.{slice_get}}
use Rattle.deb_version.specs.{Grammar.{is_version}, Keys.{version_key}, Order.{version_order}}
use Rattle.deb_version.proofs.EqualKeys.{equal_keys}
use Rattle.listed.specs.Lists.{has}
use Rattle.listed.proofs.Lists.{same_bytes}
use Rattle.package_register.specs.{Hashed.{hash_of, numbers_under, Puts}, Numbers.{passes_at}}
use Rattle.package_register.specs.Registers.{has_name, is_version_of, numbers_exact, numbers_named, package_key, AreCandidates, Grows, IsFound, IsRegisterOf}
use Rattle.package_register.specs.declared.register.Register.{Register}
use Rattle.package_register.proofs.Numbers.{has_both, has_left, has_right, puts_front, puts_keeps, puts_there}

-- equal versions of a name have one key
one_key : (name asked own : List ℕ) → is_version asked ≡ true → is_version own ≡ true → is_eq (version_order own asked) ≡ true → hash_of (package_key name own) ≡ hash_of (package_key name asked)
unfolding package_key
one_key name asked own va vo same =
    let keys : version_key own ≡ version_key asked = equal_keys own asked vo va ((Equal-is (version_order own asked)).0 same) in
    ap (λ key. hash_of (key ++ (32 ∷ name))) keys

-- a number was put under a name
module _ (old new : Register) (name : List ℕ) (number : ℕ) (puts : Puts old.names new.names (hash_of name) number) where
  pub named_there : has (numbers_named new name) number ≡ true
  named_there = puts_there old.names new.names (hash_of name) number puts

  -- and under no version
  pub grows_named : new.versions ≡ old.versions → Grows old new
  grows_named same = record {
    named = λ other n h. puts_keeps old.names new.names (hash_of name) number puts (hash_of other) n h;
    exact = λ other version n h.
        has_both (take 16 (numbers_named old other)) (numbers_under old.versions (hash_of (package_key other version)))
        (take 16 (numbers_named new other)) (numbers_under new.versions (hash_of (package_key other version))) n
        (puts_front old.names new.names (hash_of name) number puts 16 (hash_of other) n)
        (λ k. subst (λ table. has (numbers_under table (hash_of (package_key other version))) n ≡ true) (sym same) k) h;
  }

  -- or also under a version
  pub grows_versions : (key : ℕ) → Puts old.versions new.versions key number → Grows old new
  grows_versions key more = record {
    named = λ other n h. puts_keeps old.names new.names (hash_of name) number puts (hash_of other) n h;
    exact = λ other version n h.
        has_both (take 16 (numbers_named old other)) (numbers_under old.versions (hash_of (package_key other version)))
        (take 16 (numbers_named new other)) (numbers_under new.versions (hash_of (package_key other version))) n
        (puts_front old.names new.names (hash_of name) number puts 16 (hash_of other) n)
        (puts_keeps old.versions new.versions key number more (hash_of (package_key other version)) n) h;
  }

  -- few bear the name
  pub found_few : (version : Option (List ℕ)) → length (numbers_named new name) ≤ 16 → IsFound new name version number
  found_few version few = record {
    named = named_there;
    exact = λ own asked is good same.
        has_left (take 16 (numbers_named new name)) (numbers_under new.versions (hash_of (package_key name asked))) number
        (subst (λ ns. has ns number ≡ true) (sym (take_all 16 (numbers_named new name) few)) named_there);
  }

  -- many do
  pub found_many : (own : List ℕ) → is_version own ≡ true → Puts old.versions new.versions (hash_of (package_key name own)) number → IsFound new name (Some own) number
  found_many own good more = record {
    named = named_there;
    exact = λ other asked is valid same.
        let one : own ≡ other = cc in
        has_right (take 16 (numbers_named new name)) (numbers_under new.versions (hash_of (package_key name asked))) number
        (subst (λ h. has (numbers_under new.versions h) number ≡ true)
        (one_key name asked own valid good (subst (λ v. is_eq (version_order v asked) ≡ true) (sym one) same))
        (puts_there old.versions new.versions (hash_of (package_key name own)) number more));
  }

  -- there is no version
  pub found_bare : (version : Option (List ℕ)) → version ≡ None → IsFound new name version number
  found_bare version none = record {
    named = named_there;
    exact = λ own asked is valid same. absurd (let f : ⊥ = cc in f);
  }

-- what was found is found later
pub found_later : (old new : Register) (name : List ℕ) (version : Option (List ℕ)) (n : ℕ) → Grows old new → IsFound old name version n → IsFound new name version n
found_later old new name version n grows found = record {
  named = grows.named name n found.named;
  exact = λ own asked is valid same. grows.exact name asked n (found.exact own asked is valid same);
}

pub got_more : {X : Type 0} (items : List X) (x y : X) (n : ℕ) → slice_get (items ++ x ∷ []) n ≡ Some y → (slice_get items n ≡ Some y) ⊎ ((n ≡ length items) × (y ≡ x))
got_more [] x y zero e = let same : y ≡ x = cc in inr (refl, same)
got_more [] x y (suc n) e = absurd (let f : ⊥ = cc in f)
got_more (z ∷ items) x y zero e = inl e
got_more (z ∷ items) x y (suc n) e = elim (got_more items x y n e) [ inl before ↦ inl before | inr w ↦ inr (ap suc w.0, w.1) ]

module _ {X : Type 0} (name_of version_of : X → List ℕ) where
  -- no items
  pub none_registered : (register : Register) → IsRegisterOf name_of version_of [] register
  none_registered register = record { found = λ n x e. absurd (let f : ⊥ = cc in f) }

  -- one more item
  pub one_registered : (items : List X) (x : X) (number : ℕ) (old new : Register) → IsRegisterOf name_of version_of items old → number ≡ length items → Grows old new
      → IsFound new (name_of x) (Some (version_of x)) number → IsRegisterOf name_of version_of (items ++ x ∷ []) new
  one_registered items x number old new of count grows found = record {
    found = λ n y e.
        elim (got_more items x y n e) [
          | inl before ↦ found_later old new (name_of y) (Some (version_of y)) n grows (of.found n y before)
          | inr w ↦
              subst (λ z. IsFound new (name_of z) (Some (version_of z)) n) (sym w.1)
              (subst (λ k. IsFound new (name_of x) (Some (version_of x)) k) (count ∙ sym w.0) found)
        ];
  }

  module _ (items : List X) (register : Register) (of : IsRegisterOf name_of version_of items register) (name : List ℕ) where
    -- whatever has the name is under it
    pub named_all : (n : ℕ) → passes_at (has_name name_of name) items n ≡ true → has (numbers_named register name) n ≡ true
    named_all n = by (slice_get items n) refl
      where
        by : (found : Option X) → slice_get items n ≡ found → option_map_or (has_name name_of name) found false ≡ true → has (numbers_named register name) n ≡ true
        by None e h = absurd (false≢true h)
        by (Some x) e h = subst (λ text. has (numbers_named register text) n ≡ true) (sym (same_bytes name (name_of x) h)) (of.found n x e).named

    -- and whatever has an equal version is under it with the version
    exact_all : (version : List ℕ) → is_version version ≡ true → (n : ℕ) → passes_at (is_version_of name_of version_of name version) items n ≡ true → has (numbers_exact register name version) n ≡ true
    exact_all version good n = by (slice_get items n) refl
      where
        by : (found : Option X) → slice_get items n ≡ found → option_map_or (is_version_of name_of version_of name version) found false ≡ true → has (numbers_exact register name version) n ≡ true
        by None e h = absurd (false≢true h)
        by (Some x) e h =
            let both = and_parts _ _ h in
            subst (λ text. has (numbers_exact register text version) n ≡ true) (sym (same_bytes name (name_of x) both.0))
            ((of.found n x e).exact (version_of x) version refl good both.1)

    passes_name : (version : List ℕ) (found : Option X) → option_map_or (is_version_of name_of version_of name version) found false ≡ true → option_map_or (has_name name_of name) found false ≡ true
    passes_name version None h = h
    passes_name version (Some x) h = (and_parts _ _ h).0

    -- whichever of the two is gone through
    pub versioned_all : (version numbers : List ℕ) → AreCandidates register name version numbers → (n : ℕ) → passes_at (is_version_of name_of version_of name version) items n ≡ true → has numbers n ≡ true
    versioned_all version numbers (inl all) n h = subst (λ ns. has ns n ≡ true) (sym all) (named_all n (passes_name version (slice_get items n) h))
    versioned_all version numbers (inr exact) n h = subst (λ ns. has ns n ≡ true) (sym exact.1) (exact_all version exact.0 n h)
