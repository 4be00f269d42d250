-- Whether one of the packages whose flags are up has an architecture other than `all`.
use Rattle.std.proofs.{Common.{◌≡◌, ℕ, ◌≤◌, Bool, false, List, [], ◌∷◌, length, drop, refl, sym, ap, ◌∙◌}, lemmas.List.{drop_all}}
use Rattle.std.specs.List.{items_where_true}
use Rattle.relation_fields.specs.declared.packages.PackageFacts.{PackageFacts}
use Rattle.migrate_plan.specs.Indexes.{has_arch_dependent}

abbrev any_dependent : List Bool → List PackageFacts → Bool
any_dependent flags packages = has_arch_dependent (items_where_true flags packages)

-- one of those from a place on is, exactly where one of all is
abbrev pub IsBehind : List Bool → List PackageFacts → ℕ → Type 0
IsBehind flags all i = any_dependent flags all ≡ any_dependent (drop i flags) (drop i all)

-- there are no more
pub none_behind : (flags : List Bool) (all : List PackageFacts) (i : ℕ) → length all ≤ i → IsBehind flags all i → false ≡ any_dependent flags all
none_behind flags all i past behind = sym (behind ∙ ap (any_dependent (drop i flags)) (drop_all i all past) ∙ none (drop i flags))
  where
    none : (fs : List Bool) → any_dependent fs [] ≡ false
    none [] = refl
    none (f ∷ fs) = refl
