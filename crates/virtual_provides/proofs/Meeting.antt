-- A package that meets an atom is found under the atom's name, and in an equal version where the atom asks for one exactly.
use Rattle.std.proofs.Common.{◌≡◌, ℕ, true, false, List, Option, Some, None, Result, Ok, Err, IfOk, inl, inr, refl, sym, ap, subst, ◌∙◌}
use Rattle.std.proofs.lemmas.Bool.{and_parts, or_cases, false≢true}
use Rattle.std.specs.{Prelude.{slice_get}, List.{list_any}, Option.{option_and_then, option_map_or}, Ordering.{is_eq}}
use Rattle.deb_version.specs.{Grammar.{is_version}, Order.{version_order}}
use Rattle.listed.specs.Lists.{In, has}
use Rattle.listed.proofs.Lists.{any_cases, same_bytes}
use Rattle.relation_fields.specs.{Meeting.{wants, meets, fits, fits_provided, is_met_by_name, is_provided_by}, declared.packages.Home.{Home}}
use Rattle.relation_fields.specs.{declared.packages.PackageFacts.{PackageFacts}, declared.relations.Atom.{Atom}, declared.relations.Bound.{Bound}}
use Rattle.relation_fields.specs.{declared.relations.Op.{Op}, declared.relations.Op.TheVariants.{Earlier, EarlierEqual, Exactly, LaterEqual, Later}}
use Rattle.relation_fields.specs.declared.relations.Provide.{Provide}
use Rattle.package_register.specs.{Numbers.{passes_at}, Registers.{numbers_exact, numbers_named, AreCandidates}, declared.register.Register.{Register}}
use Rattle.virtual_provides.specs.{Bearers.{exact_version, version_asked, AreFor, IsBuiltFrom}, declared.names.NameTable.{NameTable}}

fits_asked : (op : Op) (asked version own : List ℕ) → version_asked op asked ≡ Some version → wants op (version_order own asked) ≡ true → is_eq (version_order own version) ≡ true
fits_asked Earlier asked version own e h = cc
fits_asked EarlierEqual asked version own e h = cc
fits_asked Exactly asked version own e h = let same : asked ≡ version = cc in ap (λ v. is_eq (version_order own v)) (sym same) ∙ h
fits_asked LaterEqual asked version own e h = cc
fits_asked Later asked version own e h = cc

bound_asked : (bound : Option Bound) (version own : List ℕ) → option_and_then (λ b. version_asked b.op b.version) bound ≡ Some version
    → option_map_or (fits own) bound true ≡ true → is_eq (version_order own version) ≡ true
bound_asked None version own e h = cc
bound_asked (Some bound) version own e h = fits_asked bound.op bound.version version own e h

provide_asked : (bound : Option Bound) (given : Option (List ℕ)) (version : List ℕ) → option_and_then (λ b. version_asked b.op b.version) bound ≡ Some version
    → option_map_or (fits_provided given) bound true ≡ true → (own : List ℕ) × (given ≡ Some own) × (is_eq (version_order own version) ≡ true)
provide_asked None given version e h = absurd (let f : ⊥ = cc in f)
provide_asked (Some bound) None version e h = absurd (false≢true h)
provide_asked (Some bound) (Some own) version e h = (own, refl, fits_asked bound.op bound.version version own e h)

-- numbers among which are those of the version that is asked for
pub asked_for : {X E : Type 0} (numbers : X → List ℕ) (result : Result X E) (register : Register) (atom : Atom) (name version : List ℕ) → name ≡ atom.name → exact_version atom ≡ Some version
    → IfOk result (λ found. AreCandidates register name version (numbers found)) → IfOk result (λ found. AreFor register atom (numbers found))
asked_for numbers (Ok found) register atom name version same asked (inl all) = inl (all ∙ ap (numbers_named register) same)
asked_for numbers (Ok found) register atom name version same asked (inr exact) = inr (version, asked, exact.0, exact.1 ∙ ap (λ text. numbers_exact register text version) same)
asked_for numbers (Err e) register atom name version same asked h = tt

module _ (packages : List PackageFacts) (table : NameTable) (of : IsBuiltFrom packages table) (atom : Atom) (home : Home) where
  -- where the atom asks for no one version
  named_met : (n : ℕ) (facts : PackageFacts) → slice_get packages n ≡ Some facts → meets atom facts home ≡ true → has (numbers_named table.register atom.name) n ≡ true
  unfolding meets
  named_met n facts stands e =
      elim (or_cases (is_met_by_name atom facts) (list_any (is_provided_by atom home) facts.provides) (and_parts _ _ e).1) [
        | inl own ↦ subst (λ text. has (numbers_named table.register text) n ≡ true) (sym (same_bytes atom.name facts.name (and_parts _ _ own).0)) (of.own.found n facts stands).named
        | inr some ↦
            let w : (provide : Provide) × In provide facts.provides × (is_provided_by atom home provide ≡ true) = any_cases (is_provided_by atom home) facts.provides some in
            subst (λ text. has (numbers_named table.register text) n ≡ true) (sym (same_bytes atom.name w.0.name (and_parts _ _ (and_parts _ _ w.2).1).0)) (of.provided n facts stands w.0 w.1).named
      ]

  -- where it asks for one
  exact_met : (version : List ℕ) → exact_version atom ≡ Some version → is_version version ≡ true → (n : ℕ) (facts : PackageFacts) → slice_get packages n ≡ Some facts → meets atom facts home ≡ true
      → has (numbers_exact table.register atom.name version) n ≡ true
  unfolding meets
  exact_met version asked good n facts stands e =
      elim (or_cases (is_met_by_name atom facts) (list_any (is_provided_by atom home) facts.provides) (and_parts _ _ e).1) [
        | inl own ↦
            let both = and_parts _ _ own in
            subst (λ text. has (numbers_exact table.register text version) n ≡ true) (sym (same_bytes atom.name facts.name both.0))
            ((of.own.found n facts stands).exact facts.version version refl good (bound_asked atom.bound version facts.version asked both.1))
        | inr some ↦
            let w : (provide : Provide) × In provide facts.provides × (is_provided_by atom home provide ≡ true) = any_cases (is_provided_by atom home) facts.provides some in
            let both = and_parts _ _ (and_parts _ _ w.2).1 in
            let given : (own : List ℕ) × (w.0.version ≡ Some own) × (is_eq (version_order own version) ≡ true) = provide_asked atom.bound w.0.version version asked both.1 in
            subst (λ text. has (numbers_exact table.register text version) n ≡ true) (sym (same_bytes atom.name w.0.name both.0))
            ((of.provided n facts stands w.0 w.1).exact given.0 version given.1 good given.2)
      ]

  -- whatever meets the atom is gone through
  pub all_met : (numbers : List ℕ) → AreFor table.register atom numbers → (n : ℕ) → passes_at (λ facts. meets atom facts home) packages n ≡ true → has numbers n ≡ true
  all_met numbers for n = by (slice_get packages n) refl for
    where
      by : (found : Option PackageFacts) → slice_get packages n ≡ found → AreFor table.register atom numbers → option_map_or (λ facts. meets atom facts home) found false ≡ true → has numbers n ≡ true
      by None stands any h = absurd (false≢true h)
      by (Some facts) stands (inl all) h = subst (λ ns. has ns n ≡ true) (sym all) (named_met n facts stands h)
      by (Some facts) stands (inr w) h = subst (λ ns. has ns n ≡ true) (sym w.3) (exact_met w.0 w.1 w.2 n facts stands h)
