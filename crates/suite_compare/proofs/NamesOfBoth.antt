-- The names of packages, and those of two indexes.
use Rattle.std.proofs.{Common.{ℕ, ◌≡◌, ◌∙◌, true, List, ap, sym, subst, map}, lemmas.Slice.Eq.{bytes_eq-Decides}}
use Rattle.std.specs.Str.{bytes_eq}
use Rattle.relation_fields.specs.declared.packages.PackageFacts.{PackageFacts}
use Rattle.repo_model.specs.{Goals.{names_in}, Stanzas.{no_stanza, stanza_at}}
use Rattle.clause_pool.specs.Lists.{InOrder}
use Rattle.listed.specs.Lists.{In}
use Rattle.listed.proofs.Lists.{In_at, In_map, In_map_cases, In_place, any_cases, any_from, filter_cases, filter_from}
use Rattle.clause_pool.proofs.Order.{order_filter, ordered_has, ordered_order, ordered_parts}
use Rattle.suite_compare.specs.{Names.{names_of_both, stands_in}, Indexes.{SearchedIndex, HasPackageOf}, Listing.{BothHave}, ListingLaws.{NamesAreTheirs}}

pub names_parts : (packages : List PackageFacts) (name : List ℕ) → In name (names_in packages) → (it : PackageFacts) × In it packages × (it.name ≡ name)
names_parts packages name i =
    let w : (x : PackageFacts) × In x packages × (name ≡ x.name) = In_map_cases (λ facts. facts.name) packages name (ordered_parts (map (λ facts. facts.name) packages) name i) in
    (w.0, w.1, sym w.2)

pub names_has : (packages : List PackageFacts) (name : List ℕ) (it : PackageFacts) → In it packages → it.name ≡ name → In name (names_in packages)
names_has packages name it i e =
    ordered_has (map (λ facts. facts.name) packages) name (subst (λ z. In z (map (λ facts. facts.name) packages)) e (In_map (λ (facts : PackageFacts). facts.name) packages it i))

pub names_are_theirs : NamesAreTheirs
names_are_theirs packages = record {
  ascend = ordered_order (map (λ facts. facts.name) packages);
  each = λ name. (λ i. names_parts packages name i, λ w. names_has packages name w.0 w.1 w.2);
}

pub both_order : (old new : List PackageFacts) → InOrder (names_of_both old new)
both_order old new = order_filter (stands_in new) (names_in old) (ordered_order (map (λ facts. facts.name) old))

-- a package of the name is at some place
stands_at : (s : SearchedIndex) (name : List ℕ) (it : PackageFacts) → In it s.stanzas → it.name ≡ name → HasPackageOf s name
stands_at s name it i named = let at = In_place s.stanzas it no_stanza i in (at.0, at.1, ap (λ (x : PackageFacts). x.name) at.2 ∙ named)

pub both_have : (old new : SearchedIndex) (name : List ℕ) → In name (names_of_both old.stanzas new.stanzas) → BothHave old new name
both_have old new name i =
    let w : In name (names_in old.stanzas) × (stands_in new.stanzas name ≡ true) = filter_cases (stands_in new.stanzas) (names_in old.stanzas) name i in
    let o : (it : PackageFacts) × In it old.stanzas × (it.name ≡ name) = names_parts old.stanzas name w.0 in
    let n : (it : PackageFacts) × In it new.stanzas × (bytes_eq name it.name ≡ true) = any_cases (λ facts. bytes_eq name facts.name) new.stanzas w.1 in
    (stands_at old name o.0 o.1 o.2, stands_at new name n.0 n.1 (sym ((bytes_eq-Decides name n.0.name).0 n.2)))

pub both_from : (old new : SearchedIndex) (name : List ℕ) → BothHave old new name → In name (names_of_both old.stanzas new.stanzas)
both_from old new name h =
    let o : HasPackageOf old name = h.0 in
    let n : HasPackageOf new name = h.1 in
    filter_from (stands_in new.stanzas) (names_in old.stanzas) name (names_has old.stanzas name (stanza_at old.stanzas o.0) (In_at old.stanzas o.0 no_stanza o.1) o.2)
    (any_from (λ facts. bytes_eq name facts.name) new.stanzas (stanza_at new.stanzas n.0) (In_at new.stanzas n.0 no_stanza n.1) ((bytes_eq-Decides name (stanza_at new.stanzas n.0).name).1 (sym n.2)))
