-- The common architecture of stanzas that are at a home, by which of their packages have it.
use Rattle.std.proofs.Common.{◌≡◌, ℕ, Bool, List, [], ◌∷◌, map, Option, Some, None, inl, inr, refl, sym, ap, ◌∙◌}
use Rattle.std.specs.{Prelude.{is_some, if◌then◌else◌, ◌||◌}, Option.{option_or}}
use Rattle.stanza_reader.specs.declared.stanza.RawStanza.{RawStanza}
use Rattle.listed.specs.Lists.{In, here, there}
use Rattle.listed.proofs.Lists.{filter_cases}
use Rattle.repo_model.specs.{Facts.{architecture_of, facts_of}, Feeding.{IsSuiteOf}, FirstFault.{first_present, home_of, stanzas_of}}
use Rattle.relation_fields.specs.declared.packages.PackageFacts.{PackageFacts}
use Rattle.migrate_plan.specs.Indexes.{has_arch_dependent}
use Rattle.migrate_plan.proofs.{Faultless.{IsAt, reads_fine, sound_of}, Mixed.{named}}

-- the home, if one of the stanzas has it
abbrev pub home_if_any : Option (List ℕ) → List RawStanza → Option (List ℕ)
home_if_any home stanzas = if has_arch_dependent (map facts_of stanzas) then home else None

-- a first stanza without an architecture tells nothing
any_past : (home : Option (List ℕ)) (stanza : RawStanza) (more : List RawStanza) → architecture_of stanza ≡ None → home_if_any home more ≡ home_of more → home_if_any home (stanza ∷ more) ≡ home_of (stanza ∷ more)
unfolding facts_of home_of
any_past home stanza more none rest =
    ap (λ (found : Option (List ℕ)). if is_some found || has_arch_dependent (map facts_of more) then home else None) none ∙ rest ∙ sym (ap (λ found. option_or found (first_present (map architecture_of more))) none)

-- and one of the home tells it
any_here : (home : List ℕ) (stanza : RawStanza) (more : List RawStanza) → architecture_of stanza ≡ Some home → home_if_any (Some home) (stanza ∷ more) ≡ home_of (stanza ∷ more)
unfolding facts_of home_of
any_here home stanza more is =
    ap (λ (found : Option (List ℕ)). if is_some found || has_arch_dependent (map facts_of more) then Some home else None) is ∙ sym (ap (λ found. option_or found (first_present (map architecture_of more))) is)

home_any : (home : Option (List ℕ)) (stanzas : List RawStanza) → ((t : RawStanza) → In t stanzas → IsAt home t) → home_if_any home stanzas ≡ home_of stanzas
unfolding home_of
home_any home [] at = refl
home_any None (stanza ∷ more) at = any_past None stanza more (elim (at stanza here) [ inl none ↦ none | inr none ↦ none ]) (home_any None more (λ t i. at t (there i)))
home_any (Some home) (stanza ∷ more) at = elim (at stanza here) [
  | inl none ↦ any_past (Some home) stanza more none (home_any (Some home) more (λ t i. at t (there i)))
  | inr is ↦ any_here home stanza more is
]

-- the stanzas of some names in an index without a fault
pub home_named : (test : List ℕ → Bool) (text : List ℕ) (packages : List PackageFacts) (home : Option (List ℕ)) → IsSuiteOf text packages home
    → home_if_any home (named test (stanzas_of text)) ≡ home_of (named test (stanzas_of text))
home_named test text packages home suite =
    let all : List RawStanza = stanzas_of text in
    let chosen : List RawStanza = named test all in
    ap (λ own. home_if_any own chosen) suite.common
    ∙ home_any (home_of all) chosen (λ t i. (sound_of all (reads_fine text suite.fine).fit).at t (filter_cases (λ s. test (facts_of s).name) all t i).0)
