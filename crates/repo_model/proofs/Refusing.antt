-- Refusals, and faults one after another.
use Rattle.std.proofs.Common.{◌≡◌, ℕ, List, Option, None, find, ap, ap₂, ◌∙◌}
use Rattle.std.specs.Option.{option_or, option_map}
use Rattle.relation_fields.specs.declared.packages.PackageFacts.{PackageFacts}
use Rattle.stanza_reader.specs.{declared.stanza.FieldKind.TheVariants.{Package}, declared.stanza.RawStanza.{RawStanza}}
use Rattle.repo_model.specs.{Facts.{facts_of, is_same_package}, Fields.{value_of}, FirstFault.{duplicate_fault}, Nameless.{named, nameless}}
use Rattle.repo_model.specs.{declared.facts.NamelessFacts.{NamelessFacts}, declared.fault.IndexFault.{IndexFault}}
use Rattle.repo_model.specs.declared.fault.IndexFault.TheVariants.{Stanza, MissingPackage, MissingVersion, BadPackage, BadVersion, BadArchitecture, BadRelation}
use Rattle.repo_model.specs.{declared.fault.IndexFault.TheVariants.{Duplicate, Mixed, TooMany, Memory}, Refusals.{UnlessMemory, Refuses}}

pub for_same : (fault : IndexFault) {P Q : Type 0} → (P → Q) → UnlessMemory fault P → UnlessMemory fault Q
for_same (Stanza fault) step h = step h
for_same (MissingPackage line) step h = step h
for_same (MissingVersion line) step h = step h
for_same (BadPackage line) step h = step h
for_same (BadVersion line) step h = step h
for_same (BadArchitecture line) step h = step h
for_same (BadRelation line element) step h = step h
for_same (Duplicate first_line line) step h = step h
for_same (Mixed line) step h = step h
for_same TooMany step h = step h
for_same Memory step h = tt

-- a fault is refused where it comes first
pub refuses_first : (fault : IndexFault) (there more : Option IndexFault) → Refuses fault there → Refuses fault (option_or there more)
refuses_first fault there more = for_same fault (ap (λ found. option_or found more))

-- and behind one that is not there
pub refuses_behind : (fault : IndexFault) (there more : Option IndexFault) → there ≡ None → Refuses fault more → Refuses fault (option_or there more)
refuses_behind fault there more none = for_same fault (λ h. ap (λ found. option_or found more) none ∙ h)

-- one of two is there where one is and the other is not
pub none_behind : (there more : Option IndexFault) → there ≡ None → more ≡ None → option_or there more ≡ None
none_behind there more none h = ap (λ found. option_or found more) none ∙ h

-- what was read of a stanza, and its name, are the package that it describes
pub named_is : (facts : NamelessFacts) (name : List ℕ) (stanza : RawStanza) → facts ≡ nameless (facts_of stanza) → name ≡ value_of Package stanza → named facts name ≡ facts_of stanza
unfolding facts_of
named_is facts name stanza same called = ap₂ named same called

-- an earlier stanza is the same package, told by the package that the stanza describes
duplicate_by : (before slice : List PackageFacts) (stanza : RawStanza) (facts : PackageFacts) → slice ≡ before → facts ≡ facts_of stanza
    → option_map (λ (first : PackageFacts). Duplicate first.line facts.line) (find (is_same_package facts) slice) ≡ duplicate_fault before stanza
unfolding duplicate_fault facts_of
duplicate_by before slice stanza facts same e =
    ap (λ (own : PackageFacts). option_map (λ (first : PackageFacts). Duplicate first.line own.line) (find (is_same_package own) slice)) e
    ∙ ap (λ all. option_map (λ (first : PackageFacts). Duplicate first.line stanza.line) (find (is_same_package (facts_of stanza)) all)) same

-- the same, told by what was read of the stanza and its name
pub duplicate_is : (before slice : List PackageFacts) (stanza : RawStanza) (facts : NamelessFacts) (name : List ℕ) → slice ≡ before → facts ≡ nameless (facts_of stanza) → name ≡ value_of Package stanza
    → option_map (λ (first : PackageFacts). Duplicate first.line facts.line) (find (is_same_package (named facts name)) slice) ≡ duplicate_fault before stanza
duplicate_is before slice stanza facts name same read called = duplicate_by before slice stanza (named facts name) same (named_is facts name stanza read called)
