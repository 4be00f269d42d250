-- What the stanzas of a sample suite are read as.
use Rattle.std.proofs.Common.{◌≡◌, ◌∙◌, ◌+◌, ℕ, refl, sym, ap, ap₂, List, [], ◌∷◌, ◌++◌, map, length, codes, Option, Some, None, Result, Ok, arith}
use Rattle.std.specs.List.{AllByRecursion}
use Rattle.stanza_reader.specs.{Fields.{trimmed}, Lines.{Line, lines, numbered}, Stanzas.{groups, readings, stanza_of}}
use Rattle.stanza_reader.specs.{declared.fault.StanzaFault.{StanzaFault}, declared.stanza.FieldKind.TheVariants.{Package, Version, Depends, Conflicts}}
use Rattle.stanza_reader.specs.{declared.stanza.RawField.{RawField}, declared.stanza.RawStanza.{RawStanza}}
use Rattle.stanza_reader.proofs.GroupLemmas.{groups-behind_blank, groups_first}
use Rattle.sample_suite.specs.{declared.package.SamplePackage.{SamplePackage}, SampleText.{needs_text, package_name, stanza_lines, stanza_text, stanzas_text}}
use Rattle.sample_suite.proofs.{Names.{IsSmall}, SampleLines.{AreSmall, IsSmallConflict, stanza_cut}, Values.{AreFilled, name_tight, needs_tight, tight_value}}
use Rattle.sample_suite.proofs.Drawn.{no_stanza, first_stanza}

-- the numbers of a package are small, and each of its elements has an alternative
pub record IsFit (p : SamplePackage) : Type 0 where
  pub needs : AreSmall p.needs
  pub filled : AreFilled p.needs
  pub conflict : IsSmallConflict p.conflict

-- the fields of a stanza that begins at a line
abbrev pub fields_at : ℕ → ℕ → List (List ℕ) → Option ℕ → List RawField
fields_at line n [] None =
    record { kind = Package; line = line; value = package_name n }
    ∷ record { kind = Version; line = line + 1; value = codes "1" } ∷ []
fields_at line n [] (Some conflict) =
    record { kind = Package; line = line; value = package_name n }
    ∷ record { kind = Version; line = line + 1; value = codes "1" }
    ∷ record { kind = Conflicts; line = line + 1 + 1; value = package_name conflict } ∷ []
fields_at line n (element ∷ more) None =
    record { kind = Package; line = line; value = package_name n }
    ∷ record { kind = Version; line = line + 1; value = codes "1" }
    ∷ record { kind = Depends; line = line + 1 + 1; value = needs_text (element ∷ more) } ∷ []
fields_at line n (element ∷ more) (Some conflict) =
    record { kind = Package; line = line; value = package_name n }
    ∷ record { kind = Version; line = line + 1; value = codes "1" }
    ∷ record { kind = Depends; line = line + 1 + 1; value = needs_text (element ∷ more) }
    ∷ record { kind = Conflicts; line = line + 1 + 1 + 1; value = package_name conflict } ∷ []

abbrev pub stanza_at_line : ℕ → ℕ → SamplePackage → RawStanza
stanza_at_line line n p = record { line = line; fields = fields_at line n p.needs p.conflict }

-- the line behind a stanza and its empty line
abbrev pub line_behind : ℕ → List (List ℕ) → Option ℕ → ℕ
line_behind line [] None = line + 1 + 1 + 1
line_behind line [] (Some conflict) = line + 1 + 1 + 1 + 1
line_behind line (element ∷ more) None = line + 1 + 1 + 1 + 1
line_behind line (element ∷ more) (Some conflict) = line + 1 + 1 + 1 + 1 + 1

unfoldable pub stanzas_from : ℕ → ℕ → List SamplePackage → List RawStanza
stanzas_from line n [] = []
stanzas_from line n (p ∷ more) = stanza_at_line line n p ∷ stanzas_from (line_behind line p.needs p.conflict) (n + 1) more

-- ---- the group of a stanza's lines

abbrev package_of : List (List ℕ) → Option ℕ → SamplePackage
package_of needs conflict = record { needs = needs; conflict = conflict }

abbrev lines_at : ℕ → ℕ → List (List ℕ) → Option ℕ → List Line
lines_at line n needs conflict = numbered line (stanza_lines n (package_of needs conflict))

abbrev all_at : ℕ → ℕ → List (List ℕ) → Option ℕ → List (List ℕ) → List Line
all_at line n needs conflict rest = numbered line (stanza_lines n (package_of needs conflict) ++ ([] ∷ rest))

behind_empty : (line : ℕ) (rest : List (List ℕ)) → groups (record { number = line; text = [] } ∷ numbered (line + 1) rest) ≡ groups (numbered (line + 1) rest)
behind_empty line rest = sym (groups-behind_blank (record { number = line; text = [] } ∷ numbered (line + 1) rest)) ∙ groups-behind_blank (numbered (line + 1) rest)

group_cut : (line n : ℕ) (needs : List (List ℕ)) (conflict : Option ℕ) (rest : List (List ℕ)) → groups (all_at line n needs conflict rest) ≡ lines_at line n needs conflict ∷ groups (numbered (line_behind line needs conflict) rest)
group_cut line n [] None rest = groups_first (all_at line n [] None rest) refl ∙ ap (λ gs. lines_at line n [] None ∷ gs) (behind_empty (line + 1 + 1) rest)
group_cut line n [] (Some conflict) rest = groups_first (all_at line n [] (Some conflict) rest) refl ∙ ap (λ gs. lines_at line n [] (Some conflict) ∷ gs) (behind_empty (line + 1 + 1 + 1) rest)
group_cut line n (element ∷ more) None rest = groups_first (all_at line n (element ∷ more) None rest) refl ∙ ap (λ gs. lines_at line n (element ∷ more) None ∷ gs) (behind_empty (line + 1 + 1 + 1) rest)
group_cut line n (element ∷ more) (Some conflict) rest =
    groups_first (all_at line n (element ∷ more) (Some conflict) rest) refl ∙ ap (λ gs. lines_at line n (element ∷ more) (Some conflict) ∷ gs) (behind_empty (line + 1 + 1 + 1 + 1) rest)

-- ---- the stanza of the group

abbrev untrimmed : List ℕ → List ℕ
untrimmed value = trimmed ((32 ∷ value) ++ [])

-- the same fields, before their values are trimmed
abbrev raw_fields : ℕ → ℕ → List (List ℕ) → Option ℕ → List RawField
raw_fields line n [] None =
    record { kind = Package; line = line; value = untrimmed (package_name n) }
    ∷ record { kind = Version; line = line + 1; value = codes "1" } ∷ []
raw_fields line n [] (Some conflict) =
    record { kind = Package; line = line; value = untrimmed (package_name n) }
    ∷ record { kind = Version; line = line + 1; value = codes "1" }
    ∷ record { kind = Conflicts; line = line + 1 + 1; value = untrimmed (package_name conflict) } ∷ []
raw_fields line n (element ∷ more) None =
    record { kind = Package; line = line; value = untrimmed (package_name n) }
    ∷ record { kind = Version; line = line + 1; value = codes "1" }
    ∷ record { kind = Depends; line = line + 1 + 1; value = untrimmed (needs_text (element ∷ more)) } ∷ []
raw_fields line n (element ∷ more) (Some conflict) =
    record { kind = Package; line = line; value = untrimmed (package_name n) }
    ∷ record { kind = Version; line = line + 1; value = codes "1" }
    ∷ record { kind = Depends; line = line + 1 + 1; value = untrimmed (needs_text (element ∷ more)) }
    ∷ record { kind = Conflicts; line = line + 1 + 1 + 1; value = untrimmed (package_name conflict) } ∷ []

abbrev read_as : ℕ → List RawField → Result RawStanza StanzaFault
read_as line fields = Ok (record { line = line; fields = fields })

raw_read : (line n : ℕ) (needs : List (List ℕ)) (conflict : Option ℕ) → stanza_of (lines_at line n needs conflict) ≡ read_as line (raw_fields line n needs conflict)
unfolding stanza_of
raw_read line n [] None = refl
raw_read line n [] (Some conflict) = refl
raw_read line n (element ∷ more) None = refl
raw_read line n (element ∷ more) (Some conflict) = refl

fields_are : (line n : ℕ) (needs : List (List ℕ)) (conflict : Option ℕ) → IsSmall n → IsFit (package_of needs conflict) → raw_fields line n needs conflict ≡ fields_at line n needs conflict
fields_are line n [] None small fit = rw (tight_value (package_name n) (name_tight n small)) refl
fields_are line n [] (Some conflict) small fit = rw (tight_value (package_name n) (name_tight n small), tight_value (package_name conflict) (name_tight conflict fit.conflict)) refl
fields_are line n (element ∷ more) None small fit =
    rw (tight_value (package_name n) (name_tight n small), tight_value (needs_text (element ∷ more)) (needs_tight element more fit.needs fit.filled)) refl
fields_are line n (element ∷ more) (Some conflict) small fit =
    rw (tight_value (package_name n) (name_tight n small), tight_value (needs_text (element ∷ more)) (needs_tight element more fit.needs fit.filled), tight_value (package_name conflict) (name_tight conflict fit.conflict)) refl

stanza_read : (line n : ℕ) (p : SamplePackage) → IsSmall n → IsFit p → stanza_of (lines_at line n p.needs p.conflict) ≡ Ok (stanza_at_line line n p)
stanza_read line n p small fit = raw_read line n p.needs p.conflict ∙ ap (read_as line) (fields_are line n p.needs p.conflict small fit)

-- ---- all stanzas

no_group : map stanza_of (groups []) ≡ []
unfolding groups
no_group = refl

read_from : (line n : ℕ) (all : List SamplePackage) → IsSmall (n + length all) → AllByRecursion IsFit all → map stanza_of (groups (numbered line (lines (stanzas_text n all)))) ≡ map Ok (stanzas_from line n all)
unfolding stanzas_from
read_from line n [] small fit = ap (λ text. map stanza_of (groups (numbered line (lines text)))) (no_stanza n) ∙ no_group
read_from line n (p ∷ more) small fit =
    let low : IsSmall n = omega (arith, small) in
    let later : IsSmall (n + 1 + length more) = omega (arith, small) in
    ap (λ text. map stanza_of (groups (numbered line (lines text)))) (first_stanza n p more)
    ∙ ap (λ ls. map stanza_of (groups (numbered line ls))) (stanza_cut n p (stanzas_text (n + 1) more) low fit.0.needs fit.0.conflict)
    ∙ ap (map stanza_of) (group_cut line n p.needs p.conflict (lines (stanzas_text (n + 1) more)))
    ∙ ap₂ (λ one others. one ∷ others) (stanza_read line n p low fit.0) (read_from (line_behind line p.needs p.conflict) (n + 1) more later fit.1)

-- the index is read as the stanzas of its packages, numbered from 0
pub sample_readings : (all : List SamplePackage) → IsSmall (length all) → AllByRecursion IsFit all → readings (stanzas_text 0 all) ≡ map Ok (stanzas_from 1 0 all)
unfolding readings
sample_readings all small fit = read_from 1 0 all (omega (arith, small)) fit
