-- The text of the own packages of a status file, and the fault of the file.
use Rattle.std.proofs.{Common.{◌≡◌, ℕ, Bool, List, [], ◌∷◌, length, map, Some, None, Ok, Err, refl, ap, sym, ◌∙◌}, lemmas.List.{length-map}}
use Rattle.std.specs.{Option.{option_map}, Result.{result_err}}
use Rattle.stanza_reader.specs.{Blanking.{blanked, picked}, Stanzas.{readings, stanzas}, declared.fault.StanzaFault.{StanzaFault}}
use Rattle.stanza_reader.specs.declared.stanza.RawStanza.{RawStanza}
use Rattle.stanza_reader.proofs.BlankLemmas.{good, good_readings, stanzas_picked}
use Rattle.relation_fields.specs.declared.packages.Home.{Home}
use Rattle.repo_model.specs.{FirstFault.{stanzas_in, stanzas_of}, declared.fault.IndexFault.TheVariants.{Stanza}}
use Rattle.status_check.specs.{Installed.{is_own}, Own.{file_fault, own_stanzas_text}}

pub stanzas_good : (all : List RawStanza) → stanzas_in (map good all) ≡ all
stanzas_good [] = refl
stanzas_good (stanza ∷ more) = ap (λ rest. stanza ∷ rest) (stanzas_good more)

-- where the lines have no fault, these are the stanzas
pub all_stanzas : (file : List ℕ) (all : List RawStanza) → stanzas file ≡ Ok all → stanzas_of file ≡ all
unfolding stanzas_of
all_stanzas file all e = ap stanzas_in (good_readings (readings file) all e) ∙ stanzas_good all

pub lines_fine : (file : List ℕ) (all : List RawStanza) → stanzas file ≡ Ok all → file_fault file ≡ None
lines_fine file all e = ap (λ read. option_map Stanza (result_err read)) e

pub lines_faulty : (file : List ℕ) (fault : StanzaFault) → stanzas file ≡ Err fault → file_fault file ≡ Some (Stanza fault)
lines_faulty file fault e = ap (λ read. option_map Stanza (result_err read)) e

pub flags_many : (home : Home) (all : List RawStanza) (flags : List Bool) → flags ≡ map (is_own home) all → length flags ≡ length all
flags_many home all flags is = ap length is ∙ length-map all (is_own home)

-- the text of the own packages has the stanzas whose flags are up
pub own_stanzas : (home : Home) (file : List ℕ) (all : List RawStanza) (flags : List Bool) → stanzas file ≡ Ok all → flags ≡ map (is_own home) all → stanzas (own_stanzas_text home file) ≡ Ok (picked flags all)
unfolding own_stanzas_text
own_stanzas home file all flags e is =
    ap (λ fs. stanzas (blanked fs file)) (ap (map (is_own home)) (all_stanzas file all e) ∙ sym is) ∙ stanzas_picked file flags all e
