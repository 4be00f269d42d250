-- for the bodies of this crate alone
-- Stanzas that are taken one after the other, up to 200,000 of them.
use Rattle.std.specs.Prelude.{ℕ, nat_le, if◌then◌else◌, List, Option, Some, length}
use Rattle.stanza_reader.specs.declared.stanza.RawStanza.{RawStanza}
use Rattle.relation_fields.specs.declared.packages.PackageFacts.{PackageFacts}
use Rattle.repo_model.specs.{FirstFault.{stanza_fault}, Limits.{most_packages}}
use Rattle.repo_model.specs.declared.fault.IndexFault.{IndexFault}
use Rattle.repo_model.specs.declared.fault.IndexFault.TheVariants.{TooMany}

-- a stanza after these packages is one too many, or else has a fault of its own or with them
abbrev pub next_fault : List PackageFacts → Option (List ℕ) → RawStanza → Option IndexFault
next_fault before home stanza =
    if nat_le most_packages (length before) then Some TooMany else stanza_fault before home stanza
