-- When an index is refused.
use Rattle.std.specs.Prelude.{◌≡◌, ⊤, Bool, true, false, Option, Some, None, Result, Ok, Err}
use Rattle.repo_model.specs.declared.fault.IndexFault.{IndexFault}
use Rattle.repo_model.specs.declared.fault.IndexFault.TheVariants.{Stanza, MissingPackage}
use Rattle.repo_model.specs.declared.fault.IndexFault.TheVariants.{MissingVersion, BadPackage}
use Rattle.repo_model.specs.declared.fault.IndexFault.TheVariants.{BadVersion, BadArchitecture}
use Rattle.repo_model.specs.declared.fault.IndexFault.TheVariants.{BadRelation, Duplicate, Mixed}
use Rattle.repo_model.specs.declared.fault.IndexFault.TheVariants.{TooMany, Memory}

-- a fact for each fault of an index, and none for want of memory
abbrev pub UnlessMemory : IndexFault → Type 0 → Type 0
UnlessMemory (Stanza fault) P = P
UnlessMemory (MissingPackage line) P = P
UnlessMemory (MissingVersion line) P = P
UnlessMemory (BadPackage line) P = P
UnlessMemory (BadVersion line) P = P
UnlessMemory (BadArchitecture line) P = P
UnlessMemory (BadRelation line element) P = P
UnlessMemory (Duplicate first_line line) P = P
UnlessMemory (Mixed line) P = P
UnlessMemory TooMany P = P
UnlessMemory Memory P = ⊤

-- a refusal is the fault that is there, unless memory ran out
abbrev pub Refuses : IndexFault → Option IndexFault → Type 0
Refuses fault there = UnlessMemory fault (there ≡ Some fault)

-- an answer is this value if there is no fault, and otherwise a refusal
abbrev pub Answers : {X : Type 0} → Result X IndexFault → Option IndexFault → X → Type 0
Answers (Ok x) there value = (there ≡ None) × (x ≡ value)
Answers (Err fault) there value = Refuses fault there

-- whether a refusal is want of memory
abbrev pub is_memory : IndexFault → Bool
is_memory (Stanza fault) = false
is_memory (MissingPackage line) = false
is_memory (MissingVersion line) = false
is_memory (BadPackage line) = false
is_memory (BadVersion line) = false
is_memory (BadArchitecture line) = false
is_memory (BadRelation line element) = false
is_memory (Duplicate first_line line) = false
is_memory (Mixed line) = false
is_memory TooMany = false
is_memory Memory = true
