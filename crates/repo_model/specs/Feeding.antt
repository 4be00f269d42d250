-- An index that is read in pieces: what was read of it, and the texts that this stands for.
use Rattle.std.specs.Prelude.{◌≡◌, ℕ, ◌+◌, ◌≤◌, Bool, false, List, [], ◌++◌, length, map, count_by}
use Rattle.std.specs.Prelude.{Option, Some, None, Result, Ok, Err, ⊤}
use Rattle.std.specs.Coded.{Coded-set, coded_list, coded_ℕ, Unit-prop, le_prop}
use Rattle.stanza_reader.specs.{Close.{IsClosed}, Lines.{is_line_feed}}
use Rattle.relation_fields.specs.declared.packages.PackageFacts.{PackageFacts}
use Rattle.repo_model.specs.{Facts.{facts_of}, FirstFault.{first_fault, home_of, stanzas_of}}
use Rattle.repo_model.specs.Refusals.{UnlessMemory, is_memory}
use Rattle.repo_model.specs.declared.building.Building.{Building}
use Rattle.repo_model.specs.declared.fault.IndexFault.{IndexFault}
use Rattle.repo_model.specs.declared.progress.Progress.{Progress}

-- an index without a fault, with its packages and their common architecture
pub record IsSuiteOf (text : List ℕ) (packages : List PackageFacts)
    (home : Option (List ℕ)) : Type 0 where
  pub fine : first_fault text ≡ None
  pub facts : packages ≡ map facts_of (stanzas_of text)
  pub common : home ≡ home_of (stanzas_of text)

-- The front of an index was read. It is empty or ends with a blank line that ends with a line feed,
-- and the line after it has this number.
pub record IsFront (building : Building) (line : ℕ) (front : List ℕ) : Type 0 where
  pub closed : IsClosed front
  pub suite : IsSuiteOf front building.packages building.home.name
  pub counted : line ≡ 1 + count_by is_line_feed front

-- a text is a front that was read, followed by the pending bytes
pub record IsProgress (progress : Progress) (text : List ℕ) : Type 0 where
  pub front : List ℕ
  pub whole : text ≡ front ++ progress.pending.items
  pub read : IsFront progress.building progress.line front

-- the text has the fault, whatever follows it
abbrev pub HasFault : IndexFault → List ℕ → Type 0
HasFault fault text = (more : List ℕ) → first_fault (text ++ more) ≡ Some fault

-- What was read stands for a text. Without a fault the text is a front and the pending bytes.
-- Otherwise it has the fault, whatever follows it.
abbrev pub StandsFor : Result Progress IndexFault → List ℕ → Type 0
StandsFor (Ok progress) text = IsProgress progress text
StandsFor (Err fault) text = HasFault fault text

-- what was read stands for a text, unless memory ran out
abbrev pub StandsUnlessMemory : Result Progress IndexFault → List ℕ → Type 0
StandsUnlessMemory (Ok progress) text = IsProgress progress text
StandsUnlessMemory (Err fault) text = UnlessMemory fault (HasFault fault text)

-- memory ran out
abbrev pub is_spent : Result Progress IndexFault → Bool
is_spent (Ok progress) = false
is_spent (Err fault) = is_memory fault

-- no front of a text is closed, but for the empty one: what is in it may go on
pub record IsOpen (text : List ℕ) : Type 0 where
  pub fronts : (front rest : List ℕ) → text ≡ front ++ rest → IsClosed front → front ≡ []

-- of the bytes that were taken only those of the open stanza are held
abbrev pub HoldsOpen : Result Progress IndexFault → Type 0
HoldsOpen (Ok progress) = IsOpen progress.pending.items
HoldsOpen (Err fault) = ⊤

-- the pending bytes and the lines before them are together at most one more than the bytes that
-- were taken
abbrev pub FitsWithin : ℕ → Result Progress IndexFault → Type 0
FitsWithin taken (Ok progress) = progress.line + length progress.pending.items ≤ taken + 1
FitsWithin taken (Err fault) = ⊤

-- These facts have one proof at most each, so that a feed may keep them.
pub FitsWithin-prop : (taken : ℕ) (reading : Result Progress IndexFault) →
    IsProp (FitsWithin taken reading)
FitsWithin-prop taken (Ok progress) = le_prop
FitsWithin-prop taken (Err fault) = Unit-prop

IsOpen-prop : (text : List ℕ) → IsProp (IsOpen text)
IsOpen-prop text =
    let each : (front : List ℕ) → IsProp (front ≡ []) =
    λ front. Coded-set (coded_list coded_ℕ) front [] in
    hlevel each

pub HoldsOpen-prop : (reading : Result Progress IndexFault) → IsProp (HoldsOpen reading)
HoldsOpen-prop (Ok progress) = IsOpen-prop progress.pending.items
HoldsOpen-prop (Err fault) = Unit-prop
