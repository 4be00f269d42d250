-- The lines on standard error, the one on the size of a kernel, and what the lines of several
-- reports are made of.
use Rattle.std.specs.{Prelude.{ℕ, List, [], ◌∷◌, ◌++◌, codes}, Fmt.{decimal}}
use Rattle.relation_fields.specs.declared.packages.PackageFacts.{PackageFacts}
use Rattle.stanza_reader.specs.declared.fault.StanzaFault.{StanzaFault}
use Rattle.stanza_reader.specs.declared.fault.StanzaFault.TheVariants as shape
use Rattle.repo_model.specs.declared.fault.IndexFault.{IndexFault}
use Rattle.repo_model.specs.declared.fault.IndexFault.TheVariants.{Stanza, MissingPackage}
use Rattle.repo_model.specs.declared.fault.IndexFault.TheVariants.{MissingVersion, BadPackage}
use Rattle.repo_model.specs.declared.fault.IndexFault.TheVariants.{BadVersion, BadArchitecture}
use Rattle.repo_model.specs.declared.fault.IndexFault.TheVariants.{BadRelation, Duplicate, Mixed}
use Rattle.repo_model.specs.declared.fault.IndexFault.TheVariants.{TooMany, Memory}

-- a text and the line feed that ends its line
abbrev pub line_of_text : List ℕ → List ℕ
line_of_text text = text ++ 10 ∷ []

-- words and a number
abbrev pub counted_line : List ℕ → ℕ → List ℕ
counted_line words number = line_of_text (words ++ decimal number)

-- the line of a word and a name
abbrev pub single_text : List ℕ → List ℕ → List ℕ
single_text word name = line_of_text (word ++ codes " " ++ name)

-- the line of a word and two names, or a name and a version
abbrev pub pair_text : List ℕ → List ℕ → List ℕ → List ℕ
pair_text word first second = line_of_text (word ++ codes " " ++ first ++ codes " " ++ second)

-- a name and a version
abbrev pub versioned_text : List ℕ → List ℕ → List ℕ
versioned_text name version = name ++ codes " " ++ version

-- the last line of a report, with two numbers
abbrev pub end_text : ℕ → ℕ → List ℕ
end_text first second = line_of_text (codes "end " ++ decimal first ++ codes " " ++ decimal second)

-- a line about the file at a path
abbrev pub about : List ℕ → List ℕ → List ℕ
about path text = line_of_text (path ++ codes ": " ++ text)

unfoldable pub words_line : List ℕ
words_line = line_of_text (codes "words: not a command of coinst")

unfoldable pub unread_line : List ℕ → List ℕ
unread_line path = about path (codes "read failed")

unfoldable pub too_long_line : List ℕ → List ℕ
too_long_line path = about path (codes "longer than 1073741824 bytes")

unfoldable pub memory_line : List ℕ
memory_line = line_of_text (codes "out of memory")

-- how many bytes were written before the write failed
unfoldable pub cut_line : ℕ → List ℕ
cut_line written = line_of_text (codes "write failed after " ++ decimal written ++ codes " bytes")

-- what is wrong at a line of a file
abbrev pub at_line : ℕ → List ℕ → List ℕ
at_line line words = codes "line " ++ decimal line ++ codes ": " ++ words

-- what is wrong with the lines of a stanza
abbrev pub shape_text : StanzaFault → List ℕ
shape_text (shape.NoColon line) = at_line line (codes "no colon")
shape_text (shape.BadName line) = at_line line (codes "bad field name")
shape_text (shape.LoneContinuation line) = at_line line (codes "continuation before any field")
shape_text (shape.Repeated line) = at_line line (codes "field repeated")
shape_text shape.Memory = codes "out of memory"

-- what is wrong with an index
abbrev pub fault_text : IndexFault → List ℕ
fault_text (Stanza fault) = shape_text fault
fault_text (MissingPackage line) = at_line line (codes "no Package field")
fault_text (MissingVersion line) = at_line line (codes "no Version field")
fault_text (BadPackage line) = at_line line (codes "bad Package value")
fault_text (BadVersion line) = at_line line (codes "bad Version value")
fault_text (BadArchitecture line) = at_line line (codes "bad Architecture value")
fault_text (BadRelation line element) =
    at_line line (codes "bad relation, element ") ++ decimal element
fault_text (Duplicate first line) = at_line line (codes "same package as line ") ++ decimal first
fault_text (Mixed line) = at_line line (codes "second architecture")
fault_text TooMany = codes "more than 200000 packages"
fault_text Memory = codes "out of memory"

unfoldable pub fault_line : List ℕ → IndexFault → List ℕ
fault_line path fault = about path (fault_text fault)

-- which limit was passed, and when: in which round, counted from 1, and how many packages were gone
-- in it
abbrev pub stage_text : ℕ → ℕ → ℕ → List ℕ
stage_text limit round gone = codes "clause limit " ++ decimal limit ++ codes " passed: round "
    ++ decimal round ++ codes ", gone " ++ decimal gone

-- the package that passed it, and the number of its clauses
abbrev pub row_text : List ℕ → List ℕ → ℕ → List ℕ
row_text name version count =
    codes ", package " ++ name ++ codes " " ++ version ++ codes ", clauses " ++ decimal count

-- how large a kernel is
unfoldable pub size_line : ℕ → ℕ → ℕ → ℕ → List ℕ
size_line packages classes clauses conflicts =
    line_of_text (codes "packages " ++ decimal packages ++ codes " classes " ++ decimal classes
    ++ codes " clauses " ++ decimal clauses ++ codes " conflicts " ++ decimal conflicts)

unfoldable pub limit_line : List ℕ → ℕ → ℕ → ℕ → PackageFacts → ℕ → List ℕ
limit_line path limit round gone facts count =
    about path (stage_text limit round gone ++ row_text facts.name facts.version count)
