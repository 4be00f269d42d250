-- The JSON of a kernel: an object of the classes and the number of the format. Keys are in the
-- order of their bytes, there is no white space, and a line feed follows. In format 2 each class
-- says whether it is held.
use Rattle.std.specs.Prelude.{ℕ, Bool, true, false, eqb, List, [], ◌∷◌, ◌++◌, length, map, codes}
use Rattle.std.specs.{Prelude.{Option, Some, None, if◌then◌else◌}, Fmt.{decimal}}
use Rattle.row_book.specs.{Numbers.{numbers}, Repository.{Repository, clauses_of}}
use Rattle.listed.specs.Lists.{has}
use Rattle.kernel_text.specs.declared.member.Member.{Member}
use Rattle.kernel_text.specs.KernelText.{greater_conflicts, members_of}

-- a comma before each text
abbrev pub behind_commas : List (List ℕ) → List ℕ
behind_commas [] = []
behind_commas (x ∷ xs) = 44 ∷ (x ++ behind_commas xs)

-- the texts, with commas between them
abbrev pub with_commas : List (List ℕ) → List ℕ
with_commas [] = []
with_commas (x ∷ xs) = x ++ behind_commas xs

-- a list, between brackets
abbrev pub list_json : List (List ℕ) → List ℕ
list_json texts = codes "[" ++ (with_commas texts ++ codes "]")

abbrev pub numbers_json : List ℕ → List ℕ
numbers_json ns = list_json (map decimal ns)

-- a name or a version between quotes: they have no byte that JSON escapes
abbrev pub quoted_text : List ℕ → List ℕ
quoted_text text = codes "\"" ++ (text ++ codes "\"")

-- the name and the version of a package
abbrev pub package_json : List ℕ → List ℕ → List ℕ
package_json name version = list_json (quoted_text name ∷ (quoted_text version ∷ []))

abbrev pub member_json : Member → List ℕ
member_json m = package_json m.name m.version

-- in format 2 whether a class is held
abbrev pub held_mark : ℕ → List ℕ → ℕ → Option Bool
held_mark format held n = if eqb format 2 then Some (has held n) else None

abbrev pub bool_json : Bool → List ℕ
bool_json true = codes "true"
bool_json false = codes "false"

-- the key with whether the class is held, if that is said
abbrev pub mark_json : Option Bool → List ℕ
mark_json None = []
mark_json (Some held) = codes ",\"held\":" ++ bool_json held

-- an object of the parts of a class
abbrev pub object_json : List ℕ → Option Bool → List ℕ → List ℕ → List ℕ
object_json against mark members needs =
    codes "{\"against\":" ++ (against ++ (mark_json mark
    ++ (codes ",\"members\":" ++ (members ++ (codes ",\"needs\":" ++ (needs ++ codes "}"))))))

-- a class: the greater classes that it conflicts with, in format 2 whether it is held, its packages
-- and its clauses
unfoldable pub class_json : ℕ → Repository → List Member → List ℕ → ℕ → List ℕ
class_json format R members held n =
    object_json (numbers_json (greater_conflicts R n)) (held_mark format held n)
    (list_json (map member_json (members_of members n)))
    (list_json (map numbers_json (clauses_of R n)))

unfoldable pub kernel_json : ℕ → Repository → List Member → List ℕ → List ℕ
kernel_json format R members held =
    (codes "{\"classes\":"
    ++ (list_json (map (class_json format R members held) (numbers (length R.clauses) 0))
    ++ (codes ",\"format\":" ++ (decimal format ++ codes "}")))) ++ codes "\n"
