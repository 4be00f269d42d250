-- What an element of a relation field says: Debian Policy 7.1, without its architecture and profile
-- restrictions, and deb-control(5) on qualifiers. Each reading is of a whole text, and gives
-- nothing if the text is outside the grammar.
use Rattle.std.specs.Prelude.{ℕ, Bool, true, false, ◌&&◌, ◌||◌, if◌then◌else◌, Option, Some, None}
use Rattle.std.specs.Prelude.{List, [], ◌∷◌, drop, codes}
use Rattle.std.specs.Char.{is_ascii_digit, is_ascii_lowercase}
use Rattle.std.specs.List.{list_all, take_while, prefix_len, filter_map}
use Rattle.std.specs.{Option.{is_some, option_map, option_map_or, option_and_then}, Str.{bytes_eq}}
use Rattle.deb_version.specs.{Names.{is_name, is_name_byte}, Grammar.{is_version}}
use Rattle.relation_fields.specs.declared.relations.Op.{Op}
use Rattle.relation_fields.specs.declared.relations.Op.TheVariants.{Earlier, EarlierEqual, Exactly}
use Rattle.relation_fields.specs.declared.relations.Op.TheVariants.{LaterEqual, Later}
use Rattle.relation_fields.specs.{declared.relations.Bound.{Bound}, declared.relations.Atom.{Atom}}
use Rattle.relation_fields.specs.declared.relations.Provide.{Provide}
use Rattle.relation_fields.specs.Texts.{trim_start, trim_both, behind_byte, before_byte, pieces}
use Rattle.relation_fields.specs.Texts.{is_architecture_byte, is_operator_byte}

-- the operators, and the two deprecated ones: `<` is read as `<=`, and `>` as `>=`
unfoldable pub op_of : List ℕ → Option Op
op_of text = if bytes_eq text (codes "<<") then Some Earlier else
    if bytes_eq text (codes "<=") then Some EarlierEqual else
    if bytes_eq text (codes "=") then Some Exactly else
    if bytes_eq text (codes ">=") then Some LaterEqual else
    if bytes_eq text (codes ">>") then Some Later else
    if bytes_eq text (codes "<") then Some EarlierEqual else
    if bytes_eq text (codes ">") then Some LaterEqual else None

-- a restriction's operator and version, if the text is a version
abbrev pub bound_at : List ℕ → Op → Option Bound
bound_at text op = if is_version text then Some (record { op = op; version = text }) else None

-- what is in the parentheses: an operator and a version, that may have white space around each
unfoldable pub bound_of : List ℕ → Option Bound
bound_of text =
    let inside = trim_start text in
    option_and_then (bound_at (trim_both (drop (prefix_len is_operator_byte inside) inside)))
    (op_of (take_while is_operator_byte inside))

-- what is between an opening parenthesis at the front and a closing one at the end
abbrev pub in_parentheses : List ℕ → Option (List ℕ)
in_parentheses text = option_and_then (before_byte 41) (behind_byte 40 text)

-- what follows a name and its qualifier, without white space at its ends: nothing, or a restriction
unfoldable pub restriction_of : List ℕ → Option (Option Bound)
restriction_of [] = Some None
restriction_of (c ∷ text) = option_map Some (option_and_then bound_of (in_parentheses (c ∷ text)))

-- the first byte is a lower-case letter or a digit
abbrev pub begins_architecture : List ℕ → Bool
begins_architecture [] = false
begins_architecture (first ∷ rest) = is_ascii_lowercase first || is_ascii_digit first

-- the name of an architecture: lower-case letters, digits and hyphens; the first is no hyphen
abbrev pub is_architecture : List ℕ → Bool
is_architecture text = begins_architecture text && list_all is_architecture_byte text

-- the longest front of bytes that may be in a name, and what follows it
unfoldable pub name_at : List ℕ → List ℕ
name_at text = take_while is_name_byte text

unfoldable pub behind_name : List ℕ → List ℕ
behind_name text = drop (prefix_len is_name_byte text) text

-- the qualifier, if a colon follows the name at once, and what follows the qualifier
unfoldable pub qualifier_at : List ℕ → Option (List ℕ)
qualifier_at text = option_map (take_while is_architecture_byte) (behind_byte 58 text)

unfoldable pub behind_qualifier : List ℕ → List ℕ
behind_qualifier text = option_map_or (λ behind.
    drop (prefix_len is_architecture_byte behind) behind) (behind_byte 58 text) text

abbrev pub atom_at : List ℕ → Option (List ℕ) → Option Bound → Atom
atom_at name qualifier bound = record { name = name; qualifier = qualifier; bound = bound }

-- a package name, then optionally a colon and a qualifier, then optionally a restriction
unfoldable pub atom_of : List ℕ → Option Atom
atom_of text =
    let front = trim_start text in
    let name = name_at front in
    let qualifier = qualifier_at (behind_name front) in
    if is_name name && option_map_or is_architecture qualifier true
    then option_map (atom_at name qualifier)
    (restriction_of (trim_both (behind_qualifier (behind_name front))))
    else None

-- what each text says, if each of them says something
abbrev pub each_of : {X : Type 0} → (List ℕ → Option X) → List (List ℕ) → Option (List X)
each_of one texts =
    if list_all (λ text. is_some (one text)) texts then Some (filter_map one texts) else None

-- a list of alternatives, which bars separate
unfoldable pub alternatives_of : List ℕ → Option (List Atom)
alternatives_of text = each_of atom_of (pieces 124 text)

-- a provide is written as an atom that has no restriction, or one whose operator is `=`
abbrev pub version_at : Atom → Bound → Op → Option Provide
version_at atom bound Exactly =
    Some (record { name = atom.name; qualifier = atom.qualifier; version = Some bound.version })
version_at atom bound Earlier = None
version_at atom bound EarlierEqual = None
version_at atom bound LaterEqual = None
version_at atom bound Later = None

abbrev pub provide_at : Atom → Option Bound → Option Provide
provide_at atom None =
    Some (record { name = atom.name; qualifier = atom.qualifier; version = None })
provide_at atom (Some bound) = version_at atom bound bound.op

unfoldable pub provide_of : List ℕ → Option Provide
provide_of text = option_and_then (λ atom. provide_at atom atom.bound) (atom_of text)
