-- What the words of a command line say, for commands that each take some options and other words.
use Rattle.std.specs.Prelude.{ℕ, Bool, List, [], ◌∷◌, ◌++◌, Option, Some, None, is_some, find}
use Rattle.std.specs.{Prelude.{codes, if◌then◌else◌, option_and_then, option_map}, List.{list_any}}
use Rattle.std.specs.Str.{bytes_eq}
use Rattle.clap.specs.Lexer.{long_of, short_of}

abbrev pub Text : Type 0
Text = List ℕ

-- a command: its name, its options without a value, and those with one; it takes other words too
pub record Usage : Type 0 where
  pub name : Text
  pub flags : List Text
  pub valued : List Text

-- what the words after a command's name say: the options with their values, and the ordinary words,
-- each in order
pub record Said : Type 0 where
  pub given : List (Text × Text)
  pub ordinary : List Text

abbrev pub nothing_said : Said
nothing_said = record { given = []; ordinary = [] }

-- what a word before `--` is
pub data Meaning : Type 0 where
  -- `--` itself: all words after it are ordinary
  ends : Meaning
  -- `--name` of an option without a value
  flag : Text → Meaning
  -- `--name=value`
  gives : Text → Text → Meaning
  -- `--name` of an option with a value, which is the next word
  asks : Text → Meaning
  -- an ordinary word
  plain : Meaning
  refused : Meaning

abbrev pub is_among : List Text → Text → Bool
is_among names name = list_any (λ x. bytes_eq x name) names

-- `--name` and `--name=value`: the name is written whole, and there is a value exactly if the
-- option has one
abbrev pub option_meaning : Usage → Text → Option Text → Meaning
option_meaning u name None = if is_among u.flags name then flag name
    else (if is_among u.valued name then asks name else refused)
option_meaning u name (Some value) = if is_among u.flags name then refused
    else (if is_among u.valued name then gives name value else refused)

-- any other word is refused if it begins with `-` and is longer than that
abbrev pub dashed_or_plain : Option Text → Meaning
dashed_or_plain None = plain
dashed_or_plain (Some letters) = refused

abbrev pub long_or_other : Usage → Text → Option (Text × Option Text) → Meaning
long_or_other u word (Some p) = option_meaning u p.0 p.1
long_or_other u word None = dashed_or_plain (short_of word)

abbrev pub meaning_of : Usage → Text → Meaning
meaning_of u word = if bytes_eq word (codes "--") then ends else long_or_other u word (long_of word)

-- the value that an option was given
abbrev pub value_of : Text → List (Text × Text) → Option Text
value_of name given = option_map (λ p. p.1) (find (λ p. bytes_eq p.0 name) given)

-- an option is given at most once
abbrev pub give : Text → Text → Said → Option Said
give name value said = if is_some (value_of name said.given) then None
    else Some (record said { given = said.given ++ (name, value) ∷ [] })

abbrev pub say : List Text → Said → Said
say words said = record said { ordinary = said.ordinary ++ words }

-- One word, by what it means and by whether an option waits for its value. A value that is a word
-- of its own is no option; a lone `-` is not an option, nor a number or a path. A flag that is
-- given has the value `true`, as in the parser.
abbrev pub read_word : Usage → Meaning → Text → Said → Option Text → List Text →
    (Said → Option Text → Option Said) → Option Said
read_word u plain word said (Some name) rest next =
    option_and_then (λ s. next s None) (give name word said)
read_word u _ word said (Some name) rest next = None
read_word u ends word said None rest next = Some (say rest said)
read_word u (flag name) word said None rest next =
    option_and_then (λ s. next s None) (give name (codes "true") said)
read_word u (gives name value) word said None rest next =
    option_and_then (λ s. next s None) (give name value said)
read_word u (asks name) word said None rest next = next said (Some name)
read_word u plain word said None rest next = next (say (word ∷ []) said) None
read_word u refused word said None rest next = None

-- at the end no option waits
abbrev pub read_end : Said → Option Text → Option Said
read_end said None = Some said
read_end said (Some name) = None

-- what the words say after what was said before, with the option that waits for its value
unfoldable pub read : Usage → Said → Option Text → List Text → Option Said
read u said waiting [] = read_end said waiting
read u said waiting (word ∷ rest) =
    read_word u (meaning_of u word) word said waiting rest (λ s w. read u s w rest)

-- the first word is a command's name, written whole, and the others say what it is to do
abbrev pub said_by : Option Usage → List Text → Option (Usage × Said)
said_by None words = None
said_by (Some u) words = option_map (λ said. (u, said)) (read u nothing_said None words)

abbrev pub said_of : List Usage → List Text → Option (Usage × Said)
said_of all [] = None
said_of all (name ∷ words) = said_by (find (λ u. bytes_eq u.name name) all) words
