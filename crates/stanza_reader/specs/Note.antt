-- for the bodies of this crate alone
-- The names of the field lines so far, as they are noted one by one.
use Rattle.std.specs.Prelude.{◌≡◌, ℕ, ◌+◌, ◌-◌, ◌*◌, ◌/◌, ◌^◌, ◌%◌, ◌<◌, false, ◌||◌, ◌==◌, nat_lt}
use Rattle.std.specs.Prelude.{bit_and, bit_or, List, [], ◌∷◌, ◌++◌, length, slice_index, map}
use Rattle.std.specs.{Prelude.{Option, None, if◌then◌else◌}, Int.{w32, from_be_bytes}}
use Rattle.std.specs.{BTreeSet.{BTreeSet, contains}, Cmp.Lexicographic.{slice_cmp}, List.{list_any}}
use Rattle.std.specs.{Option.{option_or}, Ordering.{nat_cmp}, Str.{bytes_eq}}
use Rattle.std.specs.{declared.cmp.Ordering.{Ordering}, declared.vec.Vec.{Vec}}
use Rattle.stanza_reader.specs.{Fields.{lowered, name_of}, Lines.{Line, is_continuation}}
use Rattle.stanza_reader.specs.Stanzas.{has_name, repeat_fault}
use Rattle.stanza_reader.specs.declared.fault.StanzaFault.{StanzaFault}
use Rattle.stanza_reader.specs.{declared.note.KeyedName.{KeyedName}, declared.note.Names.{Names}}

-- a number of a text, below 2 ^ 32
abbrev pub key_from : ℕ → List ℕ → ℕ
key_from key [] = key
key_from key (b ∷ bs) = key_from ((((key * 31) % 2 ^ 32) + b) % 2 ^ 32) bs

-- the number of a long text, made of all its bytes
abbrev pub long_key : List ℕ → ℕ
long_key text = key_from 0 text

-- a byte with one value for both cases of a letter
abbrev pub folded : ℕ → ℕ
folded b = bit_or b 32

-- the number of a short text: its first byte, one in the middle, the last one and its length
unfoldable pub short_key : List ℕ → ℕ
short_key text =
    from_be_bytes w32
    (folded (slice_index text 0) ∷ folded (slice_index text (length text / 2))
    ∷ folded (slice_index text (length text - 1)) ∷ length text ∷ [])

-- the number of a text; a text of at most 16 bytes is short
abbrev pub number_of : List ℕ → ℕ
number_of text =
    if length text == 0 || nat_lt 16 (length text) then long_key text else short_key text

-- the number of a name, without regard to the case of letters
abbrev pub key_of : List ℕ → ℕ
key_of name = number_of (lowered name)

abbrev pub IsKeyed : KeyedName → Type 0
IsKeyed one = one.key ≡ key_of one.name.now

-- the mark of a number, which is one of 64 bits, and the place of that bit
abbrev pub mark_place : ℕ → ℕ
mark_place key = (key * 2654435769) % 2 ^ 32 / 2 ^ 26

unfoldable pub mark_of : ℕ → ℕ
mark_of key = 2 ^ mark_place key

-- the mark of the name's number is up
abbrev pub IsMarked : ℕ → KeyedName → Type 0
IsMarked marks one = bit_and marks (mark_of one.key) ≡ mark_of one.key

abbrev pub names_in : List KeyedName → List (List ℕ)
names_in few = map (λ one. one.name.now) few

abbrev pub by_text : {A : Type 0} → Vec ℕ A → Vec ℕ A → Ordering
by_text x y = slice_cmp nat_cmp x.items y.items

-- the set has exactly these names, in lower case
abbrev pub HasNames : {A : Type 0} → BTreeSet (Vec ℕ A) → List (List ℕ) → Type 0
HasNames {A} set names = (q : Vec ℕ A) →
    contains by_text set q ≡ list_any (λ name. bytes_eq (lowered name) q.items) names

-- The names that are held are these, in any order. The set has some only if 64 are compared one by
-- one.
pub record Holds (names : Names) (before : List (List ℕ)) : Type 0 where
  pub others : List (List ℕ)
  pub in_set : HasNames names.others others
  pub behind : length names.few.items < 64 → others ≡ []
  pub same : (q : List ℕ) → has_name (names_in names.few.items ++ others) q ≡ has_name before q

-- The names, and then the lines that are left, lead to this repeated one.
pub record LeadsTo (names : Names) (left : List Line) (fault : Option StanzaFault) : Type 0 where
  pub before : List (List ℕ)
  pub held : names.repeat ≡ None → Holds names before
  pub found : option_or names.repeat (repeat_fault before left) ≡ fault

-- A field line with this name and number was noted, and is no longer left.
abbrev pub IsNoted : Names → Names → List ℕ → ℕ → Type 0
IsNoted old new name number = (text : List ℕ) (more : List Line) (fault : Option StanzaFault) →
    name_of text ≡ name → is_continuation text ≡ false
    → LeadsTo old (record { number = number; text = text } ∷ more) fault → LeadsTo new more fault
