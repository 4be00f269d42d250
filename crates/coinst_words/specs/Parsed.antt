-- for the bodies of this crate alone
-- Words were parsed by `clap`: how its matches hold what the words say.
use Rattle.std.specs.Prelude.{◌≡◌, true, false, List, [], ◌∷◌, Option, Some, None, codes}
use Rattle.std.specs.{Prelude.{option_map, unwrap_or}, Str.{bytes_eq}}
use Rattle.clap.specs.{Walk.{Row, all_of}, Simple.{subcommand_rows_of}}
use Rattle.clap.specs.{Matches.{matched_of, raw_values}, declared.parser.matches.Found.{Found}}
use Rattle.clap.specs.declared.parser.matches.ArgMatches.{ArgMatches}
use Rattle.coinst_words.specs.Usage.{Said, Text, Usage, is_among, value_of}

-- a row has at least one value
abbrev pub row_values : List Text → Option (List Text)
row_values [] = None
row_values (x ∷ xs) = Some (x ∷ xs)

-- the rows have what was said, and `false` for a flag that was not given
pub record HoldSaid (u : Usage) (rows : List Row) (said : Said) : Type 0 where
  pub valued : (name : Text) → bytes_eq name (codes "words") ≡ false →
      is_among u.flags name ≡ false →
      all_of name rows ≡ option_map (λ v. v ∷ []) (value_of name said.given)
  pub flags : (name : Text) → bytes_eq name (codes "words") ≡ false → is_among u.flags name ≡ true →
      all_of name rows ≡ Some (unwrap_or (value_of name said.given) (codes "false") ∷ [])
  pub ordinary : all_of (codes "words") rows ≡ row_values said.ordinary

-- the parse entered the command, with what was said
abbrev pub Enters : Option (Usage × Said) → ArgMatches → Type 0
Enters None m = ⊥
Enters (Some p) m =
    (rows : List Row) × (subcommand_rows_of m ≡ Some (p.0.name, rows)) × HoldSaid p.0 rows p.1

-- the ordinary words that were found
abbrev pub words_in : Found → List Text
words_in f = unwrap_or (option_map raw_values (matched_of f (codes "words"))) []
