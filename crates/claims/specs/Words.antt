-- The words of the commands, with their options in one order and each number as a word of its own.
-- `run` takes other spellings too.
use Rattle.std.specs.Prelude.{◌≡◌, ℕ, Bool, false, get_or, ◌==◌, List, [], ◌∷◌, ◌++◌, Option, codes}
use Rattle.std.specs.{Prelude.{if◌then◌else◌}, Fmt.{decimal}, Option.{option_map_or}}
use Rattle.listed.specs.Lists.{In}
use Rattle.coinst_words.specs.Usage.{Text}

-- an option with a number, or nothing
abbrev pub number_words : Text → Option ℕ → List Text
number_words option n = option_map_or (λ m. option ∷ decimal m ∷ []) n []

-- the words of a command: its options, and then its other words
abbrev pub asking_words : Text → Option ℕ → Option ℕ → Bool → List Text → List Text
asking_words command budget limit hold words =
    command ∷ (number_words (codes "--budget") budget
    ++ (number_words (codes "--clause-limit") limit
    ++ ((if hold then codes "--hold" ∷ [] else []) ++ words)))

-- those of a query of a stored kernel
abbrev pub stored_words : Option ℕ → Text → List Text → List Text
stored_words budget kernel goals =
    codes "query" ∷ codes "--kernel" ∷ kernel ∷ (number_words (codes "--budget") budget ++ goals)

-- none of the words begins with a hyphen, 45, as options do; an empty word counts as 0
abbrev pub AreOrdinary : List Text → Type 0
AreOrdinary words = (word : Text) → In word words → (get_or word 0 0 == 45) ≡ false
