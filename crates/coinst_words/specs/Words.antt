-- What single words are: paths, numbers and goals.
use Rattle.std.specs.Prelude.{◌≤◌, ℕ, Bool, false, not, ◌&&◌, nat_le, List, [], ◌∷◌, length, Option}
use Rattle.std.specs.Prelude.{Some, None, codes, if◌then◌else◌, option_and_then, option_map}
use Rattle.std.specs.{Char.{is_ascii_digit}, List.{list_all}, Str.{bytes_eq}}
use Rattle.std.specs.Str.Parse.{digits_value}
use Rattle.coinst_words.specs.Usage.{Text}
use Rattle.repo_model.specs.{declared.goals.Goal.{Goal}, Goals.{goal_of}, Limits.{most_packages}}

-- a path is not empty and not `-`
abbrev pub is_path : Text → Bool
is_path word = not (bytes_eq word []) && not (bytes_eq word (codes "-"))

-- one to twenty digits; zeros may lead
abbrev pub is_number : Text → Bool
is_number word = nat_le 1 (length word) && (nat_le (length word) 20 && list_all is_ascii_digit word)

abbrev pub is_within : ℕ → ℕ → ℕ → Bool
is_within least most n = nat_le least n && nat_le n most

-- the number that a word gives, if it lies in a range
abbrev pub number_in : ℕ → ℕ → Text → Option ℕ
number_in least most word = if is_number word && is_within least most (digits_value 10 word)
    then Some (digits_value 10 word) else None

-- the number of an option, or the default if the option was not given
abbrev pub number_or : ℕ → ℕ → ℕ → Option Text → Option ℕ
number_or least most default None = Some default
number_or least most default (Some word) = number_in least most word

-- the numbers that a job may have, and their defaults
abbrev pub clause_limit_of : Option Text → Option ℕ
clause_limit_of = number_or 1 1000000 65536

abbrev pub budget_of : Option Text → Option ℕ
budget_of = number_or 1 1000000 10000

abbrev pub seed_of : Text → Option ℕ
seed_of = number_in 0 18446744073709551615

abbrev pub count_of : Text → Option ℕ
count_of = number_in 1 most_packages

-- the goals that words name, if each names one
unfoldable pub goals_of : List Text → Option (List Goal)
goals_of [] = Some []
goals_of (word ∷ words) =
    option_and_then (λ goal. option_map (λ goals. goal ∷ goals) (goals_of words)) (goal_of word)

-- goals, at least one
abbrev pub some_goals_of : List Text → Option (List Goal)
some_goals_of [] = None
some_goals_of (word ∷ words) = goals_of (word ∷ words)

-- whether a flag was given
abbrev pub is_on : Option Text → Bool
is_on None = false
is_on (Some word) = bytes_eq word (codes "true")

-- two paths
abbrev pub two_paths : List Text → Option (Text × Text)
two_paths (first ∷ second ∷ []) =
    if is_path first && is_path second then Some (first, second) else None
two_paths _ = None

-- the path of an index, and goals after it
abbrev pub index_and_goals : List Text → Option (Text × List Goal)
index_and_goals [] = None
index_and_goals (index ∷ words) =
    if is_path index then option_map (λ goals. (index, goals)) (some_goals_of words) else None

-- the limits that the numbers of a job keep
abbrev pub IsBetween : ℕ → ℕ → ℕ → Type 0
IsBetween least most n = (least ≤ n) × (n ≤ most)

abbrev pub IsClauseLimit : ℕ → Type 0
IsClauseLimit = IsBetween 1 1000000

abbrev pub IsBudget : ℕ → Type 0
IsBudget = IsBetween 1 1000000
