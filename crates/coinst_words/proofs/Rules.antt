-- What the arguments of a usage become when `clap` builds its command, and how they are found.
use Rattle.std.proofs.Common.{◌≡◌, ◌∙◌, ◌&&◌, ◌||◌, ℕ, Bool, cond, true, false, refl, ap, List, [], ◌∷◌, ◌++◌, map, Some, None, not, is_some}
use Rattle.std.proofs.{lemmas.Slice.Eq.{bytes_eq-Decides}, Math.Bool.{or-false}}
use Rattle.std.specs.{List.{find}, Str.{bytes_eq}}
use Rattle.listed.proofs.Lists.{same_bytes}
use Rattle.clap.specs.{Walk.{Rule, arg_by_id, arg_by_index, arg_by_long, arg_by_short, has_long}, Simple.{filled, filled_from, with_index}}
use Rattle.coinst_words.specs.{Usage.{Text, Usage, is_among}, Program.{flag_rule, rules_of_usage, valued_rule, words_rule}}

abbrev pub flag_built : Text → Rule
flag_built name = with_index 1 (filled (flag_rule name))

abbrev pub valued_built : Text → Rule
valued_built name = with_index 1 (filled (valued_rule name))

abbrev pub words_built : Rule
words_built = with_index 1 (filled words_rule)

abbrev pub rules_built : Usage → List Rule
rules_built u = map flag_built u.flags ++ (map valued_built u.valued ++ words_built ∷ [])

-- ---- building

flags_filled : (names : List Text) (more : List Rule) → filled_from 1 (map flag_rule names ++ more) ≡ map flag_built names ++ filled_from 1 more
flags_filled [] more = refl
flags_filled (name ∷ names) more = ap (λ rs. flag_built name ∷ rs) (flags_filled names more)

valued_filled : (names : List Text) (more : List Rule) → filled_from 1 (map valued_rule names ++ more) ≡ map valued_built names ++ filled_from 1 more
valued_filled [] more = refl
valued_filled (name ∷ names) more = ap (λ rs. valued_built name ∷ rs) (valued_filled names more)

pub rules_filled : (u : Usage) → filled_from 1 (rules_of_usage u) ≡ rules_built u
rules_filled u = flags_filled u.flags (map valued_rule u.valued ++ words_rule ∷ []) ∙ ap (λ rs. map flag_built u.flags ++ rs) (valued_filled u.valued (words_rule ∷ []))

-- ---- finding by the long name

-- a list of options with these names
pub record Makes (make : Text → Rule) : Type 0 where
  pub id : (n : Text) → (make n).id ≡ n
  pub long : (n : Text) → (make n).long ≡ Some n
  pub aliases : (n : Text) → (make n).aliases ≡ []
  pub short : (n : Text) → (make n).short ≡ None
  pub short_aliases : (n : Text) → (make n).short_aliases ≡ []
  pub index : (n : Text) → (make n).index ≡ None

flag_makes : Makes flag_built
flag_makes = record { id = λ n. refl; long = λ n. refl; aliases = λ n. refl; short = λ n. refl; short_aliases = λ n. refl; index = λ n. refl }

valued_makes : Makes valued_built
valued_makes = record { id = λ n. refl; long = λ n. refl; aliases = λ n. refl; short = λ n. refl; short_aliases = λ n. refl; index = λ n. refl }

find_among : (make : Text → Rule) (test : Rule → Bool) (name : Text) → ((n : Text) → test (make n) ≡ bytes_eq n name)
    → (names : List Text) (more : List Rule) → find test (map make names ++ more) ≡ cond (is_among names name) (Some (make name)) (find test more)
find_among make test name same [] more = refl
find_among make test name same (x ∷ names) more = go (bytes_eq x name) refl (find_among make test name same names more)
  where
    go : (b : Bool) → bytes_eq x name ≡ b
        → find test (map make names ++ more) ≡ cond (is_among names name) (Some (make name)) (find test more)
        → find test (map make (x ∷ names) ++ more) ≡ cond (is_among (x ∷ names) name) (Some (make name)) (find test more)
    go true e rest =
        let hit : test (make x) ≡ true = same x ∙ e in
        rw (hit, e) (ap (λ n. Some (make n)) (same_bytes x name e))
    go false e rest =
        let miss : test (make x) ≡ false = same x ∙ e in
        rw (miss, e) rest

long_is : (make : Text → Rule) (m : Makes make) (name n : Text) → (not (is_some (make n).index) && has_long (make n) name) ≡ bytes_eq n name
long_is make m name n = rw (m.index n, m.long n, m.aliases n) (or-false (bytes_eq n name))

long_among : (make : Text → Rule) (m : Makes make) (names : List Text) (more : List Rule) (name : Text)
    → arg_by_long (map make names ++ more) name ≡ cond (is_among names name) (Some (make name)) (arg_by_long more name)
long_among make m names more name = find_among make (λ a. not (is_some a.index) && has_long a name) name (long_is make m name) names more

pub found_by_long : (u : Usage) (name : Text)
    → arg_by_long (rules_built u) name ≡ cond (is_among u.flags name) (Some (flag_built name)) (cond (is_among u.valued name) (Some (valued_built name)) None)
found_by_long u name = long_among flag_built flag_makes u.flags (map valued_built u.valued ++ words_built ∷ []) name
    ∙ ap (λ o. cond (is_among u.flags name) (Some (flag_built name)) o) (long_among valued_built valued_makes u.valued (words_built ∷ []) name)

-- ---- finding by the id

id_among : (make : Text → Rule) (m : Makes make) (names : List Text) (more : List Rule) (name : Text)
    → arg_by_id (map make names ++ more) name ≡ cond (is_among names name) (Some (make name)) (arg_by_id more name)
id_among make m names more name = find_among make (λ a. bytes_eq a.id name) name (λ n. ap (λ i. bytes_eq i name) (m.id n)) names more

pub found_by_id : (u : Usage) (name : Text)
    → arg_by_id (rules_built u) name ≡ cond (is_among u.flags name) (Some (flag_built name)) (cond (is_among u.valued name) (Some (valued_built name)) (arg_by_id (words_built ∷ []) name))
found_by_id u name = id_among flag_built flag_makes u.flags (map valued_built u.valued ++ words_built ∷ []) name
    ∙ ap (λ o. cond (is_among u.flags name) (Some (flag_built name)) o) (id_among valued_built valued_makes u.valued (words_built ∷ []) name)

-- ---- finding by the position

index_behind : (make : Text → Rule) (m : Makes make) (names : List Text) (more : List Rule) → arg_by_index (map make names ++ more) 1 ≡ arg_by_index more 1
index_behind make m [] more = refl
index_behind make m (x ∷ names) more = rw (m.index x) (index_behind make m names more)

pub found_by_index : (u : Usage) → arg_by_index (rules_built u) 1 ≡ Some words_built
found_by_index u = index_behind flag_built flag_makes u.flags (map valued_built u.valued ++ words_built ∷ []) ∙ index_behind valued_built valued_makes u.valued (words_built ∷ [])

-- ---- finding by a letter

short_behind : (make : Text → Rule) (m : Makes make) (names : List Text) (more : List Rule) (c : ℕ) → arg_by_short (map make names ++ more) c ≡ arg_by_short more c
short_behind make m [] more c = refl
short_behind make m (x ∷ names) more c = rw (m.index x, m.short x, m.short_aliases x) (short_behind make m names more c)

pub found_by_short : (u : Usage) (c : ℕ) → arg_by_short (rules_built u) c ≡ None
found_by_short u c = short_behind flag_built flag_makes u.flags (map valued_built u.valued ++ words_built ∷ []) c ∙ short_behind valued_built valued_makes u.valued (words_built ∷ []) c
