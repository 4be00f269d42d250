-- Goals that are read word by word.
use Rattle.std.proofs.Common.{◌≡◌, ◌∙◌, ◌<◌, ◌+◌, ℕ, zero, suc, refl, sym, ap, subst, List, [], ◌∷◌, ◌++◌, map, take, length, get_or, Option, Some, None}
use Rattle.std.proofs.{Common.{Result, Ok, Err, IfErr, arith}, lemmas.List.{map-append, take_more}}
use Rattle.std.specs.{Prelude.{IsErrAnd, option_and_then}, Borrow.{Bor}, Option.{option_map}}
use Rattle.coinst_words.specs.{Words.{goals_of, some_goals_of}, Refusals.{OnNotACommand}, declared.error.WordError.{WordError}}
use Rattle.coinst_words.specs.{declared.error.WordError.TheVariants.{NotACommand, Memory}, Usage.{Text}}
use Rattle.repo_model.specs.{declared.goals.Goal.{Goal}, Goals.{goal_of}}

abbrev with_goals : Option Goal → Option (List Goal) → Option (List Goal)
with_goals goal goals = option_and_then (λ g. option_map (λ gs. g ∷ gs) goals) goal

first_goal : (word : Text) (words : List Text) → goals_of (word ∷ words) ≡ with_goals (goal_of word) (goals_of words)
unfolding goals_of
first_goal word words = refl

-- no goals
pub no_goals : goals_of [] ≡ Some []
unfolding goals_of
no_goals = refl

-- one more word behind those that were read
goals_of-end : (words : List Text) (word : Text) (goals : List Goal) (goal : Goal) → goals_of words ≡ Some goals → goal_of word ≡ Some goal → goals_of (words ++ word ∷ []) ≡ Some (goals ++ goal ∷ [])
goals_of-end [] word goals goal e f =
    first_goal word [] ∙ ap (λ o. with_goals o (goals_of [])) f ∙ ap (with_goals (Some goal)) no_goals
    ∙ ap (λ o. option_map (λ gs. gs ++ goal ∷ []) o) (sym no_goals ∙ e)
goals_of-end (x ∷ words) word goals goal e f =
    first_goal x (words ++ word ∷ []) ∙ go (goal_of x) (goals_of words) (λ gs d. goals_of-end words word gs goal d f) (sym (first_goal x words) ∙ e)
  where
    go : (o : Option Goal) (p : Option (List Goal)) → ((gs : List Goal) → p ≡ Some gs → goals_of (words ++ word ∷ []) ≡ Some (gs ++ goal ∷ [])) → with_goals o p ≡ Some goals
        → with_goals o (goals_of (words ++ word ∷ [])) ≡ Some (goals ++ goal ∷ [])
    go None p later h = cc
    go (Some g) None later h = cc
    go (Some g) (Some gs) later h = ap (with_goals (Some g)) (later gs refl) ∙ ap (λ (o : Option (List Goal)). option_map (λ ys. ys ++ goal ∷ []) o) h

abbrev now : Bor Text → Text
now s = s.now

pub next_goal : (words : List (Bor Text)) (i : ℕ) (d : Bor Text) (goals : List Goal) (goal : Goal) → i < length words → goals_of (map now (take i words)) ≡ Some goals
    → goal_of (get_or words i d).now ≡ Some goal → goals_of (map now (take (i + 1) words)) ≡ Some (goals ++ goal ∷ [])
next_goal words i d goals goal lt e f =
    ap (λ ws. goals_of (map now ws)) (take_more words i d lt) ∙ ap goals_of (map-append now (take i words) (get_or words i d ∷ []))
    ∙ goals_of-end (map now (take i words)) (get_or words i d).now goals goal e f

-- a word that is no goal
pub no_goal : (words : List (Bor Text)) (i : ℕ) (d : Bor Text) → i < length words → goal_of (get_or words i d).now ≡ None → goals_of (map now words) ≡ None
no_goal [] i d lt e = absurd (omega arith)
no_goal (x ∷ words) zero d lt e = first_goal x.now (map now words) ∙ ap (λ o. with_goals o (goals_of (map now words))) e
no_goal (x ∷ words) (suc i) d lt e = first_goal x.now (map now words) ∙ ap (with_goals (goal_of x.now)) (no_goal words i d (omega arith) e) ∙ go (goal_of x.now)
  where
    go : (o : Option Goal) → with_goals o None ≡ None
    go None = refl
    go (Some g) = refl

pub none_of : (words : List Text) → goals_of words ≡ None → some_goals_of words ≡ None
none_of [] e = refl
none_of (word ∷ words) e = e

-- the refusal of a word is that of all
pub refused_at : (words : List (Bor Text)) (i : ℕ) (d : Bor Text) (error : WordError) (result : Result (List Goal) WordError) → i < length words → OnNotACommand (goal_of (get_or words i d).now ≡ None) error
    → IsErrAnd result (λ e. e ≡ error) → IfErr result (OnNotACommand (some_goals_of (map now words) ≡ None))
refused_at words i d error (Ok goals) lt h is = tt
refused_at words i d error (Err e) lt h is = subst (OnNotACommand (some_goals_of (map now words) ≡ None)) (sym is) (go error h)
  where
    go : (error : WordError) → OnNotACommand (goal_of (get_or words i d).now ≡ None) error → OnNotACommand (some_goals_of (map now words) ≡ None) error
    go NotACommand h = none_of (map now words) (no_goal words i d lt h)
    go Memory h = tt
