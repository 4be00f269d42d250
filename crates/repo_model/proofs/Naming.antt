-- Where a word is cut into a goal's name and its version.
use Rattle.std.proofs.Common.{◌≡◌, ℕ, ◌+◌, ◌-◌, Bool, true, false, cond, nat_lt, List, [], ◌∷◌, Some, None, length, take, drop, refl, sym, ap, ◌∙◌, arith}
use Rattle.std.proofs.{lemmas.Grind.{common_steps}, lemmas.Option.{cond_some}}
use Rattle.std.specs.List.{list_any, position, position_or_len}
use Rattle.listed.proofs.{Lists.{any_by_first, to_end}, Bools.{left_out}}
use Rattle.repo_model.specs.Goals.{is_equals, goal_of, goal_of_name, goal_of_parts}

pub goal_cut : (word : List ℕ) (place : ℕ) → Some place ≡ position is_equals word → goal_of word ≡ goal_of_parts (take place word) (drop (place + 1) word)
unfolding goal_of
goal_cut word place h =
    let e = cond_some _ _ place (sym h) in
    let any : list_any is_equals word ≡ true = any_by_first is_equals word ∙ e.0 in
    rw any (ap (λ n. goal_of_parts (take n word) (drop (n + 1) word)) e.1)

pub goal_whole : (word : List ℕ) → None ≡ position is_equals word → goal_of word ≡ goal_of_name word
unfolding goal_of
goal_whole word h =
    let any : list_any is_equals word ≡ false = any_by_first is_equals word ∙ left_out _ _ (sym h) in
    rw any

-- the same, with the part behind the sign as it is lent
pub goal_slices : (word : List ℕ) (place : ℕ) → Some place ≡ position is_equals word →
    goal_of word ≡ goal_of_parts (take place word) (take (length word - (place + 1)) (drop (place + 1) word))
goal_slices word place h = goal_cut word place h ∙ ap (goal_of_parts (take place word)) (sym (to_end (place + 1) word))
