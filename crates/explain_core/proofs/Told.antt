-- What is kept as it is told, and back.
use Rattle.std.proofs.Common.{◌≡◌, ℕ, zero, suc, ◌+◌, ◌-◌, ◌<◌, List, [], ◌∷◌, length, get_or, drop, map, refl, sym, ap, ◌∙◌, arith}
use Rattle.std.proofs.lemmas.List.{drop_more, drop_all, get_or-map}
use Rattle.std.specs.List.{range_with_len}
use Rattle.repo_model.specs.{Goals.{any_version}, declared.goals.Goal.{Goal}}
use Rattle.listed.specs.Lists.{here, there}
use Rattle.row_book.specs.declared.pair.Pair.{Pair}
use Rattle.explain_core.specs.{Core.{goal_numbered, goals_numbered, marks_of}, Deletion.{KeptItem, kept, items_of}, Picking.{picked, ArePlacesFrom1}}
use Rattle.explain_core.specs.{Only.{pair}, Reasons.{clashes_of, clash_pairs}, declared.explanation.Clash.{Clash}, declared.explanation.Mark.{Mark}}

-- the marked goal that was kept
abbrev pub kept_mark : Mark → KeptItem ℕ
kept_mark m = kept m.goal m.unsettled

abbrev pub kept_marks : List Mark → List (KeptItem ℕ)
kept_marks marks = map kept_mark marks

abbrev pub kept_clash : Clash → KeptItem Pair
kept_clash c = kept (pair c.first c.second) c.unsettled

abbrev pub kept_clashes : List Clash → List (KeptItem Pair)
kept_clashes clashes = map kept_clash clashes

pub marks_back : (core : List (KeptItem ℕ)) → kept_marks (marks_of core) ≡ core
marks_back [] = refl
marks_back (k ∷ core) = ap (λ l. k ∷ l) (marks_back core)

pub marks_there : (marks : List Mark) → marks_of (kept_marks marks) ≡ marks
marks_there [] = refl
marks_there (m ∷ marks) = ap (λ l. m ∷ l) (marks_there marks)

pub marks_items : (marks : List Mark) → items_of (kept_marks marks) ≡ map (λ m. m.goal) marks
marks_items [] = refl
marks_items (m ∷ marks) = ap (λ l. m.goal ∷ l) (marks_items marks)

pub clashes_back : (reasons : List (KeptItem Pair)) → kept_clashes (clashes_of reasons) ≡ reasons
clashes_back [] = refl
clashes_back (k ∷ reasons) = ap (λ l. k ∷ l) (clashes_back reasons)

pub clashes_there : (clashes : List Clash) → clashes_of (kept_clashes clashes) ≡ clashes
clashes_there [] = refl
clashes_there (c ∷ clashes) = ap (λ l. c ∷ l) (clashes_there clashes)

pub clashes_items : (clashes : List Clash) → items_of (kept_clashes clashes) ≡ clash_pairs clashes
clashes_items [] = refl
clashes_items (c ∷ clashes) = ap (λ l. pair c.first c.second ∷ l) (clashes_items clashes)

-- the goals behind a place are those of the numbers from there on
pub rest_numbered : (goals : List Goal) (k m : ℕ) → k + m ≡ length goals → drop k goals ≡ goals_numbered goals (range_with_len (k + 1) m)
rest_numbered goals k zero e = drop_all k goals (omega arith)
rest_numbered goals k (suc m) e =
    let l : k < length goals = omega arith in
    let at : (k + 1) - 1 ≡ k = omega arith in
    let next : k + 1 + m ≡ length goals = omega arith in
    drop_more goals k (any_version []) l
    ∙ ap (λ n. get_or goals n (any_version []) ∷ drop (k + 1) goals) (sym at)
    ∙ ap (λ l. goal_numbered goals (k + 1) ∷ l) (rest_numbered goals (k + 1) m next)

pub all_numbered : (goals : List Goal) → goals_numbered goals (range_with_len 1 (length goals)) ≡ goals
all_numbered goals = sym (rest_numbered goals 0 (length goals) (omega arith))

-- the lists of marked goals
pub picked_numbered : (f : Goal → List ℕ) (goals : List Goal) (marks : List Mark) → ArePlacesFrom1 (length goals) marks →
    picked (map f goals) marks ≡ map f (goals_numbered goals (map (λ m. m.goal) marks))
picked_numbered f goals [] places = refl
picked_numbered f goals (m ∷ marks) places =
    let w = places m here in
    let l : m.goal - 1 < length goals = omega (arith, w.0, w.1) in
    ap (λ x. x ∷ picked (map f goals) marks) (get_or-map f goals (m.goal - 1) (any_version []) [] l)
    ∙ ap (λ r. f (goal_numbered goals m.goal) ∷ r) (picked_numbered f goals marks (λ n i. places n (there i)))
