-- The steps of a walk that keeps a log, or keeps none: where none is kept, the entries stand in the proof alone.
use Rattle.std.proofs.Common.{◌≡◌, ℕ, ◌+◌, ◌≤◌, Bool, true, false, List, [], ◌∷◌, ◌++◌, refl, ap, ◌∙◌}
use Rattle.std.specs.Prelude.{map}
use Rattle.search_terms.specs.{declared.literals.Literal.{Literal}, Closure.{literal, negation, Clashes}, Tree.{Tree, IsTree, IsFoundLeaf, IsSplit}}
use Rattle.search_terms.specs.Marks.{true_classes}
use Rattle.clause_solver.specs.{declared.outcomes.Verdict.{Verdict}, declared.outcomes.Verdict.TheVariants.{Yes, No, Spent}, Marking.{set_of_trail}}
use Rattle.clause_solver.specs.{Standing.{WalksIn, WalksPast}, Verdicts.{Ends, IsKept, IsVerdictOf}}
use Rattle.clause_solver.proofs.Stacking.{stands_first, go_across, go_up, stack_found, stack_spent, stack_down, stack_past, stack_refuted}

-- one more entry
kept_more : (keeps : Bool) (log new entries : List (List Literal)) (entry : List Literal) → IsKept keeps log entries → (keeps ≡ true → new ≡ log ++ entry ∷ []) → IsKept keeps new (entries ++ entry ∷ [])
kept_more keeps log new entries entry kept more = λ t. more t ∙ ap (λ x. x ++ entry ∷ []) (kept t)

-- the walk begins at the root
pub walk_first : (keeps : Bool) (n : ℕ) (formula log : List (List Literal)) → log ≡ [] → WalksIn keeps n formula [] 0 log
walk_first keeps n formula log e = ([], (λ t. e), stands_first n formula)

-- from a refuted left branch to its sibling
pub walk_across : (keeps : Bool) (n : ℕ) (formula : List (List Literal)) (decisions rest now : List Literal) (l : Literal) (failed : ℕ) (log : List (List Literal)) → decisions ≡ rest ++ l ∷ [] → l.positive ≡ true
    → now ≡ rest ++ literal l.class false ∷ [] → WalksPast keeps n formula decisions failed log → WalksIn keeps n formula now failed log
walk_across keeps n formula decisions rest now l failed log cut sign e p = (p.0, p.1, go_across n formula decisions rest now l failed p.0 cut sign e p.2)

-- from a refuted right branch to its parent, whose entry is added
pub walk_up : (keeps : Bool) (n : ℕ) (formula : List (List Literal)) (decisions rest : List Literal) (l : Literal) (failed : ℕ) (log now : List (List Literal)) → decisions ≡ rest ++ l ∷ [] → l.positive ≡ false
    → (keeps ≡ true → now ≡ log ++ map negation rest ∷ []) → WalksPast keeps n formula decisions failed log → WalksPast keeps n formula rest failed now
walk_up keeps n formula decisions rest l failed log now cut sign more p =
    (p.0 ++ map negation rest ∷ [], kept_more keeps log now p.0 (map negation rest) p.1 more, go_up n formula decisions rest l failed p.0 (p.0 ++ map negation rest ∷ []) cut sign refl p.2)

-- down to the branch where the class is true
pub walk_down : (keeps : Bool) (n failed c : ℕ) (formula log : List (List Literal)) (decisions now : List Literal) → IsSplit formula decisions c → now ≡ decisions ++ literal c true ∷ []
    → WalksIn keeps n formula decisions failed log → WalksIn keeps n formula now failed log
walk_down keeps n failed c formula log decisions now here e w = (w.0, w.1, stack_down n failed c formula w.0 decisions now here e w.2)

-- a failed leaf is counted, and its entry is added
pub walk_past : (keeps : Bool) (n failed : ℕ) (formula log now : List (List Literal)) (decisions : List Literal) → Clashes formula decisions → (keeps ≡ true → now ≡ log ++ map negation decisions ∷ [])
    → WalksIn keeps n formula decisions failed log → WalksPast keeps n formula decisions (failed + 1) now
walk_past keeps n failed formula log now decisions clash more w =
    (w.0 ++ map negation decisions ∷ [], kept_more keeps log now w.0 (map negation decisions) w.1 more, stack_past n failed formula w.0 (w.0 ++ map negation decisions ∷ []) decisions clash refl w.2)

-- a found leaf
pub walk_found : (keeps : Bool) (n budget failed : ℕ) (formula log : List (List Literal)) (decisions trail : List Literal) (tree : Tree) → IsFoundLeaf n formula decisions (true_classes n (set_of_trail trail)) → failed ≤ budget
    → WalksIn keeps n formula decisions failed log → IsTree n formula [] tree → Ends keeps n budget tree Yes trail log
walk_found keeps n budget failed formula log decisions trail tree leaf le w is = stack_found n budget failed formula w.0 decisions (true_classes n (set_of_trail trail)) tree leaf le w.2 is

-- one failed leaf more than the budget
pub walk_spent : (keeps : Bool) (n budget failed : ℕ) (formula log : List (List Literal)) (decisions trail : List Literal) (tree : Tree) → Clashes formula decisions → failed ≡ budget
    → WalksIn keeps n formula decisions failed log → IsTree n formula [] tree → Ends keeps n budget tree Spent trail log
walk_spent keeps n budget failed formula log decisions trail tree clash e w is = stack_spent n budget failed formula w.0 decisions tree clash e w.2 is

-- the whole tree is behind
pub walk_refuted : (keeps : Bool) (n budget failed : ℕ) (formula log : List (List Literal)) (trail : List Literal) (tree : Tree) → failed ≤ budget → WalksPast keeps n formula [] failed log → IsTree n formula [] tree
    → Ends keeps n budget tree No trail log
walk_refuted keeps n budget failed formula log trail tree le p is =
    let ends = stack_refuted n budget failed formula p.0 tree le p.2 is in
    (ends.0, ends.1, λ t. p.1 t ∙ ends.2)

-- how a walk ends tells the verdict
pub verdict_by : (keeps : Bool) (n budget : ℕ) (tree : Tree) (verdict : Verdict) (trail : List Literal) (log : List (List Literal)) → Ends keeps n budget tree verdict trail log → IsVerdictOf budget tree verdict
verdict_by keeps n budget tree Yes trail log a = (rw a.0 refl, a.1)
verdict_by keeps n budget tree No trail log a = (a.0, a.1)
verdict_by keeps n budget tree Spent trail log a = a
