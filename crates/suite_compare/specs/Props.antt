-- Equations of verdicts, numbers and texts have one proof at most, and so have facts made of such
-- equations. So a struct may keep them as ghost fields.
use Rattle.std.specs.Prelude.{ℕ, Bool, true, false, if◌then◌else◌, List, map, refl}
use Rattle.std.specs.Coded.{Coded, Coded-set, code_by, coded×, coded_bool, coded_list, coded_ℕ}
use Rattle.clause_solver.specs.declared.outcomes.Verdict.{Verdict}
use Rattle.clause_solver.specs.declared.outcomes.Verdict.TheVariants.{Yes, No, Spent}
use Rattle.suite_compare.specs.{Bad.{AreSingles}, Kinds.{alone, kernel_in}}
use Rattle.suite_compare.specs.declared.judge.Judge.{Judge}

pub number-set : IsSet ℕ
number-set = Coded-set coded_ℕ

pub texts-set : IsSet (List (List ℕ))
texts-set = Coded-set (coded_list (coded_list coded_ℕ))

abbrev verdict_code : Coded Verdict
verdict_code =
    code_by (Bool × Bool) (coded× coded_bool coded_bool)
    (elim [ Yes ↦ (true, true) | No ↦ (true, false) | Spent ↦ (false, false) ])
    (λ p. if p.0 then (if p.1 then Yes else No) else Spent)
    (elim [ Yes ↦ refl | No ↦ refl | Spent ↦ refl ])

pub verdict-set : IsSet Verdict
verdict-set = Coded-set verdict_code

pub AreSingles-prop : (judge : Judge) (singles : List Verdict) → IsProp (AreSingles judge singles)
AreSingles-prop judge singles = Coded-set (coded_list verdict_code) singles
    (map (alone (kernel_in judge) judge.budget) judge.kinds.items)
