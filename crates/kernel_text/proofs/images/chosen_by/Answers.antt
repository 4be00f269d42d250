use Rattle.std.proofs.Common.{◌≡◌, IfOk, List, ℕ, subst}
use Rattle.kernel_text.proofs.GoalImages.{of_any, of_version}
use Rattle.kernel_text.proofs.images.chosen_by.Goals as goal

pub returns-in-Some : goal.returns-in-Some
returns-in-Some c =
    subst (λ (numbers : List ℕ). IfOk c.versioned.result (λ chosen. chosen.items ≡ numbers))
    (of_version c.args.members.now c.args.goal.now c.as_slice-name.result.now c.as_slice-name.ensures c.in-Some.version c.in-Some.is) c.versioned.ensures

pub returns-in-None : goal.returns-in-None
returns-in-None c =
    subst (λ (numbers : List ℕ). IfOk c.named.result (λ chosen. chosen.items ≡ numbers))
    (of_any c.args.members.now c.args.goal.now c.as_slice-name.result.now c.as_slice-name.ensures c.in-None.is) c.named.ensures
