use Rattle.std.proofs.Common.{◌≡◌, ◌+◌, ◌-◌, suc, length, take, drop, Some, sym, ap, ◌∙◌, subst, add-one}
use Rattle.listed.proofs.Lists.{to_end}
use Rattle.kernel_text.specs.Words.{IsCut}
use Rattle.kernel_text.proofs.LineWords.{cut_found, cut_missed}
use Rattle.kernel_text.proofs.read_line.cut_at_space.Goals as goal

-- the rest is lent to its end
pub returns-in-Some : goal.returns-in-Some
returns-in-Some c =
    let text = c.args.text.now in
    let place = c.in-Some.place in
    let same : drop (suc place) text ≡ take (length text - (place + 1)) (drop (place + 1) text) = ap (λ n. drop n text) (sym (add-one place)) ∙ sym (to_end (place + 1) text) in
    subst (λ rest. IsCut text (take place text) (Some rest)) same (cut_found text place c.in-Some.ensures)

pub returns-in-None : goal.returns-in-None
returns-in-None c = cut_missed c.args.text.now c.in-None.ensures
