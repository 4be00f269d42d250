use Rattle.std.proofs.Common.{◌≡◌, ◌-◌, length, take, drop, Some, sym, subst}
use Rattle.listed.proofs.Lists.{to_end}
use Rattle.kernel_text.specs.Words.{IsCut}
use Rattle.kernel_text.proofs.LineWords.{member_cut}
use Rattle.kernel_text.proofs.read_line.cut_line.Goals as goal

-- the rest is lent to its end
pub returns-then-starts_with : goal.returns-then-starts_with
returns-then-starts_with c =
    let text = c.args.body.now in
    let same : drop 7 text ≡ take (length text - 7) (drop 7 text) = sym (to_end 7 text) in
    subst (λ rest. IsCut text (take 6 text) (Some rest)) same (member_cut text c.starts_with.result c.starts_with.ensures.value c.if-starts_with.true)
