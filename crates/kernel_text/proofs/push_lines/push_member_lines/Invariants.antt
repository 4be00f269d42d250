use Rattle.std.proofs.Common.{◌≡◌, ◌++◌, take}
use Rattle.repo_model.specs.Stanzas.{stanza_at}
use Rattle.kernel_text.specs.Writing.{line_of_package, lines_text}
use Rattle.kernel_text.proofs.push_lines.push_member_lines.Given as goal

abbrev pub invariant-loop-member : goal.invariant-loop-member
invariant-loop-member l = l.out.items ≡ l.fn.out.items ++ lines_text (λ i. line_of_package (stanza_at l.packages i)) (take l.member-index l.members)
