use Rattle.std.proofs.Common.{◌++◌, ap, ◌∙◌}
use Rattle.kernel_text.specs.{KernelLines.{line_text}, Writing.{line_of_package}}
use Rattle.repo_model.specs.Stanzas.{stanza_at}
use Rattle.repo_model.proofs.{Elements.{at_place}, Numbers.{same_stanza}}
use Rattle.kernel_text.proofs.Written.{more_text}
use Rattle.kernel_text.proofs.push_lines.push_member_lines.Goals as goal

-- each number is of a package
pub bounds-packages-member : goal.bounds-packages-member
bounds-packages-member c = c.requires _ (at_place c.args.members.now c.loop-member.member-index 0 c.loop-member-test.true)

-- one more line, of the package with the number
pub loop-member-preserved : goal.loop-member-preserved
loop-member-preserved c =
    let inside = c.requires _ (at_place c.args.members.now c.loop-member.member-index 0 c.loop-member-test.true) in
    more_text (λ i. line_text (line_of_package (stanza_at c.args.packages.now i))) c.args.members.now c.loop-member.member-index 0 c.args.out.now.items c.loop-member.out.items
    c.push_member_line.new.out.items c.loop-member-test.true c.loop-member.invariant
    (c.in_ok-push_member_line.ensures ∙ ap (λ s. c.loop-member.out.items ++ line_text (line_of_package s)) (same_stanza c.args.packages.now _ c.index-packages-member.result inside c.index-packages-member.is))
