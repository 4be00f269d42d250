use Rattle.std.proofs.Common.{sym, subst, ◌∙◌}
use Rattle.kernel_text.specs.Words.{LineIsRead, line_of_content}
use Rattle.kernel_text.proofs.StrayLines.{line_strays, no_line_strays}
use Rattle.kernel_text.proofs.find_stray.is_stray.Goals as goal

pub returns-in-Some : goal.returns-in-Some
returns-in-Some c =
    let read = subst (LineIsRead c.args.line.now) c.in-Some.is c.in_ok-content.ensures in
    c.has_stray.ensures ∙ sym (line_strays c.args.classes c.args.line.now (line_of_content c.in-Some.content) read.0 read.1)

pub returns-in-None : goal.returns-in-None
returns-in-None c = sym (no_line_strays c.args.classes c.args.line.now (subst (LineIsRead c.args.line.now) c.in-None.is c.in_ok-content.ensures))
