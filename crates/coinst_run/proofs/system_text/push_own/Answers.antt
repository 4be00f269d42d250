use Rattle.std.proofs.{Common.{◌++◌, ap, ap₂, ◌∙◌}, lemmas.Result.{IfOk-weaker}}
use Rattle.coinst_run.specs.SystemText.{clash_text, unhit_text}
use Rattle.coinst_run.proofs.SystemLines.{line_read}
use Rattle.coinst_run.proofs.system_text.push_own.Goals as goal

pub bounds-lines-package : goal.bounds-lines-package
bounds-lines-package c = rw c.in-Unhit.is at c.requires

pub returns-in-Unhit : goal.returns-in-Unhit
returns-in-Unhit c =
    let inside = rw c.in-Unhit.is at c.requires in
    rw c.in-Unhit.is (IfOk-weaker c.push_unhit.result _ _ (λ _ e. e ∙ ap (λ line. c.args.out.now.items ++ unhit_text line) (line_read c.args.lines.now c.in-Unhit.package c.index-lines-package.result inside c.index-lines-package.is)) c.push_unhit.ensures)

pub bounds-lines-first : goal.bounds-lines-first
bounds-lines-first c = let inside = rw c.in-Clash.is at c.requires in inside.0

pub bounds-lines-second : goal.bounds-lines-second
bounds-lines-second c = let inside = rw c.in-Clash.is at c.requires in inside.1

pub returns-in-Clash : goal.returns-in-Clash
returns-in-Clash c =
    let inside = rw c.in-Clash.is at c.requires in
    rw c.in-Clash.is (IfOk-weaker c.push_clash.result _ _ (λ _ e. e ∙ ap₂ (λ first second. c.args.out.now.items ++ clash_text first second)
    (line_read c.args.lines.now c.in-Clash.first c.index-lines-first.result inside.0 c.index-lines-first.is)
    (line_read c.args.lines.now c.in-Clash.second c.index-lines-second.result inside.1 c.index-lines-second.is)) c.push_clash.ensures)
