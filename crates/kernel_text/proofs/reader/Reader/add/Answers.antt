use Rattle.std.proofs.{lemmas.Result.{IfOk-weaker}, Common.{ℕ, List, Bool, true, false, Some, None}}
use Rattle.kernel_text.specs.{declared.content.LineContent.{LineContent}, declared.reader.Reader.{Reader}, Reader.{Adds, TakesLine}}
use Rattle.kernel_text.specs.{Reading.{Reading, is_allowed}, Words.{LineIsRead, line_of_content}}
use Rattle.kernel_text.proofs.Candidates.{formed_line, is_found, none_found, not_found}
use Rattle.kernel_text.proofs.reader.Reader.add.Goals as goal

-- a line that is taken by what it says is taken by its bytes
added : (t : Reading) (line : List ℕ) (content : LineContent) (new : Reader) (b : Bool) → LineIsRead line (Some content) → TakesLine t (line_of_content content) new b → Adds t line new b
added t line content new true r h = (line_of_content content, is_found (is_allowed t) (formed_line t) line (line_of_content content) r.0 h.0, h.1)
added t line content new false r h = not_found (is_allowed t) (formed_line t) line (line_of_content content) r.0 r.1 h

pub returns-in-Some : goal.returns-in-Some
returns-in-Some c t h =
    let read : LineIsRead c.args.line.now (Some c.in-Some.content) = rw c.in-Some.is at c.in_ok-content.ensures in
    IfOk-weaker c.take.result (TakesLine t (line_of_content c.in-Some.content) c.take.new.self) (Adds t c.args.line.now c.take.new.self)
    (λ b taken. added t c.args.line.now c.in-Some.content c.take.new.self b read taken) (c.take.ensures t h)

pub returns-in-None : goal.returns-in-None
returns-in-None c t h =
    let none : LineIsRead c.args.line.now None = rw c.in-None.is at c.in_ok-content.ensures in
    none_found (is_allowed t) (formed_line t) c.args.line.now none
