use Rattle.std.proofs.Common.{◌+◌, ◌∙◌, arith}
use Rattle.byte_flow.proofs.ScheduleLemmas.{none_pending_later, none_pending_next}
use Rattle.byte_flow.proofs.schedule.Schedule.next.Goals as goal

pub returns-clause-none : goal.returns-clause-none
returns-clause-none c = λ none. c.is_listed.ensures ∙ none_pending_next c.args.self.now.calls c.args.self.now.listed.items none

pub returns-clause-none_left : goal.returns-clause-none_left
returns-clause-none_left c = λ none. none_pending_later c.args.self.now.calls (c.args.self.now.calls + 1) c.args.self.now.listed.items (omega arith) none
