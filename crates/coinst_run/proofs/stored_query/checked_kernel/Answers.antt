use Rattle.row_book.specs.Book.{repository_of}
use Rattle.kernel_text.specs.declared.fault.KernelFault.TheVariants.{Line, End, Range}
use Rattle.coinst_run.specs.{Ending.{stop_ending}, declared.answer.Cause.TheVariants.{Content}, Answer.{refused}}
use Rattle.coinst_run.specs.StoredQuery.{checked_kernel, kernel_fault_line}
use Rattle.coinst_run.proofs.{Follows.{stops_at}, StoredKernels.{kernel_checked, kernel_refused, kernel_sound}}
use Rattle.coinst_run.proofs.stored_query.checked_kernel.Goals as goal

pub returns-in-Ok-clause-kernel : goal.returns-in-Ok-clause-kernel
returns-in-Ok-clause-kernel c = kernel_checked c.args.path.now c.args.text.now c.in-Ok.stored.format (repository_of c.read_kernel.new.pool c.in-Ok.stored.book) c.in-Ok.stored.members c.in-Ok.stored.held c.in-Ok.ensures.read

pub returns-in-Ok-clause-repository : goal.returns-in-Ok-clause-repository
returns-in-Ok-clause-repository c = kernel_sound c.args.text.now c.in-Ok.stored.format (repository_of c.read_kernel.new.pool c.in-Ok.stored.book) c.in-Ok.stored.members c.in-Ok.stored.held c.in-Ok.ensures.read

pub returns-in-Err-Line-clause-stop : goal.returns-in-Err-Line-clause-stop
returns-in-Err-Line-clause-stop c =
    let fault = Line c.in-Err-Line.line in
    stops_at (checked_kernel c.args.path.now c.args.text.now) (refused Content (kernel_fault_line c.args.path.now fault)) (stop_ending c.faulty.result)
    (kernel_refused c.args.path.now c.args.text.now fault (rw c.in-Err-Line.field-0-is at c.in-Err-Line.ensures.refused)) c.faulty.ensures

pub returns-in-Err-End-clause-stop : goal.returns-in-Err-End-clause-stop
returns-in-Err-End-clause-stop c =
    let fault = End in
    stops_at (checked_kernel c.args.path.now c.args.text.now) (refused Content (kernel_fault_line c.args.path.now fault)) (stop_ending c.faulty-in-Err-End.result)
    (kernel_refused c.args.path.now c.args.text.now fault (rw c.in-Err-End.field-0-is at c.in-Err-End.ensures.refused)) c.faulty-in-Err-End.ensures

pub returns-in-Err-Range-clause-stop : goal.returns-in-Err-Range-clause-stop
returns-in-Err-Range-clause-stop c =
    let fault = Range c.in-Err-Range.line in
    stops_at (checked_kernel c.args.path.now c.args.text.now) (refused Content (kernel_fault_line c.args.path.now fault)) (stop_ending c.faulty-in-Err-Range.result)
    (kernel_refused c.args.path.now c.args.text.now fault (rw c.in-Err-Range.field-0-is at c.in-Err-Range.ensures.refused)) c.faulty-in-Err-Range.ensures
