use Rattle.std.proofs.Common.{◌≡◌, length, subst}
use Rattle.std.specs.Prelude.{IfOk}
use Rattle.row_book.specs.Book.{repository_of}
use Rattle.kernel_text.specs.{KernelText.{kernel_text}, Members.{kernel_members}, Writing.{TellHeld}}
use Rattle.kernel_text.proofs.Marks.{same_told}
use Rattle.kernel_text.proofs.write.write_kernel.Goals as goal

pub write_classes-requires-clause-flags : goal.write_classes-requires-clause-flags
write_classes-requires-clause-flags c =
    (same_told c.in_ok-flags.flags.items c.as_slice-2.result.now c.as_slice.result.now c.args.kernel.now.held c.size.result (length c.args.kernel.now.book.rows) c.as_slice-2.ensures.value c.as_slice.ensures c.size.ensures
    c.in_ok-flags.ensures).count

pub returns : goal.returns
returns c =
    let told : TellHeld c.as_slice-2.result.now c.args.kernel.now.held (length c.args.kernel.now.book.rows) =
    same_told c.in_ok-flags.flags.items c.as_slice-2.result.now c.as_slice.result.now c.args.kernel.now.held c.size.result (length c.args.kernel.now.book.rows) c.as_slice-2.ensures.value c.as_slice.ensures c.size.ensures
    c.in_ok-flags.ensures in
    subst (λ f. IfOk c.write_classes.result (λ text. text.items ≡ kernel_text f (repository_of c.args.pool.now c.args.kernel.now.book)
    (kernel_members c.args.suite.now.packages c.args.kernel.now.class_of (length c.args.kernel.now.book.rows)) c.args.kernel.now.held)) c.format_of.ensures
    (c.write_classes.ensures c.args.kernel.now.held told)
