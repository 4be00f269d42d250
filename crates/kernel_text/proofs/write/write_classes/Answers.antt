use Rattle.std.proofs.{Common.{ℕ, List, ◌++◌, length, subst, sym, ap, ap₂, ◌∙◌}, lemmas.List.{length-map}}
use Rattle.clause_pool.specs.Interned.{row_at}
use Rattle.row_book.specs.Book.{repository_of}
use Rattle.listed.specs.Lists.{In}
use Rattle.kernel_text.specs.{KernelLines.{EndLine, line_text}, KernelText.{kernel_text}, Members.{kernel_members}, Writing.{IsByClass}}
use Rattle.kernel_text.proofs.Written.{of_packages, whole}
use Rattle.kernel_text.proofs.write.write_classes.Goals as goal

-- the lent lists are those of the suite and of the classes
pub push_classes-requires-clause-members : goal.push_classes-requires-clause-members
push_classes-requires-clause-members c =
    of_packages c.as_slice.result.now c.size.result c.as_slice-2.result.now c.as_slice-packages.result.now
    (ap length c.as_slice.ensures ∙ c.requires.each ∙ ap length (sym c.as_slice-packages.ensures))
    (subst (IsByClass c.as_slice.result.now (length c.as_slice.result.now) c.size.result) (sym c.as_slice-2.ensures.value) c.in_ok-by_class.ensures)

pub returns : goal.returns
returns c held told =
    let size : ℕ = length c.args.book.now.rows in
    let classes : List ℕ = c.as_slice.result.now in
    let end = λ (n m : ℕ). c.push_classes.new.out.items ++ line_text (EndLine n m) in
    whole (repository_of c.args.pool.now c.args.book.now) c.as_slice-packages.result.now classes size
    (ap length c.as_slice.ensures ∙ c.requires.each ∙ ap length (sym c.as_slice-packages.ensures))
    (λ class i. c.requires.inside class (subst (In class) c.as_slice.ensures i))
    c.as_slice-2.result.now
    (subst (IsByClass classes (length classes) size) (sym c.as_slice-2.ensures.value) (subst (λ n. IsByClass classes (length classes) n c.in_ok-by_class.by_class.items) c.size.ensures c.in_ok-by_class.ensures))
    c.args.format held c.args.flags.now told c.new-text.result.items c.push_head.new.out.items c.push_classes.new.out.items c.push_end.new.out.items
    (sym (length-map c.args.book.now.rows (row_at c.args.pool.now))) c.new-text.ensures.items c.in_ok-push_head.ensures c.in_ok-push_classes.ensures
    (c.in_ok-push_end.ensures ∙ ap₂ end c.size-2.ensures (c.count.ensures ∙ ap length (sym c.as_slice-packages.ensures)))
    ∙ ap₂ (λ packages class_of. kernel_text c.args.format (repository_of c.args.pool.now c.args.book.now) (kernel_members packages class_of size) held) c.as_slice-packages.ensures c.as_slice.ensures
