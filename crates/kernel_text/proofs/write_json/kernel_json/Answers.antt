use Rattle.std.proofs.{Common.{◌≡◌, ℕ, Bool, List, length, subst, sym, ap, ap₂, ◌∙◌}, lemmas.List.{length-map}, lemmas.Result.{IfOk-weaker}}
use Rattle.clause_pool.specs.Interned.{row_at}
use Rattle.row_book.specs.Book.{repository_of}
use Rattle.listed.specs.Lists.{In}
use Rattle.repo_model.specs.Facts.{AreNamedPackages}
use Rattle.kernel_text.specs.{KernelJson.{kernel_json}, KernelText.{format_of}, Members.{kernel_members}, Writing.{IsByClass, TellHeld}}
use Rattle.kernel_text.proofs.{JsonTexts.{document_is}, Marks.{same_told}, Written.{of_packages}}
use Rattle.kernel_text.proofs.write_json.kernel_json.Goals as goal

-- the lent lists are those of the suite and of the classes
pub document_text-requires-clause-members : goal.document_text-requires-clause-members
document_text-requires-clause-members c =
    of_packages c.as_slice.result.now c.size.result c.as_slice-3.result.now c.as_slice-packages.result.now
    (ap length c.as_slice.ensures ∙ c.requires.each ∙ ap length (sym c.as_slice-packages.ensures))
    (subst (IsByClass c.as_slice.result.now (length c.as_slice.result.now) c.size.result) (sym c.as_slice-3.ensures.value) c.in_ok-by_class.ensures)

pub document_text-requires-clause-flags : goal.document_text-requires-clause-flags
document_text-requires-clause-flags c =
    (same_told c.in_ok-flags.flags.items c.as_slice-4.result.now c.as_slice-2.result.now c.args.kernel.now.held c.size-2.result (length c.args.kernel.now.book.rows) c.as_slice-4.ensures.value c.as_slice-2.ensures c.size-2.ensures
    c.in_ok-flags.ensures).count

pub returns : goal.returns
returns c =
    let R = repository_of c.args.pool.now c.args.kernel.now.book in
    let size : ℕ = length c.args.kernel.now.book.rows in
    let classes : List ℕ = c.as_slice.result.now in
    let packages = c.as_slice-packages.result.now in
    let table = c.as_slice-3.result.now in
    let each : length classes ≡ length packages = ap length c.as_slice.ensures ∙ c.requires.each ∙ ap length (sym c.as_slice-packages.ensures) in
    let by_class : IsByClass classes (length classes) size table =
    subst (IsByClass classes (length classes) size) (sym c.as_slice-3.ensures.value) (subst (λ n. IsByClass classes (length classes) n c.in_ok-by_class.by_class.items) c.size.ensures c.in_ok-by_class.ensures) in
    let flags : List Bool = c.as_slice-4.result.now in
    let told : TellHeld flags c.args.kernel.now.held size =
    same_told c.in_ok-flags.flags.items flags c.as_slice-2.result.now c.args.kernel.now.held c.size-2.result size c.as_slice-4.ensures.value c.as_slice-2.ensures c.size-2.ensures c.in_ok-flags.ensures in
    IfOk-weaker c.document_text.result _ (λ text. text.items ≡ kernel_json (format_of c.args.kernel.now.hold) R (kernel_members c.args.suite.now.packages c.args.kernel.now.class_of size) c.args.kernel.now.held)
    (λ text e.
    e ∙ document_is R packages classes size each (λ class i. c.requires.inside class (subst (In class) c.as_slice.ensures i)) table by_class
    (of_packages classes size table packages each by_class) (subst AreNamedPackages (sym c.as_slice-packages.ensures) c.requires.named) c.args.kernel.now.hold flags c.args.kernel.now.held told (sym (length-map c.args.kernel.now.book.rows (row_at c.args.pool.now)))
    ∙ ap₂ (λ ps cs. kernel_json (format_of c.args.kernel.now.hold) R (kernel_members ps cs size) c.args.kernel.now.held) c.as_slice-packages.ensures c.as_slice.ensures) c.document_text.ensures
