use Rattle.std.proofs.Common.{◌∙◌, ◌++◌, ap, codes, length}
use Rattle.row_book.specs.Book.{repository_of}
use Rattle.serde_json.specs.Written.{compact_text, has_float}
use Rattle.kernel_text.proofs.JsonTexts.{no_float}
use Rattle.kernel_text.proofs.write_json.document_text.Goals as goal

pub returns : goal.returns
returns c =
    c.in_ok-extend_from_slice.ensures.items
    ∙ ap (λ t. t ++ codes "\n")
    (c.in_ok-text.ensures.text (ap has_float c.in_ok-document.ensures ∙ no_float c.args.hold (repository_of c.args.pool.now c.args.book.now) c.args.packages.now c.args.by_class.now c.args.flags.now (length c.args.book.now.rows))
    ∙ ap compact_text c.in_ok-document.ensures)
