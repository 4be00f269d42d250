use Rattle.std.proofs.Common.{◌≡◌, ◌∙◌, sym, ap}
use Rattle.row_book.specs.Facing.{against_in, all_against}
use Rattle.row_book.proofs.Facing.{all_against_at, all_against_from}
use Rattle.row_book.proofs.book.Book.all_conflict.Goals as goal

-- the test over the book's own table says it member by member
pub returns : goal.returns
returns c =
    let is : c.all_conflict.result ≡ all_against (against_in c.args.self.now.conflicts) c.args.first.now c.args.second.now =
    c.all_conflict.ensures ∙ ap (λ table. all_against (against_in table) c.args.first.now c.args.second.now) c.as_slice.ensures in (
      λ t. all_against_at (against_in c.args.self.now.conflicts) c.args.first.now c.args.second.now (sym is ∙ t),
      λ g. is ∙ all_against_from (against_in c.args.self.now.conflicts) c.args.first.now c.args.second.now g,
    )
