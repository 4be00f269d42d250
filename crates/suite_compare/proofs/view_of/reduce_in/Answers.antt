use Rattle.std.proofs.Common.{◌<◌, length, sym, ap, ◌∙◌, arith}
use Rattle.row_book.specs.Rounds.{limit_at}
use Rattle.suite_compare.proofs.Viewed.{limit_told, passed_inside, view_made}
use Rattle.suite_compare.proofs.view_of.reduce_in.Goals as goal

pub returns-in-Ok-clause-view : goal.returns-in-Ok-clause-view
returns-in-Ok-clause-view c =
    view_made c.book.new.pool c.extract.new.pool c.args.suite.now.home c.args.suite.now.packages c.in_ok-book.book c.in-Ok.kernel c.args.limit c.args.hold c.in_ok-book.ensures.sound.rows.is_pool
    c.in_ok-book.ensures.repository c.in_ok-book.ensures.sound c.in-Ok.ensures.hold c.in-Ok.ensures.kernel

pub limit_of-requires : goal.limit_of-requires
limit_of-requires c =
    let passes_it = rw c.in-Err-Limit.field-0-is at c.in-Err-Limit.ensures.passed in
    let inside : c.in-Err-Limit.package < length c.args.suite.now.packages =
    passed_inside c.book.new.pool c.args.suite.now.home c.args.suite.now.packages c.in_ok-book.book c.args.limit c.args.hold _ c.in_ok-book.ensures.repository passes_it in
    omega (arith, inside)

pub returns-in-Err-Limit-clause-refused : goal.returns-in-Err-Limit-clause-refused
returns-in-Err-Limit-clause-refused c =
    let passes_it = rw c.in-Err-Limit.field-0-is at c.in-Err-Limit.ensures.passed in
    c.limit_of.ensures c.args.limit c.args.hold (sym (ap (limit_at c.args.limit c.args.hold) c.in_ok-book.ensures.repository)
    ∙ limit_told _ c.in-Err-Limit.round c.in-Err-Limit.gone c.in-Err-Limit.package c.in-Err-Limit.count _ _ _ _ passes_it (omega arith) (omega arith) (omega arith) (omega arith))
