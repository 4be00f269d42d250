-- What is handed on from mix to mix.
use Rattle.std.proofs.{Common.{◌≡◌, ◌+◌, ◌≤◌, length, arith}, lemmas.List.{length-append}}
use Rattle.std.specs.List.{items_where_true}
use Rattle.migrate_plan.specs.{BothSuites.{packages_of_both, AreBothSuites}, declared.both_suites.BothSuites.{BothSuites}}
use Rattle.migrate_plan.proofs.Parted.{book_long}

-- there are no more old packages than packages of both suites
pub old_packages : (both : BothSuites) → AreBothSuites both → length both.old.now.view.now.suite.packages ≤ length both.book.rows
old_packages both is =
    let olds = both.old.now.view.now.suite.packages in
    let news = items_where_true both.added.items both.new.now.packages in
    let long : length both.book.rows ≡ length (packages_of_both both) = book_long both.pool both.book both.home (packages_of_both both) is.book_is in
    let lengths : length (packages_of_both both) ≡ length olds + length news = length-append olds news in
    omega (arith, long, lengths)
