use Rattle.std.proofs.Common.{◌∙◌, ◌∷◌, [], ap, length, refl, arith, length-append}
use Rattle.row_book.specs.Uses.{list_in}
use Rattle.row_book.proofs.Holders.{more_lists}
use Rattle.row_book.proofs.clause_table.make_lists.Goals as goal

pub loop-i-init : goal.loop-i-init
loop-i-init c = record { size = omega arith; same = λ n. refl }

pub returns-in_err-push-clause-same : goal.returns-in_err-push-clause-same
returns-in_err-push-clause-same c = λ n. ap (λ t. list_in t n) c.in_err-push.ensures.items ∙ c.loop-i.invariant.same n

pub loop-i-preserved : goal.loop-i-preserved
loop-i-preserved c = record {
  size = ap length c.in_ok-push.ensures.items ∙ length-append c.loop-i.lists.items (c.new.result ∷ []) ∙ omega (arith, c.loop-i.invariant.size);
  same = λ n. ap (λ t. list_in t n) c.in_ok-push.ensures.items ∙ more_lists c.loop-i.lists.items c.new.result n c.new.ensures.items ∙ c.loop-i.invariant.same n;
}
