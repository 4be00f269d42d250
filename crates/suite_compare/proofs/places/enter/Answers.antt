use Rattle.std.proofs.Common.{◌∙◌, ◌++◌, ◌∷◌, [], ap, sym}
use Rattle.suite_compare.proofs.Groups.{entered}
use Rattle.suite_compare.proofs.places.enter.Goals as goal

pub returns : goal.returns
returns c = entered c.args.table.now c.args.key c.args.place c.index-table-key.result c.push.new.self c.requires c.index-table-key.is (c.in_ok-push.ensures.ok ∙ ap (λ z. z ++ c.args.place ∷ []) (sym c.index-table-key.is))
