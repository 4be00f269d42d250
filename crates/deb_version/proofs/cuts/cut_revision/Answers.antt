use Rattle.std.proofs.Common.{◌∙◌, ◌+◌, ◌-◌, Some, length, ap, sym, arith}
use Rattle.listed.proofs.Lists.{to_end}
use Rattle.deb_version.proofs.Cutting.{upstream_whole, revision_missing, upstream_found, revision_found}
use Rattle.deb_version.proofs.cuts.cut_revision.Goals as goal

pub returns-then-tail-rest-clause-upstream : goal.returns-then-tail-rest-clause-upstream
returns-then-tail-rest-clause-upstream c = upstream_whole c.args.rest.now (sym c.tail_len-tail.ensures.is ∙ c.if-tail-rest.true)

pub returns-then-tail-rest-clause-revision : goal.returns-then-tail-rest-clause-revision
returns-then-tail-rest-clause-revision c = revision_missing c.args.rest.now (sym c.tail_len-tail.ensures.is ∙ c.if-tail-rest.true)

pub returns-clause-upstream : goal.returns-clause-upstream
returns-clause-upstream c = upstream_found c.args.rest.now c.tail_len-tail.result c.tail_len-tail.ensures.is (omega arith)

pub returns-clause-revision : goal.returns-clause-revision
returns-clause-revision c =
    let place = length c.args.rest.now - c.tail_len-tail.result - 1 + 1 in
    ap Some (to_end place c.args.rest.now) ∙ revision_found c.args.rest.now c.tail_len-tail.result place c.tail_len-tail.ensures.is (omega arith) (omega arith)
