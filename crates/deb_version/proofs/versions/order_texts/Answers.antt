use Rattle.std.proofs.Common.{◌≡◌, ◌∙◌, sym}
use Rattle.std.specs.Ordering.{nat_cmp}
use Rattle.deb_version.specs.{Grammar.{upstream_of}, Order.{part_order, epoch_number, full_revision}}
use Rattle.deb_version.proofs.{Cutting.{epoch_digits}, VersionSteps.{epochs_decide, upstreams_decide, revisions_decide}}
use Rattle.deb_version.proofs.versions.order_texts.Goals as goal

pub order_numbers-epochs-requires-clause-left : goal.order_numbers-epochs-requires-clause-left
order_numbers-epochs-requires-clause-left c = epoch_digits c.args.left.now _ _ c.requires.left c.cut-left.ensures.epoch c.written_or_zero.ensures

pub order_numbers-epochs-requires-clause-right : goal.order_numbers-epochs-requires-clause-right
order_numbers-epochs-requires-clause-right c = epoch_digits c.args.right.now _ _ c.requires.right c.cut-right.ensures.epoch c.written_or_zero-2.ensures

pub returns-then-is_ne : goal.returns-then-is_ne
returns-then-is_ne c =
    let epochs : c.order_numbers-epochs.result ≡ nat_cmp (epoch_number c.args.left.now) (epoch_number c.args.right.now) = cc in
    epochs_decide c.args.left.now c.args.right.now c.order_numbers-epochs.result epochs (sym c.is_ne.ensures ∙ c.if-is_ne.true)

pub returns-then-is_ne-2 : goal.returns-then-is_ne-2
returns-then-is_ne-2 c =
    let epochs : c.order_numbers-epochs.result ≡ nat_cmp (epoch_number c.args.left.now) (epoch_number c.args.right.now) = cc in
    let upstreams : c.order_parts-upstreams.result ≡ part_order (upstream_of c.args.left.now) (upstream_of c.args.right.now) = cc in
    upstreams_decide c.args.left.now c.args.right.now c.order_numbers-epochs.result c.order_parts-upstreams.result epochs (sym c.is_ne.ensures ∙ c.if-is_ne.false) upstreams (sym c.is_ne-2.ensures ∙ c.if-is_ne-2.true)

pub returns : goal.returns
returns c =
    let epochs : c.order_numbers-epochs.result ≡ nat_cmp (epoch_number c.args.left.now) (epoch_number c.args.right.now) = cc in
    let upstreams : c.order_parts-upstreams.result ≡ part_order (upstream_of c.args.left.now) (upstream_of c.args.right.now) = cc in
    let revisions : c.order_parts.result ≡ part_order (full_revision c.args.left.now) (full_revision c.args.right.now) = cc in
    revisions ∙ revisions_decide c.args.left.now c.args.right.now c.order_numbers-epochs.result c.order_parts-upstreams.result epochs (sym c.is_ne.ensures ∙ c.if-is_ne.false) upstreams (sym c.is_ne-2.ensures ∙ c.if-is_ne-2.false)
