use Rattle.std.proofs.{Common.{◌∙◌, ap, length, sym}, lemmas.List.{length-map}}
use Rattle.std.specs.List.{items_where_true}
use Rattle.suite_compare.proofs.Bearing.{classes_fit}
use Rattle.migrate_plan.specs.BothSuites.{packages_of_both}
use Rattle.migrate_plan.proofs.Parted.{bearers_within, images_made, lent_is}
use Rattle.migrate_plan.proofs.parting.mix_line_by.Goals as goal

pub classes_of_chosen-requires-clause-flags : goal.classes_of_chosen-requires-clause-flags
classes_of_chosen-requires-clause-flags c = bearers_within c.args.both.now c.requires.both c.args.flags.now c.requires.flags _ _ c.args.made.now c.requires.kernel _ c.deref.ensures.value

pub classes_of_chosen-requires-clause-classes : goal.classes_of_chosen-requires-clause-classes
classes_of_chosen-requires-clause-classes c = ap length c.classes_in.ensures ∙ c.requires.kernel.size

pub lent_kernel-kernel-requires : goal.lent_kernel-kernel-requires
lent_kernel-kernel-requires c = c.requires.kernel.book_is.sound

pub first_line_by-first-requires-clause-fits : goal.first_line_by-first-requires-clause-fits
first_line_by-first-requires-clause-fits c =
    let both = c.args.both.now in
    let view = both.old.now.view.now in
    let flags = c.args.flags.now in
    let lent = c.lent_kernel-kernel.result in
    classes_fit view.limit view.kernel.hold both.home (items_where_true flags (packages_of_both both)) lent both.old.now.names c.in_ok-classes.classes.items
    (lent_is both c.requires.both flags c.requires.flags view.limit view.kernel.hold c.args.made.now c.requires.kernel lent c.lent_kernel-kernel.ensures.pool c.lent_kernel-kernel.ensures.book)
    (images_made both c.requires.both flags c.requires.flags view.limit view.kernel.hold c.args.made.now c.requires.kernel _ _ _ c.classes_in.ensures c.deref.ensures.value c.in_ok-classes.ensures)

pub first_line_by-first-requires-clause-count : goal.first_line_by-first-requires-clause-count
first_line_by-first-requires-clause-count c = c.in_ok-classes.ensures.long ∙ ap length (c.deref.ensures.value ∙ c.requires.both.named_are) ∙ length-map c.args.both.now.old.now.names _

pub first_line_by-first-requires-clause-known : goal.first_line_by-first-requires-clause-known
first_line_by-first-requires-clause-known c = λ pairs is. c.requires.known pairs (sym c.take.ensures.value ∙ is)

pub returns-clause-told : goal.returns-clause-told
returns-clause-told c =
    let both = c.args.both.now in
    let view = both.old.now.view.now in
    let flags = c.args.flags.now in
    let lent = c.lent_kernel-kernel.result in
    rw c.in_ok-line.was at (c.first_line_by-first.ensures.first both.home (items_where_true flags (packages_of_both both))
    (lent_is both c.requires.both flags c.requires.flags view.limit view.kernel.hold c.args.made.now c.requires.kernel lent c.lent_kernel-kernel.ensures.pool c.lent_kernel-kernel.ensures.book)
    (images_made both c.requires.both flags c.requires.flags view.limit view.kernel.hold c.args.made.now c.requires.kernel _ _ _ c.classes_in.ensures c.deref.ensures.value c.in_ok-classes.ensures))
