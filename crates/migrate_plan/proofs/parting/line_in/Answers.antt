use Rattle.std.proofs.Common.{◌≡◌, ◌∙◌, Some, Result, Ok, Err, OnOk, ap, length, refl, subst, sym}
use Rattle.std.specs.{List.{items_where_true}, Option.{ForSome}}
use Rattle.row_book.specs.{Book.{repository_of}, Parts.{part}, Rounds.{limit_at}}
use Rattle.migrate_plan.specs.BothSuites.{packages_of_both, settings_between, HasMixRows, IsBaseFor, IsReuse, IsMadeKernel}
use Rattle.migrate_plan.specs.{declared.plan.PlanLine.TheVariants.{LeftLimit}, Trying.{told_of}}
use Rattle.kernel_rounds.specs.Known.{AreKnownRounds}
use Rattle.migrate_plan.proofs.{Made.{limit_made, line_answered}, Parted.{book_long, can_follow, mix_over, mix_within}}
use Rattle.migrate_plan.proofs.parting.line_in.Goals as goal

-- what holds in any case holds if there is a line
always : {A E : Type 0} (P : Type 0) (result : Result A E) → P → OnOk result P
always P (Ok line) holds = holds
always P (Err error) holds = tt

pub kernel_in-requires-clause-book : goal.kernel_in-requires-clause-book
kernel_in-requires-clause-book c = c.requires.both.book_is.sound

pub kernel_in-requires-clause-flags : goal.kernel_in-requires-clause-flags
kernel_in-requires-clause-flags c =
    let both = c.args.both.now in
    ap length c.deref.ensures.value ∙ c.requires.flags ∙ sym (book_long both.pool both.book both.home (packages_of_both both) c.requires.both.book_is)

pub returns-in_default-clause-line : goal.returns-in_default-clause-line
returns-in_default-clause-line c =
    let both = c.args.both.now in
    let old = both.old.now.view.now in
    let flags = c.args.flags.items in
    let made = rw c.in_default.is at c.in_ok-made.ensures.kernel in
    limit_made (settings_between both) old.suite.home old.suite.packages both.home (items_where_true flags (packages_of_both both)) c.args.name.now (LeftLimit c.in_ok-name.name) made.0
    (mix_over both c.requires.both flags c.requires.flags old.limit old.kernel.hold made.0
    (subst (λ f. limit_at old.limit old.kernel.hold (part f (repository_of both.pool both.book)) ≡ Some made.0) c.deref.ensures.value made.1)) (ap LeftLimit c.in_ok-name.ensures)

pub mix_line_by-requires-clause-flags : goal.mix_line_by-requires-clause-flags
mix_line_by-requires-clause-flags c = ap length c.deref-2.ensures.value ∙ c.requires.flags

pub mix_line_by-requires-clause-kernel : goal.mix_line_by-requires-clause-kernel
mix_line_by-requires-clause-kernel c =
    let both = c.args.both.now in
    let old = both.old.now.view.now in
    let made = rw c.in-Some.is at c.in_ok-made.ensures.kernel in
    subst (λ f. IsMadeKernel old.limit old.kernel.hold (repository_of both.pool both.book) f c.in-Some.made) (c.deref.ensures.value ∙ sym c.deref-2.ensures.value) made

pub mix_line_by-requires-clause-known : goal.mix_line_by-requires-clause-known
mix_line_by-requires-clause-known c = c.in_ok-made.ensures.reuse.known_are

pub keep-requires : goal.keep-requires
keep-requires c =
    let both = c.args.both.now in
    can_follow both c.mix_line_by.new.reuse.base c.args.flags.items c.in-Some.made
    (subst (λ base. HasMixRows both base c.args.flags.items c.in-Some.made) (sym c.mix_line_by.ensures.base)
    (subst (λ f. HasMixRows both c.kernel_in.new.reuse.base f c.in-Some.made) c.deref.ensures.value (c.in_ok-made.ensures.rows _ c.in-Some.is)))

pub returns-clause-line : goal.returns-clause-line
returns-clause-line c =
    let both = c.args.both.now in
    let old = both.old.now.view.now in
    let flags = c.args.flags.items in
    let lent = c.deref-2.result.now in
    let packages = packages_of_both both in
    let made = rw c.in-Some.is at c.in_ok-made.ensures.kernel in
    let given = subst (λ f. IsMadeKernel old.limit old.kernel.hold (repository_of both.pool both.book) f c.in-Some.made) c.deref.ensures.value made in
    let same = ap (λ f. items_where_true f packages) c.deref-2.ensures.value in
    line_answered (settings_between both) old.suite.home old.suite.packages both.home (items_where_true flags packages) c.args.name.now both.home (items_where_true lent packages)
    (mix_within both c.requires.both flags c.requires.flags old.limit old.kernel.hold c.in-Some.made given) same refl c.plan_line.result
    (c.plan_line.ensures (told_of (settings_between both) old.suite.home old.suite.packages both.home (items_where_true lent packages)) c.in_ok-told.ensures.told)

pub returns-clause-reuse : goal.returns-clause-reuse
returns-clause-reuse c =
    let both = c.args.both.now in
    let flags = c.args.flags.items in
    let rows = subst (λ base. HasMixRows both base flags c.in-Some.made) (sym c.mix_line_by.ensures.base)
    (subst (λ f. HasMixRows both c.kernel_in.new.reuse.base f c.in-Some.made) c.deref.ensures.value (c.in_ok-made.ensures.rows _ c.in-Some.is)) in
    always (IsReuse both c.keep.new.reuse) c.plan_line.result (c.keep.ensures.reuse both (record {
      base_is = subst (λ base. ForSome base (IsBaseFor both)) (sym c.mix_line_by.ensures.base) c.in_ok-made.ensures.reuse.base_is;
      known_are = c.in_ok-told.ensures.known;
      rounds_are = subst (λ rounds. ForSome rounds AreKnownRounds) (sym c.mix_line_by.ensures.rounds) c.in_ok-made.ensures.reuse.rounds_are;
    }) (c.in_ok-made.ensures.known _ c.in-Some.is) rows)
