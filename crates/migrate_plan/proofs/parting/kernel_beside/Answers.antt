use Rattle.std.proofs.{Common.{◌<◌, ◌∙◌, Some, false, subst, sym}, lemmas.Option.{none-some}}
use Rattle.std.specs.Option.{ForSome}
use Rattle.kernel_rounds.specs.Known.{IsClassifiedPart}
use Rattle.row_book.specs.{Book.{repository_of}, Parts.{part}}
use Rattle.row_book.proofs.BookRepositories.{book_size, sound_repository}
use Rattle.suite_part.specs.Mixes.{AreMixRows}
use Rattle.migrate_plan.specs.BothSuites.{HasMixRows, IsKernelAt, KnowsRounds}
use Rattle.migrate_plan.proofs.Parted.{beside_known, beside_made, beside_rows, flat_part, over_made}
use Rattle.migrate_plan.proofs.parting.kernel_beside.Goals as goal

pub rows_in-requires-clause-base : goal.rows_in-requires-clause-base
rows_in-requires-clause-base c = c.requires.base.base_is

pub rows_in-requires-clause-limit : goal.rows_in-requires-clause-limit
rows_in-requires-clause-limit c = subst (λ l. 0 < l) (sym c.requires.base.limit_is) c.requires.limit

pub returns-in_err-rows-clause-base : goal.returns-in_err-rows-clause-base
returns-in_err-rows-clause-base c = record { limit_is = c.rows_in.ensures.limit ∙ c.requires.base.limit_is; base_is = c.rows_in.ensures.base }

pub returns-in_default-clause-kernel : goal.returns-in_default-clause-kernel
returns-in_default-clause-kernel c =
    let both = c.args.both.now in
    over_made both.old.now.view.now.limit (repository_of both.pool both.book) c.args.flags.now c.args.base.now c.requires.base.limit_is (c.in_ok-rows.ensures.passed c.in_default.is)

pub returns-in_default-clause-known : goal.returns-in_default-clause-known
returns-in_default-clause-known c = λ made is. absurd (none-some made is)

pub returns-in_default-clause-rows : goal.returns-in_default-clause-rows
returns-in_default-clause-rows c = λ made is. absurd (none-some made is)

pub returns-in_default-clause-base : goal.returns-in_default-clause-base
returns-in_default-clause-base c = record { limit_is = c.rows_in.ensures.limit ∙ c.requires.base.limit_is; base_is = c.rows_in.ensures.base }

pub classes_of_part-requires-clause-mask : goal.classes_of_part-requires-clause-mask
classes_of_part-requires-clause-mask c =
    let both = c.args.both.now in
    c.masked-masked.ensures.mask both.pool (subst (λ rows. AreMixRows both.pool both.book c.rows_in.new.self c.args.flags.now rows) (sym c.deref.ensures.value) (c.in_ok-rows.ensures.rows _ c.in-Some.is))

pub returns-in_err-made-clause-base : goal.returns-in_err-made-clause-base
returns-in_err-made-clause-base c = record { limit_is = c.rows_in.ensures.limit ∙ c.requires.base.limit_is; base_is = c.rows_in.ensures.base }

pub returns-clause-kernel : goal.returns-clause-kernel
returns-clause-kernel c =
    let both = c.args.both.now in
    let flags = c.args.flags.now in
    let W = repository_of both.pool both.book in
    let limit = both.old.now.view.now.limit in
    let made = c.in_ok-made.made in
    let rows = subst (λ ids. AreMixRows both.pool both.book c.rows_in.new.self flags ids) (sym c.deref.ensures.value) (c.in_ok-rows.ensures.rows _ c.in-Some.is) in
    let flat = flat_part limit W flags c.rows_in.new.self c.masked-masked.result (sound_repository both.pool both.book c.requires.book.rows.is_pool c.requires.book) (c.requires.flags ∙ sym (book_size both.pool both.book))
    (c.rows_in.ensures.limit ∙ c.requires.base.limit_is) rows.within c.masked-masked.ensures.flags (c.masked-masked.ensures.flat both.pool rows) in
    subst (IsKernelAt limit false W flags) (sym c.beside.ensures)
    (beside_made limit W flags made c.in-Some.rows (subst (λ f. ForSome made (IsClassifiedPart limit (part flags W) f)) c.masked-masked.ensures.flags (c.in_ok-made.ensures.classes (part flags W) flat))
    c.in_ok-made.ensures.rounds (c.in_ok-made.ensures.passed (part flags W) flat))

pub returns-clause-known : goal.returns-clause-known
returns-clause-known c = subst (λ made. ForSome made KnowsRounds) (sym c.beside.ensures) (beside_known c.in_ok-made.made c.in-Some.rows c.in_ok-made.ensures.rounds)

pub returns-clause-rows : goal.returns-clause-rows
returns-clause-rows c =
    let both = c.args.both.now in
    let base = c.rows_in.new.self in
    subst (λ made. ForSome made (HasMixRows both (Some base) c.args.flags.now)) (sym c.beside.ensures) (beside_rows both base c.args.flags.now c.in_ok-made.made c.in-Some.rows (c.in_ok-rows.ensures.rows _ c.in-Some.is))

pub returns-clause-base : goal.returns-clause-base
returns-clause-base c = record { limit_is = c.rows_in.ensures.limit ∙ c.requires.base.limit_is; base_is = c.rows_in.ensures.base }
