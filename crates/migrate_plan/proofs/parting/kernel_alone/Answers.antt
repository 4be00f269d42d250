use Rattle.std.proofs.{Common.{◌≡◌, ◌∙◌, ap, length, map, subst, sym}, lemmas.Option.{none-some, same_Some}}
use Rattle.row_book.specs.{Book.{repository_of}, Numbers.{numbers}, Parts.{number_in, part, place_in}, Rounds.{limit_at}}
use Rattle.row_book.proofs.BookRepositories.{book_size, sound_repository}
use Rattle.migrate_plan.specs.BothSuites.{HasMixRows, KnowsRounds}
use Rattle.migrate_plan.proofs.Parted.{own_made}
use Rattle.migrate_plan.proofs.parting.kernel_alone.Goals as goal

pub part_of-requires-clause-flags : goal.part_of-requires-clause-flags
part_of-requires-clause-flags c = ap length (c.in_ok-chosen.ensures ∙ c.in_ok-from_slice.ensures.items) ∙ c.requires.flags

pub returns-in-Err-Limit-clause-kernel : goal.returns-in-Err-Limit-clause-kernel
returns-in-Err-Limit-clause-kernel c =
    let both = c.args.both.now in
    let view = both.old.now.view.now in
    let same = c.in_ok-book.ensures.part ∙ ap (λ flags. part flags (repository_of both.pool both.book)) (c.in_ok-chosen.ensures ∙ c.in_ok-from_slice.ensures.items) in
    (_, ap (limit_at view.limit view.kernel.hold) (sym same) ∙ rw c.in-Err-Limit.field-0-is at c.in-Err-Limit.ensures.passed)

pub returns-in-Err-Limit-clause-known : goal.returns-in-Err-Limit-clause-known
returns-in-Err-Limit-clause-known c = λ made is. absurd (none-some made is)

pub returns-in-Err-Limit-clause-rows : goal.returns-in-Err-Limit-clause-rows
returns-in-Err-Limit-clause-rows c = λ base made is. absurd (none-some made is)

pub returns-clause-kernel : goal.returns-clause-kernel
returns-clause-kernel c =
    let both = c.args.both.now in
    let view = both.old.now.view.now in
    let flags = c.args.flags.now in
    let W = repository_of both.pool both.book in
    let chosen = c.in_ok-chosen.chosen.flags.items in
    let up : chosen ≡ flags = c.in_ok-chosen.ensures ∙ c.in_ok-from_slice.ensures.items in
    own_made view.limit view.kernel.hold W (sound_repository both.pool both.book c.requires.book.rows.is_pool c.requires.book) flags (c.requires.flags ∙ sym (book_size both.pool both.book))
    _ _ c.in-Ok.kernel _ c.in_ok-class_of.class_of chosen (c.in_ok-book.ensures.part ∙ ap (λ f. part f W) up) up c.in-Ok.ensures.kernel
    (subst (λ list. c.in_ok-class_of.class_of.items ≡ map (λ n. number_in list (place_in chosen n)) (numbers (length chosen) 0)) c.as_slice.ensures c.in_ok-class_of.ensures)

pub returns-clause-known : goal.returns-clause-known
returns-clause-known c = λ made is. subst KnowsRounds (same_Some _ made is) tt

pub returns-clause-rows : goal.returns-clause-rows
returns-clause-rows c = λ base made is. subst (HasMixRows c.args.both.now base c.args.flags.now) (same_Some _ made is) tt
