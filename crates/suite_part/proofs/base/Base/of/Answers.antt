use Rattle.std.proofs.{Common.{◌≡◌, ◌-◌, ◌∙◌, ap, false, length, map, sym, subst}, lemmas.Option.{none-some, same_Some}}
use Rattle.clause_pool.specs.Interned.{row_at}
use Rattle.row_book.specs.{Flattening.{passes}, Uses.{uses_of}}
use Rattle.suite_part.specs.{BaseRows.{AreBaseRows}, Bases.{first_flags}, Renewed.{EndsInEmpty}}
use Rattle.suite_part.proofs.BaseMade.{base_made, base_rows, first_made}
use Rattle.suite_part.proofs.base.Base.of.Goals as goal
use Rattle.suite_part.proofs.base.Base.of.Goals.{In_ok-flags}

-- the flags are those of the first packages
firsts : (c : In_ok-flags) → c.in_ok-first.first.flags.items ≡ first_flags c.args.count (length c.args.book.now.rows)
firsts c = c.in_ok-first.ensures ∙ ap (first_flags c.args.count) c.size.ensures

-- and the rows have empty ones behind them
filled : (c : In_ok-flags) → EndsInEmpty c.with_empty.new.pool c.in_ok-first_rows.first_rows.items (length c.args.book.now.rows - c.args.count) c.in_ok-rows.rows.items
filled c = subst (λ z. EndsInEmpty c.with_empty.new.pool c.in_ok-first_rows.first_rows.items (z - c.args.count) c.in_ok-rows.rows.items) c.size-2.ensures c.in_ok-rows.ensures.rows

pub invariant_of-result : goal.invariant_of-result
invariant_of-result c =
    let at = (goal.at.invariant_of-result c).In_ok-flags in
    record {
      rows_are = subst (λ flags. AreBaseRows c.with_empty.new.pool c.in_ok-rows.rows.items (length flags)) (sym (c.in_ok-flags.ensures.items ∙ c.deref.ensures.value)) (
          base_rows c.args.from.now c.part_of.new.pool c.flatten.new.pool c.carry_rows.new.self c.with_empty.new.pool c.args.book.now c.in_ok-part.part c.in-Ok.made.book c.args.count c.args.limit c.in_ok-first.first.flags.items
          c.in_ok-first_rows.first_rows.items c.in_ok-rows.rows.items c.requires.count (firsts at) c.in_ok-part.ensures.part c.in-Ok.ensures.flat
          (c.in_ok-first_rows.ensures.same ∙ ap (map (row_at c.flatten.new.pool)) c.as_slice-2.ensures) c.in-Ok.ensures.sound c.in_ok-first_rows.ensures.within c.carry_rows.ensures.sound c.with_empty.ensures.kept (filled at)
          c.with_empty.ensures.sound);
    }

pub returns-clause-base : goal.returns-clause-base
returns-clause-base c = λ made is.
    let at = (goal.at.returns-clause-base c).In_ok-flags in
    let same = same_Some _ made is in
    let flags = sym (ap (λ b. b.flags.items) same) ∙ c.in_ok-flags.ensures.items ∙ c.deref.ensures.value ∙ firsts at in (
      base_made c.args.from.now c.part_of.new.pool c.flatten.new.pool c.carry_rows.new.self c.with_empty.new.pool c.args.book.now c.in_ok-part.part c.in-Ok.made.book c.args.count c.args.limit c.in_ok-first.first.flags.items
          c.in_ok-first_rows.first_rows.items c.in_ok-rows.rows.items c.requires.count (firsts at) c.in_ok-part.ensures.part c.in-Ok.ensures.flat
          (c.in_ok-first_rows.ensures.same ∙ ap (map (row_at c.flatten.new.pool)) c.as_slice-2.ensures) c.in-Ok.ensures.sound c.in_ok-first_rows.ensures.within c.carry_rows.ensures.sound c.with_empty.ensures.kept (filled at)
          made flags (sym (ap (λ b. b.limit) same)) (sym (ap (λ b. b.pool) same)) (sym (ap (λ b. b.rows.items) same))
          (sym (ap (λ b. b.users) same) ∙ c.in_ok-users.ensures ∙ ap (uses_of c.args.from.now) c.as_slice.ensures) c.in-Ok.ensures.within c.with_empty.ensures.sound,
      flags,
      sym (ap (λ b. b.limit) same),
    )

pub returns-in-Err-Limit-clause-passed : goal.returns-in-Err-Limit-clause-passed
returns-in-Err-Limit-clause-passed c =
    let over = rw c.in-Err-Limit.field-0-is at c.in-Err-Limit.ensures.passed in
    let first = first_made c.args.from.now c.part_of.new.pool c.args.book.now c.in_ok-part.part c.args.count c.in_ok-first.first.flags.items
    (c.in_ok-first.ensures ∙ ap (first_flags c.args.count) c.size.ensures) c.in_ok-part.ensures.part in
    λ _ none. none-some _ (sym (ap (passes c.args.limit false) first ∙ none) ∙ over)
