use Rattle.std.proofs.{Common.{◌≡◌, ◌<◌, ◌∙◌, ℕ, List, ap, sym, subst, map, length, arith}, lemmas.List.{take_all}}
use Rattle.clause_pool.specs.{Interned.{Interned, row_at}, Compacting.{Compacts}}
use Rattle.listed.specs.Lists.{In}
use Rattle.row_book.specs.Book.{IsSameBook}
use Rattle.listed.proofs.Lists.{item_in}
use Rattle.row_book.proofs.Moved.{ok_both, renamed_more, renamed_none, same_book}
use Rattle.row_book.proofs.book.Book.rename.Goals as goal

pub loop-row-init : goal.loop-row-init
loop-row-init c = renamed_none c.args.remap.now c.as_slice-row-items.result.now c.new-rows.result.items c.new-rows.ensures.items

pub row-requires : goal.row-requires
row-requires c =
    c.requires c.row-item.result
    (subst (λ z. In c.row-item.result z) c.as_slice-row-items.ensures (item_in c.as_slice-row-items.result.now c.loop-row.row-index c.row-item.result c.loop-row-test.true c.row-item.is))

pub loop-row-preserved : goal.loop-row-preserved
loop-row-preserved c =
    renamed_more c.args.remap.now c.as_slice-row-items.result.now c.loop-row.rows.items c.push.new.self.items c.loop-row.row-index c.row-item.result c.row.result c.loop-row-test.true c.row-item.is
    c.row.ensures c.in_ok-push.ensures.items c.loop-row.invariant

pub with_rows-requires : goal.with_rows-requires
with_rows-requires c =
    let all : c.loop-row.row-index ≡ length c.as_slice-row-items.result.now = omega arith in
    ap length c.of.ensures ∙ c.loop-row.invariant.size ∙ all ∙ ap length c.as_slice-row-items.ensures

pub returns : goal.returns
returns c =
    ok_both (λ book. book.rows ≡ c.of.result) (λ book. book.conflicts ≡ c.args.self.now.conflicts)
    (λ book. (old new : Interned) (live : List ℕ) → Compacts old live c.args.remap.now new → IsSameBook old c.args.self.now new book) c.with_rows.result
    (λ book e f old new live k.
    let d = c.loop-row.invariant.each old new live k in
    let all : map (row_at old) c.as_slice-row-items.result.now ≡ map (row_at old) c.args.self.now.rows = ap (map (row_at old)) c.as_slice-row-items.ensures in
    let is : book.rows ≡ c.loop-row.rows.items = e ∙ c.of.ensures in
    same_book old c.args.self.now new book k.sound
    (ap (map (row_at new)) is ∙ d.0 ∙ ap (map (row_at old)) (take_all c.loop-row.row-index c.as_slice-row-items.result.now c.loop-row-test.false) ∙ all) f
    (subst (λ z. (id : ℕ) → In id z → id < length new.rows) (sym is) d.1))
    c.with_rows.ensures.rows c.with_rows.ensures.conflicts
