use Rattle.std.proofs.Common.{◌<◌, ◌∙◌, ℕ, ap, get_or, length, subst, sym}
use Rattle.clause_pool.specs.Interned.{row_at}
use Rattle.listed.specs.Lists.{In}
use Rattle.row_book.specs.{Numbers.{numbers}, Repository.{clauses_of}}
use Rattle.class_merge.specs.{Classes.{HasClasses}, Grouping.{family_in, group_family}, Masks.{masked_repository}}
use Rattle.class_merge.proofs.{Families.{families_more, least_at, least_within, least_row}, Groups.{masked_row, row_read, row_within}}
use Rattle.class_merge.proofs.class_rows.class_families.Goals as goal

pub loop-class-init : goal.loop-class-init
unfolding numbers
loop-class-init c = c.new-made.ensures.items

pub bounds-masked-first : goal.bounds-masked-first
bounds-masked-first c = least_at c.args.masked.now c.requires.mask c.args.classes.now c.requires.classes c.deref-first-items.result.now c.deref-first-items.ensures.value c.loop-class.class c.loop-class-test.true

pub class_family-requires-clause-row : goal.class_family-requires-clause-row
class_family-requires-clause-row c =
    let p : ℕ = get_or c.deref-first-items.result.now c.loop-class.class 0 in
    subst (λ id. id < length c.args.masked.now.pool.now.rows) (sym (row_read c.args.masked.now c.requires.mask p c.index-masked-first.result (least_at c.args.masked.now c.requires.mask c.args.classes.now c.requires.classes c.deref-first-items.result.now c.deref-first-items.ensures.value c.loop-class.class c.loop-class-test.true))) (row_within c.args.masked.now c.requires.mask p (least_at c.args.masked.now c.requires.mask c.args.classes.now c.requires.classes c.deref-first-items.result.now c.deref-first-items.ensures.value c.loop-class.class c.loop-class-test.true))

pub class_family-requires-clause-has : goal.class_family-requires-clause-has
class_family-requires-clause-has c = λ d i.
    let k = c.loop-class.class in
    let p : ℕ = get_or c.deref-first-items.result.now k 0 in
    let firsts = c.args.classes.now.firsts.items in
    let pool = c.args.masked.now.pool.now in
    let own = ap (row_at pool) (row_read c.args.masked.now c.requires.mask p c.index-masked-first.result (least_at c.args.masked.now c.requires.mask c.args.classes.now c.requires.classes c.deref-first-items.result.now c.deref-first-items.ensures.value c.loop-class.class c.loop-class-test.true)) ∙ sym (masked_row c.args.masked.now c.requires.mask p (least_at c.args.masked.now c.requires.mask c.args.classes.now c.requires.classes c.deref-first-items.result.now c.deref-first-items.ensures.value c.loop-class.class c.loop-class-test.true))
    ∙ ap (clauses_of (masked_repository c.args.masked.now)) (ap (λ xs. get_or xs c.loop-class.class 0) c.deref-first-items.ensures.value) in
    subst (λ count. HasClasses count c.as_slice-class_of.result.now d) (sym (c.len-count.ensures ∙ sym c.deref-first-items.ensures.len ∙ ap length c.deref-first-items.ensures.value))
    (subst (λ z. HasClasses (length firsts) z d) (sym c.as_slice-class_of.ensures.value)
    (least_row c.args.masked.now c.requires.mask c.args.classes.now c.requires.classes k (least_within c.args.masked.now c.requires.mask c.args.classes.now c.requires.classes c.deref-first-items.result.now c.deref-first-items.ensures.value c.loop-class.class c.loop-class-test.true) d (subst (λ cs. In d cs) own i)))

pub loop-class-preserved : goal.loop-class-preserved
loop-class-preserved c =
    let k = c.loop-class.class in
    let p : ℕ = get_or c.deref-first-items.result.now k 0 in
    let firsts = c.args.classes.now.firsts.items in
    let class_of = c.args.classes.now.class_of.items in
    let pool = c.args.masked.now.pool.now in
    let own = ap (row_at pool) (row_read c.args.masked.now c.requires.mask p c.index-masked-first.result (least_at c.args.masked.now c.requires.mask c.args.classes.now c.requires.classes c.deref-first-items.result.now c.deref-first-items.ensures.value c.loop-class.class c.loop-class-test.true)) ∙ sym (masked_row c.args.masked.now c.requires.mask p (least_at c.args.masked.now c.requires.mask c.args.classes.now c.requires.classes c.deref-first-items.result.now c.deref-first-items.ensures.value c.loop-class.class c.loop-class-test.true))
    ∙ ap (clauses_of (masked_repository c.args.masked.now)) (ap (λ xs. get_or xs c.loop-class.class 0) c.deref-first-items.ensures.value) in
    families_more (group_family (masked_repository c.args.masked.now) firsts class_of) k c.loop-class.made.items c.push.new.self.items c.in_ok-family.family c.loop-class.invariant
    (c.in_ok-family.ensures ∙ ap (λ count. family_in count c.as_slice-class_of.result.now k (row_at pool (get_or c.args.masked.now.rows.now p c.index-masked-first.result))) (c.len-count.ensures ∙ sym c.deref-first-items.ensures.len ∙ ap length c.deref-first-items.ensures.value)
    ∙ ap (λ z. family_in (length firsts) z k (row_at pool (get_or c.args.masked.now.rows.now p c.index-masked-first.result))) c.as_slice-class_of.ensures.value ∙ ap (family_in (length firsts) class_of k) own)
    c.in_ok-push.ensures.items
