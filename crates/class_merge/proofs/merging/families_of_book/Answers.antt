use Rattle.std.proofs.{Common.{◌≡◌, ◌∙◌, ap, length, refl, replicate, subst, true}, lemmas.Result.{IfOk-weaker}}
use Rattle.row_book.specs.Merging.{quotient}
use Rattle.class_merge.specs.Grouping.{IsUnpooled}
use Rattle.class_merge.proofs.Families.{book_masked, classes_listed, if_ok_both, part_is}
use Rattle.class_merge.proofs.merging.families_of_book.Goals as goal
use Rattle.class_merge.proofs.merging.families_of_book.Goals.{After-deref}

-- all flags are up
all_up : (c : After-deref) → c.deref.result.now ≡ replicate (length c.args.book.now.rows) true
all_up c = c.deref.ensures.value ∙ c.in_ok-flags.ensures ∙ ap (λ n. replicate n true) c.size.ensures

pub families_of-requires : goal.families_of-requires
families_of-requires c =
    book_masked c.args.pool.now c.args.book.now c.requires _ refl c.as_slice.ensures c.as_slice-2.ensures (all_up (goal.at.families_of-requires c).After-deref)

pub returns-clause-quotient : goal.returns-clause-quotient
returns-clause-quotient c =
    let part = part_is c.args.pool.now c.args.book.now c.requires (record { pool = c.args.pool; rows = c.as_slice.result; conflicts = c.as_slice-2.result; flags = c.deref.result }) refl c.as_slice.ensures c.as_slice-2.ensures
    (all_up (goal.at.returns-clause-quotient c).After-deref) in
    IfOk-weaker c.families_of.result _ _ (λ made is. subst (λ R. IsUnpooled (quotient R) made) part is) c.families_of.ensures.quotient

pub returns-clause-class_of : goal.returns-clause-class_of
returns-clause-class_of c =
    if_ok_both c.families_of.result
    (λ made are size. classes_listed c.args.pool.now c.args.book.now c.requires (record { pool = c.args.pool; rows = c.as_slice.result; conflicts = c.as_slice-2.result; flags = c.deref.result }) refl c.as_slice.ensures
    c.as_slice-2.ensures (all_up (goal.at.returns-clause-class_of c).After-deref) made.class_of.items size are)
    c.families_of.ensures.class_of c.families_of.ensures.size
