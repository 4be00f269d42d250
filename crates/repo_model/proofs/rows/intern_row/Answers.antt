use Rattle.std.proofs.Common.{◌≡◌, ◌∙◌, ◌<◌, ap, ap₂, get_or, length, map, subst, sym, ℕ}
use Rattle.clause_pool.specs.{Interned.{clauses_at, OfPool}, Clauses.{in_row_order}, Lists.{InOrder}}
use Rattle.listed.specs.Lists.{In}
use Rattle.repo_model.specs.Ranks.{clauses_marked, ids_of_ranks}
use Rattle.repo_model.proofs.{Interning.{row_made}, Ranked.{ranked_in_order, ranked_of_pool, ranks_within, row_ranked}}
use Rattle.repo_model.proofs.rows.intern_row.Goals as goal

pub note_ids-requires : goal.note_ids-requires
note_ids-requires c = λ rank i.
    subst (λ order. rank < length order) (sym c.deref-2.ensures.value)
    (ranks_within c.args.pool.now c.args.ranks.now c.requires.ranked c.args.marks.now c.note_ranks.new.made.items c.requires.marks
    (λ r j. subst (λ ranks. In r (map (λ mark. get_or ranks mark 0) c.args.marks.now)) c.deref.ensures.value ((c.in_ok-note_ranks.ensures.same r).0 j)) rank
    (subst (λ ranks. In rank ranks) c.deref-3.ensures.value i))

pub intern_row-requires-clause-of_pool : goal.intern_row-requires-clause-of_pool
intern_row-requires-clause-of_pool c =
    let pool = c.args.pool.now in
    let made = c.args.ranks.now in
    let ranks = c.note_ranks.new.made.items in
    let ids = c.deref-4.ensures.value ∙ c.in_ok-note_ids.ensures ∙ ap₂ ids_of_ranks c.deref-2.ensures.value c.deref-3.ensures.value in
    subst (OfPool pool) (sym ids)
    (ranked_of_pool pool made c.requires.ranked ranks
    (ranks_within pool made c.requires.ranked c.args.marks.now ranks c.requires.marks
    (λ r j. subst (λ rs. In r (map (λ mark. get_or rs mark 0) c.args.marks.now)) c.deref.ensures.value ((c.in_ok-note_ranks.ensures.same r).0 j))))

pub intern_row-requires-clause-in_order : goal.intern_row-requires-clause-in_order
intern_row-requires-clause-in_order c =
    let pool = c.args.pool.now in
    let made = c.args.ranks.now in
    let ranks = c.note_ranks.new.made.items in
    let ids = c.deref-4.ensures.value ∙ c.in_ok-note_ids.ensures ∙ ap₂ ids_of_ranks c.deref-2.ensures.value c.deref-3.ensures.value in
    subst (λ xs. InOrder (clauses_at pool xs)) (sym ids)
    (ranked_in_order pool made c.requires.ranked ranks c.in_ok-note_ranks.ensures.ascending
    (ranks_within pool made c.requires.ranked c.args.marks.now ranks c.requires.marks
    (λ r j. subst (λ rs. In r (map (λ mark. get_or rs mark 0) c.args.marks.now)) c.deref.ensures.value ((c.in_ok-note_ranks.ensures.same r).0 j))))

pub returns-clause-row : goal.returns-clause-row
returns-clause-row c =
    let pool = c.args.pool.now in
    let made = c.args.ranks.now in
    let marks = c.args.marks.now in
    let ranks = c.note_ranks.new.made.items in
    let ids = c.deref-4.ensures.value ∙ c.in_ok-note_ids.ensures ∙ ap₂ ids_of_ranks c.deref-2.ensures.value c.deref-3.ensures.value in
    let theirs = λ (r : ℕ) (j : In r ranks). subst (λ rs. In r (map (λ mark. get_or rs mark 0) marks)) c.deref.ensures.value ((c.in_ok-note_ranks.ensures.same r).0 j) in
    let all = λ (r : ℕ) (j : In r (map (λ mark. get_or made.ranks.items mark 0) marks)).
    (c.in_ok-note_ranks.ensures.same r).1 (subst (λ rs. In r (map (λ mark. get_or rs mark 0) marks)) (sym c.deref.ensures.value) j) in
    let within = ranks_within pool made c.requires.ranked marks ranks c.requires.marks theirs in
    row_made pool c.intern_row.new.self (in_row_order (clauses_marked pool made marks)) c.deref-4.result.now c.in_ok-row.row
    (subst (OfPool pool) (sym ids) (ranked_of_pool pool made c.requires.ranked ranks within))
    (ap (clauses_at pool) ids ∙ row_ranked pool made c.requires.ranked marks ranks c.in_ok-note_ranks.ensures.ascending within theirs all)
    c.intern_row.ensures.kept c.intern_row.ensures.clauses c.in_ok-row.ensures.ok c.in_ok-row.ensures.gains
