use Rattle.std.proofs.{Common.{◌∙◌, ◌∷◌, [], ap, drop, length, map, refl, subst, take, arith}, lemmas.List.{take_all}}
use Rattle.clause_pool.proofs.Interned.{kept_along}
use Rattle.listed.proofs.Lists.{in_take, In_drop}
use Rattle.relation_fields.specs.{Shared.{marked}, declared.packages.PackageFacts.{PackageFacts}}
use Rattle.clause_pool.specs.Clauses.{in_row_order}
use Rattle.listed.specs.Lists.{In}
use Rattle.repo_model.specs.{Interning.{HasIds, HasRows}, Ranks.{AreRanked}, Repository.{clause_of, row_of}}
use Rattle.repo_model.proofs.Interning.{no_rows, rows_and_clauses, rows_next}
use Rattle.repo_model.proofs.Marked.{clauses_of_marks, each_marked, marks_within, own_fits, own_marked, ranking_stays, ranks_counted, rest_marked}
use Rattle.repo_model.proofs.rows.intern_rows.Goals as goal

pub loop-facts-init : goal.loop-facts-init
loop-facts-init c = record {
  made = no_rows c.clause_ids.new.pool _ c.in_ok-rows.ensures.items;
  clauses = refl;
  elements = ap (marked c.args.elements.now.distinct.items) c.as_slice-left.ensures.value ∙ c.requires.elements;
  within = λ mark i.
      marks_within c.args.elements.now.distinct.items c.args.elements.now.marks.items c.args.elements.now.marked mark (subst (λ marks. In mark marks) c.as_slice-left.ensures.value i);
}

pub split_at-requires : goal.split_at-requires
split_at-requires c =
    let count = ap length c.as_slice.ensures in
    let fits =
    own_fits (λ (s : PackageFacts). s.needs) c.args.packages.now c.loop-facts.facts-index c.facts-item.result c.args.elements.now.distinct.items c.loop-facts.left.now c.loop-facts-test.true c.facts-item.is
    c.loop-facts.invariant.elements in
    omega (arith, count, fits)

pub intern_row-requires-clause-ranked : goal.intern_row-requires-clause-ranked
intern_row-requires-clause-ranked c = ranking_stays c.clause_ids.new.pool c.loop-facts.pool c.in_ok-ranks.ranks c.loop-facts.invariant.clauses c.in_ok-ranks.ensures.ranking

pub intern_row-requires-clause-marks : goal.intern_row-requires-clause-marks
intern_row-requires-clause-marks c =
    let f = clause_of c.args.home.now c.args.packages.now in
    let middle = c.clause_ids.new.pool in
    let ids = c.in_ok-ids.ids.items in
    let has = subst (λ elements. HasIds c.args.pool.now middle (map f elements) ids) c.as_slice-distinct.ensures.value c.in_ok-ids.ensures.ids in
    let ranked = subst (λ xs. AreRanked middle xs c.in_ok-ranks.ranks) c.deref.ensures.value c.in_ok-ranks.ensures in
    λ mark i.
    ranks_counted f c.args.pool.now middle c.args.elements.now.distinct.items ids c.in_ok-ranks.ranks has ranked mark
    (c.loop-facts.invariant.within mark (in_take c.loop-facts.left.now (length c.as_slice.result.now) mark (subst (λ marks. In mark marks) c.split_at.ensures.front i)))

pub loop-facts-preserved : goal.loop-facts-preserved
loop-facts-preserved c =
    let f = clause_of c.args.home.now c.args.packages.now in
    let middle = c.clause_ids.new.pool in
    let ids = c.in_ok-ids.ids.items in
    let distinct = c.args.elements.now.distinct.items in
    let left = c.loop-facts.left.now in
    let place = c.loop-facts.facts-index in
    let facts = c.facts-item.result in
    let inv = c.loop-facts.invariant in
    let own = c.split_at.result.0.now in
    let has = subst (λ elements. HasIds c.args.pool.now middle (map f elements) ids) c.as_slice-distinct.ensures.value c.in_ok-ids.ensures.ids in
    let ranked = subst (λ xs. AreRanked middle xs c.in_ok-ranks.ranks) c.deref.ensures.value c.in_ok-ranks.ensures in
    let needs = λ (s : PackageFacts). s.needs in
    let mine = ap (marked distinct) (c.split_at.ensures.front ∙ ap (λ xs. take (length xs) left) c.as_slice.ensures)
    ∙ own_marked needs c.args.packages.now place facts distinct left c.loop-facts-test.true c.facts-item.is inv.elements in
    let row = c.in_ok-intern_row.field-0 in record {
      made = rows_next (row_of c.args.home.now c.args.packages.now) c.args.packages.now place facts middle c.loop-facts.pool c.intern_row.new.pool c.loop-facts.rows.items c.push.new.self.items row
          c.loop-facts-test.true c.facts-item.is inv.made
          (subst (λ clauses. HasRows c.loop-facts.pool c.intern_row.new.pool (in_row_order clauses ∷ []) (row ∷ []))
          (clauses_of_marks f c.args.pool.now middle distinct ids c.in_ok-ranks.ranks has ranked c.loop-facts.pool own facts.needs inv.clauses
          (λ mark i. inv.within mark (in_take left (length c.as_slice.result.now) mark (subst (λ marks. In mark marks) c.split_at.ensures.front i))) mine)
          c.in_ok-intern_row.ensures.row)
          c.in_ok-push.ensures.items;
      clauses = c.intern_row.ensures.clauses ∙ inv.clauses;
      elements = ap (marked distinct) (c.split_at.ensures.back ∙ ap (λ xs. drop (length xs) left) c.as_slice.ensures)
          ∙ rest_marked needs c.args.packages.now place facts distinct left c.loop-facts-test.true c.facts-item.is inv.elements;
      within = λ mark i. inv.within mark (In_drop (length c.as_slice.result.now) left mark (subst (λ marks. In mark marks) c.split_at.ensures.back i));
    }

pub returns-clause-rows : goal.returns-clause-rows
returns-clause-rows c =
    let f = clause_of c.args.home.now c.args.packages.now in
    let middle = c.clause_ids.new.pool in
    let ids = c.in_ok-ids.ids.items in
    let distinct = c.args.elements.now.distinct.items in
    let has = subst (λ elements. HasIds c.args.pool.now middle (map f elements) ids) c.as_slice-distinct.ensures.value c.in_ok-ids.ensures.ids in
    let made = subst (λ packages. HasRows middle c.loop-facts.pool (map (row_of c.args.home.now c.args.packages.now) packages) c.loop-facts.rows.items)
    (take_all c.loop-facts.facts-index c.args.packages.now (omega arith)) c.loop-facts.invariant.made in
    rows_and_clauses (λ (s : PackageFacts). s.needs) f c.args.packages.now distinct c.args.pool.now middle c.loop-facts.pool ids c.loop-facts.rows.items (made.kept.sound c.in_ok-ranks.ensures.sound)
    has made c.loop-facts.invariant.clauses
    (λ element i. subst (λ elements. In element elements) c.requires.elements (each_marked distinct c.args.elements.now.marks.items c.args.elements.now.marked element i))

pub returns-in_err-intern_row-clause-kept : goal.returns-in_err-intern_row-clause-kept
returns-in_err-intern_row-clause-kept c =
    kept_along c.args.pool.now c.loop-facts.pool c.intern_row.new.pool (kept_along c.args.pool.now c.clause_ids.new.pool c.loop-facts.pool c.clause_ids.ensures.kept c.loop-facts.invariant.made.kept)
    c.intern_row.ensures.kept

pub returns-in_err-push-clause-kept : goal.returns-in_err-push-clause-kept
returns-in_err-push-clause-kept c =
    kept_along c.args.pool.now c.loop-facts.pool c.intern_row.new.pool (kept_along c.args.pool.now c.clause_ids.new.pool c.loop-facts.pool c.clause_ids.ensures.kept c.loop-facts.invariant.made.kept)
    c.intern_row.ensures.kept

pub returns-clause-kept : goal.returns-clause-kept
returns-clause-kept c = kept_along c.args.pool.now c.clause_ids.new.pool c.loop-facts.pool c.clause_ids.ensures.kept c.loop-facts.invariant.made.kept
