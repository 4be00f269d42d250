use Rattle.std.proofs.Common.{◌∙◌, ◌+◌, ap, map, subst, sym, take}
use Rattle.clause_pool.proofs.Interned.{kept_along}
use Rattle.listed.specs.Lists.{Ascending}
use Rattle.repo_model.specs.{Interning.{HasIds}, Repository.{clause_of}}
use Rattle.repo_model.proofs.{Chosen.{clause_ascending}, Interning.{ids_next, no_ids}}
use Rattle.repo_model.proofs.rows.clause_ids.Goals as goal

pub loop-element-init : goal.loop-element-init
loop-element-init c = no_ids (clause_of c.args.home.now c.args.packages.now) c.args.elements.now c.args.pool.now _ c.in_ok-ids.ensures.items

pub intern-requires : goal.intern-requires
intern-requires c = subst Ascending (sym (c.deref.ensures.value ∙ c.in_ok-clause.ensures)) (clause_ascending c.args.home.now c.args.packages.now c.as_slice.result.now)

pub loop-element-preserved : goal.loop-element-preserved
loop-element-preserved c =
    let f = clause_of c.args.home.now c.args.packages.now in
    let place = c.loop-element.element-index in
    subst (HasIds c.args.pool.now c.intern.new.self (map f (take (place + 1) c.args.elements.now))) (sym c.in_ok-push.ensures.items)
    (ids_next f c.args.elements.now place c.element-item.result c.deref.result.now c.args.pool.now c.loop-element.pool c.intern.new.self c.loop-element.ids.items c.in_ok-intern.field-0
    c.loop-element-test.true c.element-item.is (c.deref.ensures.value ∙ c.in_ok-clause.ensures ∙ ap f c.as_slice.ensures) c.loop-element.invariant c.intern.ensures.kept c.intern.ensures.rows
    c.in_ok-intern.ensures.ok c.in_ok-intern.ensures.gains)

pub returns-in_err-push-clause-kept : goal.returns-in_err-push-clause-kept
returns-in_err-push-clause-kept c = kept_along c.args.pool.now c.loop-element.pool c.intern.new.self c.loop-element.invariant.kept c.intern.ensures.kept
