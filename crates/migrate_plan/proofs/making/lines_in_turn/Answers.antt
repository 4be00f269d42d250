use Rattle.std.proofs.Common.{◌∙◌, ap, subst, sym}
use Rattle.listed.specs.Lists.{In}
use Rattle.listed.proofs.Lists.{In_at}
use Rattle.migrate_plan.specs.{Plan.{line_behind}, BothSuites.{names_between, settings_between}}
use Rattle.migrate_plan.proofs.Planned.{leads_all, leads_first, leads_more, taken_first, taken_more}
use Rattle.migrate_plan.proofs.making.lines_in_turn.Goals as goal

pub loop-name-init : goal.loop-name-init
loop-name-init c =
    let settings = settings_between c.args.both.now in
    record {
      takes = taken_first c.new-lines.result c.args.names.now c.new-taken.result.items c.new-lines.ensures c.new-taken.ensures.items;
      leads = λ texts are. leads_first (line_behind settings texts.old texts.new) c.args.names.now c.new-lines.result c.new-lines.ensures;
      reuse = c.requires.reuse;
    }

pub try_name-requires-clause-taken : goal.try_name-requires-clause-taken
try_name-requires-clause-taken c = λ other i. subst (In other) c.requires.names (c.loop-name.invariant.takes.among other (subst (In other) c.as_slice.ensures.value i))

pub try_name-requires-clause-name : goal.try_name-requires-clause-name
try_name-requires-clause-name c =
    let names = c.args.names.now in
    let item = c.name-item.result in
    subst (λ n. In n (names_between c.args.both.now)) (sym c.as_slice-in-loop-name.ensures)
    (subst (In item) c.requires.names (subst (λ n. In n names) (sym c.name-item.is) (In_at names c.loop-name.name-index item c.loop-name-test.true)))

pub loop-name-preserved : goal.loop-name-preserved
loop-name-preserved c =
    let settings = settings_between c.args.both.now in
    let names = c.args.names.now in
    let item = c.name-item.result in
    let lines = c.loop-name.lines in
    record {
      takes = taken_more lines c.push.new.self names c.loop-name.taken.items c.put_taken.new.taken.items item c.in_ok-line.line (subst (λ n. In n names) (sym c.name-item.is) (In_at names c.loop-name.name-index item c.loop-name-test.true))
          (c.in_ok-line.ensures.named ∙ c.as_slice-in-loop-name.ensures) c.in_ok-push.ensures.ok c.in_ok-put_taken.ensures c.loop-name.invariant.takes;
      leads = λ texts are. leads_more (line_behind settings texts.old texts.new) names c.loop-name.name-index lines c.push.new.self item c.in_ok-line.line c.loop-name-test.true c.name-item.is
          (c.in_ok-line.ensures.line texts are lines (c.as_slice.ensures.value ∙ c.loop-name.invariant.takes.taken_is) ∙ ap (line_behind settings texts.old texts.new lines) c.as_slice-in-loop-name.ensures)
          c.in_ok-push.ensures.ok (c.loop-name.invariant.leads texts are);
      reuse = c.in_ok-line.ensures.reuse;
    }

pub returns : goal.returns
returns c =
    let settings = settings_between c.args.both.now in
    λ texts are. leads_all (line_behind settings texts.old texts.new) c.args.names.now c.loop-name.name-index c.loop-name.lines c.loop-name-test.false (c.loop-name.invariant.leads texts are)
