use Rattle.std.proofs.{Common.{◌∙◌, Ok, ap, sym}, lemmas.Result.{err_from_is_err_and}}
use Rattle.std.specs.Prelude.{count_by}
use Rattle.relation_fields.specs.declared.packages.Home.{Home}
use Rattle.repo_model.proofs.{Refusing.{none_behind, refuses_behind, refuses_first}, Short.{stanzas_short}}
use Rattle.status_check.specs.{Installed.{is_foreign}, Own.{own_stanzas_text}}
use Rattle.status_check.proofs.OwnTexts.{all_stanzas, flags_many, lines_fine, own_stanzas}
use Rattle.status_check.proofs.own.read_own.Goals as goal

pub suite_of_picked-requires-clause-many : goal.suite_of_picked-requires-clause-many
suite_of_picked-requires-clause-many c = flags_many c.args.home.now c.as_slice-stanzas.result.now c.deref.result.now (c.deref.ensures.value ∙ c.in_ok-sorted.ensures.own)

pub suite_of_picked-requires-clause-short : goal.suite_of_picked-requires-clause-short
suite_of_picked-requires-clause-short c = stanzas_short c.args.bytes.now c.as_slice-stanzas.result.now c.requires (c.in_ok-all.ensures.stanzas ∙ ap Ok (sym c.as_slice-stanzas.ensures))

pub returns-in_err-all-clause-refused : goal.returns-in_err-all-clause-refused
returns-in_err-all-clause-refused c =
    let p = err_from_is_err_and c.from_residual.result c.from_residual.ensures.1 in rw (p.1, p.2) (refuses_first _ _ _ c.in_err-all.ensures.refused)

pub returns-in_err-suite-clause-refused : goal.returns-in_err-suite-clause-refused
returns-in_err-suite-clause-refused c =
    let p = err_from_is_err_and c.from_residual-in_err-suite.result c.from_residual-in_err-suite.ensures.1 in
    let read = c.in_ok-all.ensures.stanzas ∙ ap Ok (sym c.as_slice-stanzas.ensures) in
    let own = own_stanzas c.args.home.now c.args.bytes.now c.as_slice-stanzas.result.now c.deref.result.now read (c.deref.ensures.value ∙ c.in_ok-sorted.ensures.own) in
    rw (p.1, p.2) (refuses_behind _ _ _ (lines_fine c.args.bytes.now c.as_slice-stanzas.result.now read) (c.in_err-suite.ensures.refused (own_stanzas_text c.args.home.now c.args.bytes.now) own))

pub returns-clause-accepted : goal.returns-clause-accepted
returns-clause-accepted c =
    let read = c.in_ok-all.ensures.stanzas ∙ ap Ok (sym c.as_slice-stanzas.ensures) in
    let own = own_stanzas c.args.home.now c.args.bytes.now c.as_slice-stanzas.result.now c.deref.result.now read (c.deref.ensures.value ∙ c.in_ok-sorted.ensures.own) in
    none_behind _ _ (lines_fine c.args.bytes.now c.as_slice-stanzas.result.now read) (c.in_ok-suite.ensures.suite (own_stanzas_text c.args.home.now c.args.bytes.now) own).fine

pub returns-clause-packages : goal.returns-clause-packages
returns-clause-packages c =
    let read = c.in_ok-all.ensures.stanzas ∙ ap Ok (sym c.as_slice-stanzas.ensures) in
    let own = own_stanzas c.args.home.now c.args.bytes.now c.as_slice-stanzas.result.now c.deref.result.now read (c.deref.ensures.value ∙ c.in_ok-sorted.ensures.own) in
    (c.in_ok-suite.ensures.suite (own_stanzas_text c.args.home.now c.args.bytes.now) own).facts

pub returns-clause-home : goal.returns-clause-home
returns-clause-home c =
    let read = c.in_ok-all.ensures.stanzas ∙ ap Ok (sym c.as_slice-stanzas.ensures) in
    let own = own_stanzas c.args.home.now c.args.bytes.now c.as_slice-stanzas.result.now c.deref.result.now read (c.deref.ensures.value ∙ c.in_ok-sorted.ensures.own) in
    ap (λ n. let h : Home = record { name = n } in h) (c.in_ok-suite.ensures.suite (own_stanzas_text c.args.home.now c.args.bytes.now) own).common

pub returns-clause-foreign : goal.returns-clause-foreign
returns-clause-foreign c =
    c.in_ok-sorted.ensures.foreign ∙ ap (count_by (is_foreign c.args.home.now)) (c.as_slice-stanzas.ensures ∙ sym (all_stanzas c.args.bytes.now c.in_ok-all.all c.in_ok-all.ensures.stanzas))
