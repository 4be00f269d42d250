use Rattle.std.proofs.{Common.{◌++◌, ◌∙◌, refl, sym, ap, subst}, lemmas.Result.{err_from_is_err_and}}
use Rattle.virtual_provides.specs.Bearers.{IsBuiltFrom}
use Rattle.repo_model.specs.Refusals.{Refuses}
use Rattle.repo_model.proofs.Refusing.{refuses_first, refuses_behind, none_behind, duplicate_is}
use Rattle.repo_model.proofs.building.Building.read.Goals as goal

pub returns-in_err-check_new-clause-fault : goal.returns-in_err-check_new-clause-fault
returns-in_err-check_new-clause-fault c =
    let p = err_from_is_err_and c.from_residual-in_err-check_new.result c.from_residual-in_err-check_new.ensures.1 in
    let same = duplicate_is c.args.self.now.packages c.as_slice.result.now c.args.stanza.now c.in_ok-facts.facts c.name_in-name.result.now c.as_slice.ensures c.in_ok-facts.ensures.facts.1 c.name_in-name.ensures in
    rw (p.1, p.2) (refuses_behind _ _ _ c.in_ok-facts.ensures.facts.0 (refuses_first _ _ _ (subst (Refuses c.in_err-check_new.field-0.0) same c.in_err-check_new.ensures)))

pub returns-in_err-settle_home-clause-fault : goal.returns-in_err-settle_home-clause-fault
returns-in_err-settle_home-clause-fault c =
    let p = err_from_is_err_and c.from_residual-in_err-settle_home.result c.from_residual-in_err-settle_home.ensures.1 in
    let new = sym (duplicate_is c.args.self.now.packages c.as_slice.result.now c.args.stanza.now c.in_ok-facts.facts c.name_in-name.result.now c.as_slice.ensures c.in_ok-facts.ensures.facts.1 c.name_in-name.ensures) ∙ c.in_ok-check_new.ensures.0 in
    rw (p.1, p.2) (refuses_behind _ _ _ c.in_ok-facts.ensures.facts.0 (refuses_behind _ _ _ new (refuses_first _ _ _ (c.in_err-settle_home.ensures.fault c.args.stanza.now c.architecture_in-architecture.ensures))))

pub returns-clause-fault : goal.returns-clause-fault
returns-clause-fault c =
    let new = sym (duplicate_is c.args.self.now.packages c.as_slice.result.now c.args.stanza.now c.in_ok-facts.facts c.name_in-name.result.now c.as_slice.ensures c.in_ok-facts.ensures.facts.1 c.name_in-name.ensures) ∙ c.in_ok-check_new.ensures.0 in
    (none_behind _ _ c.in_ok-facts.ensures.facts.0 (none_behind _ _ new (none_behind _ _ (c.in_ok-settle_home.ensures.fault c.args.stanza.now c.architecture_in-architecture.ensures).0 refl)), c.in_ok-facts.ensures.facts.1)

pub check_new-requires : goal.check_new-requires
check_new-requires c = subst (λ packages. IsBuiltFrom packages c.args.self.now.names) (sym c.as_slice.ensures) c.requires.built.named

pub returns-clause-built : goal.returns-clause-built
returns-clause-built c = c.requires.built.named

pub returns-clause-noted : goal.returns-clause-noted
returns-clause-noted c = c.in_ok-facts.ensures.noted ∙ ap (λ before. before ++ c.in_ok-facts.facts.needs) c.requires.built.noted

pub returns-clause-home : goal.returns-clause-home
returns-clause-home c = c.in_ok-settle_home.ensures.home c.args.stanza.now c.architecture_in-architecture.ensures
