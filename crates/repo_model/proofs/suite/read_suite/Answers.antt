use Rattle.std.proofs.{Common.{◌∙◌, [], ap, arith}, lemmas.Result.{err_from_is_err_and}}
use Rattle.relation_fields.specs.declared.packages.Home.{Home}
use Rattle.repo_model.proofs.{Accepted.{read_named}, Standing.{front_of_nothing, place_first}}
use Rattle.repo_model.proofs.suite.read_suite.Goals as goal

pub returns-in_err-read-clause-refused : goal.returns-in_err-read-clause-refused
returns-in_err-read-clause-refused c =
    let p = err_from_is_err_and c.from_residual.result c.from_residual.ensures.1 in
    rw (p.1, p.2) (c.in_err-read.ensures.refused [] (front_of_nothing _ c.new.ensures.packages c.new.ensures.home))

pub returns-clause-accepted : goal.returns-clause-accepted
returns-clause-accepted c = (c.in_ok-read.ensures.suite [] (front_of_nothing _ c.new.ensures.packages c.new.ensures.home)).fine

pub returns-clause-packages : goal.returns-clause-packages
returns-clause-packages c = c.into_suite.ensures.packages ∙ (c.in_ok-read.ensures.suite [] (front_of_nothing _ c.new.ensures.packages c.new.ensures.home)).facts

pub returns-clause-home : goal.returns-clause-home
returns-clause-home c = ap (λ (home : Home). home.name) c.into_suite.ensures.home ∙ (c.in_ok-read.ensures.suite [] (front_of_nothing _ c.new.ensures.packages c.new.ensures.home)).common

pub returns-clause-named : goal.returns-clause-named
returns-clause-named c =
    let of = c.in_ok-read.ensures.suite [] (front_of_nothing _ c.new.ensures.packages c.new.ensures.home) in
    read_named c.args.bytes.now c.into_suite.result.packages of.fine (c.into_suite.ensures.packages ∙ of.facts)

pub read_behind-requires-clause-place : goal.read_behind-requires-clause-place
read_behind-requires-clause-place c = let fits = c.requires in place_first c.args.bytes.now 1 (omega arith) (omega (arith, fits))
