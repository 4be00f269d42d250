use Rattle.std.proofs.Common.{◌<◌, length, ap, refl, sym, subst, ◌∙◌, arith}
use Rattle.repo_model.{specs.Repository.{suite_repository}, proofs.Packages.{length_clauses}}
use Rattle.suite_compare.{proofs.Gathering.{image_made, table_of}, proofs.SuiteKernels.{suite_sound}}
use Rattle.suite_compare.proofs.ask.image_of.Goals as goal

pub classes_by-requires : goal.classes_by-requires
classes_by-requires c = λ n i.
    let l : n < length c.args.view.now.suite.packages = c.requires n i in
    omega (arith, l, ap length c.as_slice.ensures, table_of c.args.view.now.limit c.args.view.now.kernel.hold c.args.view.now.suite.home c.args.view.now.suite.packages c.args.view.now.kernel.class_of c.args.view.now.of_suite.kernel_is.class_of)

pub returns : goal.returns
returns c =
    let home = c.args.view.now.suite.home in
    let stanzas = c.args.view.now.suite.packages in
    image_made c.args.view.now.limit c.args.view.now.kernel.hold (suite_repository home stanzas) (suite_sound home stanzas) c.as_slice.result.now c.args.chosen.now
    (c.as_slice.ensures ∙ c.args.view.now.of_suite.kernel_is.class_of)
    (λ n i. subst (λ size. n < size) (sym (length_clauses home stanzas)) (c.requires n i))
    _ c.in_ok-classes.classes.items refl c.in_ok-classes.ensures.ascending c.in_ok-classes.ensures.same
