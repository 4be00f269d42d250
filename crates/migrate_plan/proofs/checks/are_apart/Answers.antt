use Rattle.std.proofs.Common.{ap, ◌∙◌}
use Rattle.std.specs.{Prelude.{not}, Str.{bytes_eq}}
use Rattle.migrate_plan.proofs.checks.are_apart.Goals as goal

pub returns-in-Some-name : goal.returns-in-Some-name
returns-in-Some-name c =
    rw (c.in-Some.is, c.in-Some-name.is)
    (c.ne.ensures ∙ ap (λ one. not (bytes_eq one c.as_slice-in-Some-name.result.now)) c.as_slice.ensures ∙ ap (λ other. not (bytes_eq c.in-Some.one other)) c.as_slice-in-Some-name.ensures)
