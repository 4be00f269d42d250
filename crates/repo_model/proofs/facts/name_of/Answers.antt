use Rattle.std.proofs.Common.{◌∙◌}
use Rattle.repo_model.proofs.Taking.{name_missing, name_taken}
use Rattle.repo_model.proofs.facts.name_of.Goals as goal

pub returns-in-Some : goal.returns-in-Some
returns-in-Some c =
    c.value_in.ensures
    ∙ name_taken c.args.stanza.fields _ _ c.in-Some.place c.swap_remove.result c.into_vec-fields.ensures c.as_slice.ensures.value c.in-Some.ensures c.swap_remove.ensures.value

pub returns : goal.returns
returns c = c.of.ensures ∙ c.new.ensures.items ∙ name_missing c.args.stanza.fields _ _ c.into_vec-fields.ensures c.as_slice.ensures.value c.in-None.ensures
