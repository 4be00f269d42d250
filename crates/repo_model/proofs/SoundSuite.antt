-- The repository of an index is sound.
use Rattle.std.proofs.Common.{List, refl}
use Rattle.relation_fields.specs.{declared.packages.Home.{Home}, declared.packages.PackageFacts.{PackageFacts}}
use Rattle.row_book.specs.{Repository.{conflicts_of}, Sound.{SoundRepository}}
use Rattle.listed.proofs.Lists.{In_has, has_not}
use Rattle.repo_model.specs.Repository.{suite_repository}
use Rattle.repo_model.proofs.Form.{clause_form, conflict_two, conflict_turned, conflicts_order, form_lists}

pub suite_sound : (home : Home) (stanzas : List PackageFacts) → SoundRepository (suite_repository home stanzas)
suite_sound home stanzas = record {
  clauses = clause_form home stanzas;
  count = form_lists home stanzas;
  conflicts = record {
    ascending = conflicts_order home stanzas;
    either_way = conflict_turned home stanzas;
    apart = λ p. has_not (conflicts_of (suite_repository home stanzas) p) p (λ i. conflict_two home stanzas p p (In_has i) refl);
  };
}
