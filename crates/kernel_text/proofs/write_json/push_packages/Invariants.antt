use Rattle.std.proofs.Common.{◌≡◌, map, take}
use Rattle.repo_model.specs.Stanzas.{stanza_at}
use Rattle.serde_json.specs.View.{view}
use Rattle.kernel_text.specs.JsonData.{package_data}
use Rattle.kernel_text.proofs.write_json.push_packages.Given as goal

abbrev pub invariant-loop-member : goal.invariant-loop-member
invariant-loop-member l = map view l.items.items ≡ map (λ i. package_data (stanza_at l.packages i)) (take l.member-index l.members)
