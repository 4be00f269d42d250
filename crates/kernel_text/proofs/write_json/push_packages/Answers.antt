use Rattle.std.proofs.{Common.{◌∙◌, ap, map}, lemmas.List.{take_all}}
use Rattle.repo_model.proofs.{Elements.{at_place}, Numbers.{same_stanza}}
use Rattle.repo_model.specs.Stanzas.{stanza_at}
use Rattle.listed.proofs.Lists.{item_in}
use Rattle.serde_json.specs.View.{view}
use Rattle.kernel_text.specs.JsonData.{package_data}
use Rattle.kernel_text.proofs.JsonTexts.{ascii_name, ascii_version, one_value}
use Rattle.kernel_text.proofs.write_json.push_packages.Goals as goal

pub loop-member-init : goal.loop-member-init
loop-member-init c = ap (map view) c.requires.none

-- each number is of a package
pub bounds-packages-member : goal.bounds-packages-member
bounds-packages-member c = c.requires.members _ (at_place c.args.members.now c.loop-member.member-index 0 c.loop-member-test.true)

pub package_value-requires-clause-name : goal.package_value-requires-clause-name
package_value-requires-clause-name c =
    let inside = c.requires.members _ (at_place c.args.members.now c.loop-member.member-index 0 c.loop-member-test.true) in
    ascii_name c.index-packages-member.result.name (c.requires.named c.index-packages-member.result (item_in c.args.packages.now _ c.index-packages-member.result inside c.index-packages-member.is)).0

pub package_value-requires-clause-version : goal.package_value-requires-clause-version
package_value-requires-clause-version c =
    let inside = c.requires.members _ (at_place c.args.members.now c.loop-member.member-index 0 c.loop-member-test.true) in
    ascii_version c.index-packages-member.result.version (c.requires.named c.index-packages-member.result (item_in c.args.packages.now _ c.index-packages-member.result inside c.index-packages-member.is)).1

pub loop-member-preserved : goal.loop-member-preserved
loop-member-preserved c =
    let inside = c.requires.members _ (at_place c.args.members.now c.loop-member.member-index 0 c.loop-member-test.true) in
    one_value (λ i. package_data (stanza_at c.args.packages.now i)) c.args.members.now c.loop-member.member-index 0 c.loop-member.items.items c.push.new.self.items c.in_ok-package_value.field-0 c.loop-member-test.true
    c.loop-member.invariant (c.in_ok-package_value.ensures ∙ ap package_data (same_stanza c.args.packages.now _ c.index-packages-member.result inside c.index-packages-member.is)) c.in_ok-push.ensures.items

pub returns : goal.returns
returns c = c.loop-member.invariant ∙ ap (map (λ i. package_data (stanza_at c.args.packages.now i))) (take_all c.loop-member.member-index c.args.members.now c.loop-member-test.false)
