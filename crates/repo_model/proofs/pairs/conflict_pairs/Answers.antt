use Rattle.std.proofs.Common.{◌≡◌, ◌∙◌, [], ap, subst, take, length, arith}
use Rattle.relation_fields.specs.declared.packages.PackageFacts.{PackageFacts}
use Rattle.package_register.specs.Numbers.{numbers_where}
use Rattle.repo_model.specs.{Pairs.{is_named, Adds, IsAgainst, IsFound, IsPairWith}, Stanzas.{stanza_at}}
use Rattle.repo_model.proofs.{Numbers.{same_stanza}, Paired.{found_more, pairs_conflict, pairs_fit}}
use Rattle.repo_model.proofs.pairs.conflict_pairs.Goals as goal

pub loop-place-preserved : goal.loop-place-preserved
loop-place-preserved c =
    let home = c.args.home.now in
    let packages = c.args.packages.now in
    let n = c.loop-place.place in
    let facts = c.index-packages-place.result in
    let same : facts ≡ stanza_at packages n = same_stanza packages n facts (omega arith) c.index-packages-place.is in
    let others = c.deref.ensures.value ∙ c.in_ok-earlier.ensures in
    found_more home packages n [] c.loop-place.pairs.items c.push_pairs.new.pairs.items c.push_against.new.pairs.items c.loop-place.invariant
    (subst (λ numbers. Adds (IsPairWith n numbers) c.loop-place.pairs.items c.push_pairs.new.pairs.items) others c.in_ok-push_pairs.ensures)
    (subst (λ atoms. Adds (IsAgainst home packages n atoms) c.push_pairs.new.pairs.items c.push_against.new.pairs.items) (c.as_slice-against.ensures ∙ ap (λ (s : PackageFacts). s.against) same)
    c.in_ok-push_against.ensures)

pub returns-clause-fit : goal.returns-clause-fit
returns-clause-fit c =
    let all : c.loop-place.place ≡ length c.args.packages.now = omega arith in
    pairs_fit c.args.home.now c.args.packages.now c.loop-place.pairs.items (subst (λ n. Adds (IsFound c.args.home.now c.args.packages.now n) [] c.loop-place.pairs.items) all c.loop-place.invariant)

pub returns-clause-conflicts : goal.returns-clause-conflicts
returns-clause-conflicts c =
    let all : c.loop-place.place ≡ length c.args.packages.now = omega arith in
    pairs_conflict c.args.home.now c.args.packages.now c.loop-place.pairs.items
    (subst (λ n. Adds (IsFound c.args.home.now c.args.packages.now n) [] c.loop-place.pairs.items) all c.loop-place.invariant)
