use Rattle.std.proofs.{Common.{◌∙◌, ◌≡◌, ◌<◌, arith, length, map, sym}, lemmas.List.{get_or-map, length-map}}
use Rattle.repo_model.specs.Stanzas.{stanza_at}
use Rattle.migrate_plan.specs.Differing.{says_same}
use Rattle.migrate_plan.proofs.Pairwise.{pair_fails, pair_more}
use Rattle.migrate_plan.proofs.differing.say_same.Goals as goal

pub returns-then-not-says_same : goal.returns-then-not-says_same
returns-then-not-says_same c =
    let olds = map (stanza_at c.args.old.now) c.args.olds.now in
    let news = map (stanza_at c.args.new.now) c.args.news.now in
    let one = c.package_at-one.result.now in
    let other = c.package_at-other.result.now in
    let long : length olds ≡ length c.args.olds.now = length-map c.args.olds.now (stanza_at c.args.old.now) in
    let too : length news ≡ length c.args.news.now = length-map c.args.news.now (stanza_at c.args.new.now) in
    let there : c.loop-place.place < length c.args.news.now = omega arith in
    let within : c.loop-place.place < length olds = omega arith in
    let more : c.loop-place.place < length news = omega arith in
    pair_fails says_same olds news c.loop-place.place one other within
    (c.package_at-one.ensures ∙ sym (get_or-map (stanza_at c.args.old.now) c.args.olds.now c.loop-place.place 0 one c.loop-place-test.true))
    (c.package_at-other.ensures ∙ sym (get_or-map (stanza_at c.args.new.now) c.args.news.now c.loop-place.place 0 other there)) (sym c.says_same.ensures ∙ c.if-not-says_same.true)

pub loop-place-preserved : goal.loop-place-preserved
loop-place-preserved c =
    let olds = map (stanza_at c.args.old.now) c.args.olds.now in
    let news = map (stanza_at c.args.new.now) c.args.news.now in
    let one = c.package_at-one.result.now in
    let other = c.package_at-other.result.now in
    let long : length olds ≡ length c.args.olds.now = length-map c.args.olds.now (stanza_at c.args.old.now) in
    let too : length news ≡ length c.args.news.now = length-map c.args.news.now (stanza_at c.args.new.now) in
    let there : c.loop-place.place < length c.args.news.now = omega arith in
    let within : c.loop-place.place < length olds = omega arith in
    let more : c.loop-place.place < length news = omega arith in
    pair_more says_same olds news c.loop-place.place one other within more
    (c.package_at-one.ensures ∙ sym (get_or-map (stanza_at c.args.old.now) c.args.olds.now c.loop-place.place 0 one c.loop-place-test.true))
    (c.package_at-other.ensures ∙ sym (get_or-map (stanza_at c.args.new.now) c.args.news.now c.loop-place.place 0 other there)) (sym c.says_same.ensures ∙ c.if-not-says_same.false) c.loop-place.invariant
