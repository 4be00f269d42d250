use Rattle.repo_model.proofs.Feeds.{feed_found, feed_missed}
use Rattle.repo_model.proofs.blank.last_feed.Goals as goal

pub returns-in-Some-clause-some : goal.returns-in-Some-clause-some
returns-in-Some-clause-some c = feed_found c.args.text.now c.args.from c.args.end c.requires.order c.requires.within c.in-Some.place c.in-Some.ensures

pub returns-in-None-clause-none : goal.returns-in-None-clause-none
returns-in-None-clause-none c = feed_missed c.args.text.now c.args.from c.args.end c.requires.order c.requires.within c.in-None.ensures

pub returns-in-Some-clause-below : goal.returns-in-Some-clause-below
returns-in-Some-clause-below c = (feed_found c.args.text.now c.args.from c.args.end c.requires.order c.requires.within c.in-Some.place c.in-Some.ensures).high
