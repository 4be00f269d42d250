use Rattle.repo_model.proofs.feed.SuiteFeedTaker.take.Goals as goal

pub read_piece-reading-requires-clause-room : goal.read_piece-reading-requires-clause-room
read_piece-reading-requires-clause-room c = (c.args.self.now.taken, rw c.replace-before.ensures.value c.args.self.now.fits, c.requires)

pub read_piece-reading-requires-clause-unclosed : goal.read_piece-reading-requires-clause-unclosed
read_piece-reading-requires-clause-unclosed c = rw c.replace-before.ensures.value c.args.self.now.unclosed

pub invariant_of-self-2 : goal.invariant_of-self-2
invariant_of-self-2 c = record {
  within = c.requires;
  fits = c.read_piece-reading.ensures.fits c.args.self.now.taken (rw c.replace-before.ensures.value c.args.self.now.fits);
  unclosed = c.read_piece-reading.ensures.unclosed;
}
