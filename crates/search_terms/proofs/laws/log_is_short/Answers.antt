use Rattle.std.proofs.Common.{[]}
use Rattle.search_terms.proofs.Certificates.{log_short}
use Rattle.search_terms.proofs.laws.log_is_short.Goals as goal

pub returns : goal.returns
returns c = log_short []
