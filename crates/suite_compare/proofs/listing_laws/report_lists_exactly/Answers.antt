use Rattle.suite_compare.proofs.Exact.{report_lists_exactly}
use Rattle.suite_compare.proofs.listing_laws.report_lists_exactly.Goals as goal

pub returns : goal.returns
returns c = report_lists_exactly
