use Rattle.suite_compare.proofs.Exact.{one_list_is_exact}
use Rattle.suite_compare.proofs.listing_laws.one_list_is_exact.Goals as goal

pub returns : goal.returns
returns c = one_list_is_exact
