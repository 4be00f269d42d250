use Rattle.suite_compare.proofs.Lost.{empty_list_loses_nothing}
use Rattle.suite_compare.proofs.listing_laws.empty_list_loses_nothing.Goals as goal

pub returns : goal.returns
returns c = empty_list_loses_nothing
