use Rattle.suite_compare.proofs.Lost.{without_open_lines}
use Rattle.suite_compare.proofs.listing_laws.without_open_lines.Goals as goal

pub returns : goal.returns
returns c = without_open_lines
