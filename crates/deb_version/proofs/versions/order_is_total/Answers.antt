use Rattle.deb_version.proofs.TotalOrder.{version_total, version_total_up_to_ties}
use Rattle.deb_version.proofs.versions.order_is_total.Goals as goal

pub returns-clause-laws : goal.returns-clause-laws
returns-clause-laws c = version_total_up_to_ties

pub returns-clause-sorts : goal.returns-clause-sorts
returns-clause-sorts c = version_total
