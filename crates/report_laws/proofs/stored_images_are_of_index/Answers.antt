use Rattle.report_laws.proofs.StoredAgrees.{stored_images_are_of_index}
use Rattle.report_laws.proofs.stored_images_are_of_index.Goals as goal

pub returns : goal.returns
returns c = stored_images_are_of_index
