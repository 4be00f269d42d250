use Rattle.deb_version.proofs.{EqualKeys.{equal_keys}, TellingKeys.{keys_tell}}
use Rattle.deb_version.proofs.versions.keys_are_shared.Goals as goal

pub returns-clause-by_equals : goal.returns-clause-by_equals
returns-clause-by_equals c = equal_keys

pub returns-clause-by_no_others : goal.returns-clause-by_no_others
returns-clause-by_no_others c = keys_tell
