-- The cause of refusal for each fault of an index. Want of memory is no fault of a text, so its row
-- is never asked for.
use Rattle.coinst_run.specs.declared.answer.Cause.{Cause}
use Rattle.coinst_run.specs.declared.answer.Cause.TheVariants.{Content, TooLarge}
use Rattle.repo_model.specs.declared.fault.IndexFault.{IndexFault}
use Rattle.repo_model.specs.declared.fault.IndexFault.TheVariants.{Stanza, MissingPackage}
use Rattle.repo_model.specs.declared.fault.IndexFault.TheVariants.{MissingVersion, BadPackage}
use Rattle.repo_model.specs.declared.fault.IndexFault.TheVariants.{BadVersion, BadArchitecture}
use Rattle.repo_model.specs.declared.fault.IndexFault.TheVariants.{BadRelation, Duplicate, Mixed}
use Rattle.repo_model.specs.declared.fault.IndexFault.TheVariants.{TooMany, Memory}

abbrev pub fault_cause : IndexFault → Cause
fault_cause (Stanza fault) = Content
fault_cause (MissingPackage line) = Content
fault_cause (MissingVersion line) = Content
fault_cause (BadPackage line) = Content
fault_cause (BadVersion line) = Content
fault_cause (BadArchitecture line) = Content
fault_cause (BadRelation line element) = Content
fault_cause (Duplicate first line) = Content
fault_cause (Mixed line) = Content
fault_cause TooMany = TooLarge
fault_cause Memory = Content
