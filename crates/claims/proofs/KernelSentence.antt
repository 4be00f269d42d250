-- The first sentence, from what the code keeps of a printed kernel.
use Rattle.std.specs.Prelude.{map}
use Rattle.repo_model.specs.{Facts.{facts_of}, FirstFault.{home_of, stanzas_of}}
use Rattle.claims.specs.Laws.{KernelsMeanThis}
use Rattle.claims.proofs.Index.{indexes_are_read}
use Rattle.kernel_text.proofs.StoredReading.{one_reading}

pub kernels_mean_this : KernelsMeanThis
kernels_mean_this text printed format R members held accepted reads people stands keeps = record {
  home = record { name = home_of (stanzas_of text) };
  stanzas = map facts_of (stanzas_of text);
  index = indexes_are_read text accepted;
  format = format;
  repository = R;
  members = members;
  held = held;
  reads = reads;
  no_other_reading = one_reading printed;
  members_are_packages = people;
  each_in_one_class = stands;
  same_together = keeps;
}
