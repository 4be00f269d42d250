use Rattle.kernel_text.proofs.Serving.{images_serve}
use Rattle.kernel_text.proofs.laws.images_serve.Goals as goal

pub returns : goal.returns
returns c = images_serve
