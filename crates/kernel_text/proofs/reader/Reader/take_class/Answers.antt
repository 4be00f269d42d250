use Rattle.std.proofs.Common.{arith}
use Rattle.kernel_text.specs.Reading.{number_limit}
use Rattle.kernel_text.proofs.reader.Reader.take_class.Goals as goal

-- the number of the class is below the limit, and it is that of the classes so far
pub overflow_add-self : goal.overflow_add-self
unfolding number_limit
overflow_add-self c = omega (arith, c.if-number-self.false, c.requires)
