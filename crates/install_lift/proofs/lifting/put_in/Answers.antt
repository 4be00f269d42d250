use Rattle.install_lift.proofs.lifting.put_in.Goals as goal

pub returns : goal.returns
returns c = rw (c.deref.ensures.value, c.deref-2.ensures.value, c.in_ok-one.ensures) at c.in_ok-made.ensures
