use Rattle.std.proofs.{Common.{◌≡◌, length, arith}, lemmas.List.{take_at}}
use Rattle.install_lift.proofs.lifting.only.Goals as goal

pub returns : goal.returns
returns c =
    let long : length c.put_last.new.flags ≡ c.in_ok-flags.flags.len = search arith in
    rw (take_at c.put_last.new.flags _ c.in_ok-flags.flags.len long) c.put_last.ensures
