use Rattle.std.proofs.Common.{◌∙◌, length, refl, sym, ap}
use Rattle.std.specs.Option.{option_copied_mut}
use Rattle.package_register.specs.Hashed.{numbers_of, numbers_under}
use Rattle.package_register.proofs.Hashes.{list_there, new_ok, there_count, there_ok}
use Rattle.package_register.proofs.hashed.NumbersByHash.put.Goals as goal

pub returns-in-Some-clause-puts : goal.returns-in-Some-clause-puts
unfolding numbers_under
returns-in-Some-clause-puts c =
    there_ok numbers_of c.put_last.result c.args.hash c.args.number c.args.self.now.lists
    (c.get_mut.follows.lender c.put_last.new.numbers) c.in-Some.numbers.now c.put_last.new.numbers
    (c.get_mut.follows.holds c.put_last.new.numbers).3 (sym c.get_mut.ensures.value ∙ ap option_copied_mut c.in-Some.is) c.put_last.ensures.numbers

pub returns-in-Some-clause-count : goal.returns-in-Some-clause-count
unfolding numbers_under
returns-in-Some-clause-count c =
    there_count numbers_of c.put_last.result c.args.hash c.args.self.now.lists
    (c.get_mut.follows.lender c.put_last.new.numbers) c.in-Some.numbers.now c.put_last.new.numbers
    (c.get_mut.follows.holds c.put_last.new.numbers).3 (sym c.get_mut.ensures.value ∙ ap option_copied_mut c.in-Some.is) c.put_last.ensures.count

pub returns-in_ok-insert-in-None-clause-puts : goal.returns-in_ok-insert-in-None-clause-puts
unfolding numbers_under
returns-in_ok-insert-in-None-clause-puts c = λ other.
    new_ok numbers_of c.args.hash other c.args.number c.args.self.now.lists c.get_mut.follows.lender-at-none c.insert.new.self
    _ c.in_ok-insert-in-None.ensures.updates c.get_mut.follows.holds-at-none
    refl (sym c.get_mut.ensures.value ∙ ap option_copied_mut c.in-None.is)

pub returns-in_ok-insert-in-None-clause-count : goal.returns-in_ok-insert-in-None-clause-count
unfolding numbers_under
returns-in_ok-insert-in-None-clause-count c =
    sym (ap length (list_there numbers_of c.args.hash c.get_mut.follows.lender-at-none c.insert.new.self _ c.in_ok-insert-in-None.ensures.updates))
