use Rattle.coinst_run.specs.{Ending.{stop_ending}, Lines.{too_long_line}, Migrate.{homes_line, mix_path, names_line, packages_line}}
use Rattle.coinst_run.proofs.Migrating.{plan_refused}
use Rattle.coinst_run.proofs.migrate.refusal.Goals as goal

pub returns-in-Homes : goal.returns-in-Homes
returns-in-Homes c = λ lines there refuses.
    plan_refused c.args.old.now c.args.new.now lines there _ (stop_ending c.refused.result) (rw c.in-Homes.is at refuses) (c.refused.ensures (homes_line c.args.old.now c.args.new.now) c.homes_line.ensures)

pub returns-in-Names : goal.returns-in-Names
returns-in-Names c = λ lines there refuses.
    plan_refused c.args.old.now c.args.new.now lines there _ (stop_ending c.refused-in-Names.result) (rw c.in-Names.is at refuses) (c.refused-in-Names.ensures (names_line c.args.new.now) c.line_about-line.ensures)

pub returns-in-Packages : goal.returns-in-Packages
returns-in-Packages c = λ lines there refuses.
    plan_refused c.args.old.now c.args.new.now lines there _ (stop_ending c.refused-in-Packages.result) (rw c.in-Packages.is at refuses) (c.refused-in-Packages.ensures packages_line c.line_about-line-in-Packages.ensures)

pub returns-in-TooLong : goal.returns-in-TooLong
returns-in-TooLong c = λ lines there refuses.
    plan_refused c.args.old.now c.args.new.now lines there _ (stop_ending c.refused-in-TooLong.result) (rw c.in-TooLong.is at refuses) (c.refused-in-TooLong.ensures (too_long_line mix_path) c.too_long_line.ensures)
