use Rattle.migrate_plan.proofs.Made.{limit_there}
use Rattle.migrate_plan.proofs.trying.view_of.Goals as goal

pub returns-in-Ok : goal.returns-in-Ok
returns-in-Ok c = record {
  within = c.in-Ok.ensures.within;
  packages_are = c.in-Ok.ensures.packages;
  home_is = c.in-Ok.ensures.home;
  limit_is = c.in-Ok.ensures.limit;
  hold_is = c.in-Ok.ensures.hold;
}

pub returns-in-Err-Limit : goal.returns-in-Err-Limit
returns-in-Err-Limit c =
    limit_there c.args.mix.home c.args.mix.packages c.args.limit c.args.hold c.in-Err-Limit.field-0-0 c.in-Err-Limit.field-0-1 c.in-Err-Limit.field-0-2 c.in-Err-Limit.field-0-3 c.in-Err-Limit.field-0-4
    c.in-Err-Limit.field-0-5 (rw c.in-Err-Limit.field-0-is at c.in-Err-Limit.ensures.refused)
