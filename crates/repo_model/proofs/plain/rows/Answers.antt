use Rattle.repo_model.specs.{Repository.{row_of}, Stanzas.{stanza_at}}
use Rattle.repo_model.proofs.plain.rows.Goals as goal
use Rattle.listed.proofs.Numbers.{number_mapped}

pub loop-number-preserved : goal.loop-number-preserved
loop-number-preserved c =
    number_mapped (λ n. row_of c.args.home.now c.args.stanzas.now (stanza_at c.args.stanzas.now n)) c.loop-number.number c.loop-number.rows c.push.new.self c.in_ok-row_at.field-0 c.in_ok-row_at.ensures
    c.loop-number.invariant c.in_ok-push.ensures.ok
