use Rattle.std.proofs.Common.{◌≡◌, false, true, refl, rules}
use Rattle.byte_flow.specs.Transfer.{written_of}
use Rattle.coinst_run.specs.{Delivers.{a_cut_report, a_refusal, a_report}, Ending.{stop_ending}}
use Rattle.coinst_run.proofs.deliver.deliver.Goals as goal

pub returns-in-Ok-write_all : goal.returns-in-Ok-write_all
returns-in-Ok-write_all g c =
    rw c.in-Ok.is (a_report c.in-Ok.report.verdict c.in-Ok.report.text.items (record {
      status = c.status.ensures;
      calls = rw c.as_slice.ensures.value at c.in-Ok-write_all.ensures.calls;
      took = rw c.as_slice.ensures.value at c.in-Ok-write_all.ensures.ok;
      quiet = refl;
    }))

pub returns-in-Err-Failed : goal.returns-in-Err-Failed
returns-in-Err-Failed g c =
    rw c.in-Ok.is (a_cut_report c.in-Ok.report.verdict c.in-Ok.report.text.items (record {
      status = refl;
      calls = rw c.as_slice.ensures.value at c.in-Err-Failed.ensures.calls;
      written = written_of c.in-Err-Failed.field-0;
      short = rw c.as_slice.ensures.value at c.in-Err-Failed.ensures.short;
      took = rw c.as_slice.ensures.value at c.in-Err-Failed.ensures.err;
      rose = c.in-Err-Failed.ensures.cause.failed;
      roomless = λ fits. absurd (let k : false ≡ true = (rw c.as_slice.ensures.value at c.in-Err-Failed.ensures.room) fits in cc);
      line = search rules;
    }))

pub returns-in-Err : goal.returns-in-Err
returns-in-Err g c = rw c.in-Err.is (a_refusal (stop_ending c.in-Err.stop) refl c.refuse.ensures)
