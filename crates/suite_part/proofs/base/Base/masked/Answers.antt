use Rattle.std.proofs.Common.{refl}
use Rattle.class_merge.specs.declared.masked.MaskedRows.{MaskedRows}
use Rattle.suite_part.proofs.Mixes.{rows_flat, rows_masked}
use Rattle.suite_part.proofs.base.Base.masked.Goals as goal

pub returns-clause-mask : goal.returns-clause-mask
returns-clause-mask c = λ from are. rows_masked from c.args.book.now c.args.self.now c.args.flags.now c.args.rows.now are _ refl refl c.as_slice.ensures refl

pub returns-clause-flat : goal.returns-clause-flat
returns-clause-flat c = λ from are.
    let made : MaskedRows = record { pool = record { ref_ptr = c.args.self.ref_ptr; now = c.args.self.now.pool }; rows = c.args.rows; conflicts = c.as_slice.result; flags = c.args.flags } in
    rows_flat from c.args.book.now c.args.self.now c.args.flags.now c.args.rows.now are made refl refl c.as_slice.ensures refl
