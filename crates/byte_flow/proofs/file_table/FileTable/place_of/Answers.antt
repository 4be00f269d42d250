use Rattle.std.proofs.Common.{sym, ap}
use Rattle.std.specs.Prelude.{is_some, unwrap_or, []}
use Rattle.byte_flow.proofs.FileTableLemmas.{index_lookup}
use Rattle.byte_flow.proofs.file_table.FileTable.place_of.Goals as goal

pub returns-in-Some-clause-answer : goal.returns-in-Some-clause-answer
returns-in-Some-clause-answer c = sym (index_lookup c.args.self.now.files.items c.args.path.now _ c.in-Some.ensures).0

pub returns-in-Some-clause-rest : goal.returns-in-Some-clause-rest
returns-in-Some-clause-rest c = (index_lookup c.args.self.now.files.items c.args.path.now _ c.in-Some.ensures).1

pub returns-in-None-clause-answer : goal.returns-in-None-clause-answer
returns-in-None-clause-answer c = sym (ap is_some (index_lookup c.args.self.now.files.items c.args.path.now _ c.in-None.ensures))

pub returns-in-None-clause-rest : goal.returns-in-None-clause-rest
returns-in-None-clause-rest c = sym (ap (λ o. unwrap_or o []) (index_lookup c.args.self.now.files.items c.args.path.now _ c.in-None.ensures))
