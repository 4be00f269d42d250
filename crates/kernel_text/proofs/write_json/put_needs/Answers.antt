use Rattle.kernel_text.proofs.write_json.put_needs.Goals as goal

pub returns : goal.returns
returns c = rw c.in_ok-needs.ensures at c.put.ensures.ok
