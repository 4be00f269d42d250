use Rattle.kernel_text.proofs.write_json.put_against.Goals as goal

pub returns : goal.returns
returns c = rw c.in_ok-against.ensures at c.put.ensures.ok
