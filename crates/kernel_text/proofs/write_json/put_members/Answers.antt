use Rattle.kernel_text.proofs.write_json.put_members.Goals as goal

pub returns : goal.returns
returns c = rw c.in_ok-members.ensures at c.put.ensures.ok
