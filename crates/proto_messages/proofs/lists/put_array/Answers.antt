use Rattle.proto_messages.proofs.lists.put_array.Goals as goal

pub returns : goal.returns
returns g c = c.put.ensures _ c.array-value.ensures
