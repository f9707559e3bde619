use Rattle.proto_messages.proofs.objects.Object.put_number.Goals as goal

pub returns : goal.returns
returns c = c.put.ensures _ c.from.ensures
