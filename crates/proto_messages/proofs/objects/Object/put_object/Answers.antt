use Rattle.proto_messages.proofs.objects.Object.put_object.Goals as goal

pub returns : goal.returns
returns g c = c.put.ensures _ c.object_of-value.ensures
