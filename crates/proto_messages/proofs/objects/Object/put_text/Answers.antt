use Rattle.proto_messages.proofs.objects.Object.put_text.Goals as goal

pub returns : goal.returns
returns c = c.put.ensures _ c.try_from_str-value.ensures
