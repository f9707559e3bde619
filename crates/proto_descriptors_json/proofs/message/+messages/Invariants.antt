use Rattle.std.proofs.Common.{take}
use Rattle.proto_descriptors.specs.Views.{messages_desc}
use Rattle.proto_descriptors_json.specs.Common.{message_texts, PutsValues}
use Rattle.proto_descriptors_json.proofs.message.+messages.Given as goal

abbrev pub invariant-put_messages-loop-message : goal.invariant-put_messages-loop-message
invariant-put_messages-loop-message g l =
    PutsValues (message_texts (messages_desc (take l.message-index l.messages))) (g.S.Serializer.written l.initial.out) (g.S.Serializer.written l.out)
