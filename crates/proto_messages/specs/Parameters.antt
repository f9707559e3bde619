-- What a message says, where its parameters are given apart from it.
use Rattle.std.specs.Prelude.{Option}
use Rattle.std.specs.Option.{option_map_or}
use Rattle.serde_json.specs.Data.{Data}
use Rattle.proto_base.specs.Texts.{Text}
use Rattle.proto_messages.specs.Messages.{MessageOf, no_message, notification, request}
use Rattle.proto_messages.specs.Reading.{id_of, notification_of, request_of}

-- a request of this method with these parameters, under this id
abbrev pub request_with : Text → Data → Data → MessageOf
request_with method params id =
    option_map_or (λ i. request i (request_of method params)) (id_of id) no_message

-- a message of this method with these parameters, under this id if it has one
abbrev pub message_with : Text → Data → Option Data → MessageOf
message_with method params id =
    option_map_or (request_with method params) id (notification (notification_of method params))
