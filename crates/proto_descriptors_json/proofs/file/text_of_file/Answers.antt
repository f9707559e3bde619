use Rattle.proto_descriptors_json.proofs.Texts.{text_of_value}
use Rattle.proto_descriptors_json.proofs.file.text_of_file.Goals as goal

pub returns-in-Ok : goal.returns-in-Ok
returns-in-Ok c =
    let sent = c.in-Ok.ensures.events in
    text_of_value _ _ sent.0 sent.1 sent.2
