use Rattle.proto_edit_rename_described.proofs.WrittenJson.{writes_json, written_once}
use Rattle.proto_edit_rename_described.proofs.laws.written_json_is_one.Goals as goal

pub returns : goal.returns
returns c = record { there = writes_json; one = written_once }
