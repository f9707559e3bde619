use Rattle.std.proofs.Common.{rules}
use Rattle.proto_desc.proofs.json_form.to_json.Goals as goal

pub returns : goal.returns
returns c = search rules
