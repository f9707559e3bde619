use Rattle.proto_names_outline.proofs.declaring.files.Goals as goal
use Rattle.proto_names_rules.proofs.Files.{files_nested, files_woven}

pub returns : goal.returns
returns c = record { nested = files_nested; woven = files_woven }
