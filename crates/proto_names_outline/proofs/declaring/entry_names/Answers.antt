use Rattle.proto_names_outline.proofs.declaring.entry_names.Goals as goal
use Rattle.proto_case.proofs.EntryNames.{entry_differs}

pub returns : goal.returns
returns c = entry_differs
