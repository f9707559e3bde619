use Rattle.proto_edit_entries.proofs.Puts.{entries_lead_back}
use Rattle.proto_edit_entries.proofs.laws.entries_lead_back.Goals as goal

pub returns : goal.returns
returns c = entries_lead_back
