use Rattle.proto_text.proofs.EditLaws.{inverse_leads_back}
use Rattle.proto_text.proofs.Once.{puts_once, puts_length}
use Rattle.proto_text.proofs.laws.puts_lead_back.Goals as goal

pub returns : goal.returns
returns c = record { back = inverse_leads_back; once = λ text a b es p q. puts_once 0 text a b es p q; length = λ text new es p. puts_length 0 text new es p }
