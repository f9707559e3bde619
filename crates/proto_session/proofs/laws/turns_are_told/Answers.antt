use Rattle.proto_session.proofs.ToldTurns.{keeps_turn, nothing_waits, run_told}
use Rattle.proto_session.proofs.laws.turns_are_told.Goals as goal

pub returns : goal.returns
returns c = record {
  turns = record { current = keeps_turn; told = nothing_waits };
  runs = run_told;
}
