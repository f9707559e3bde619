use Rattle.proto_positions.proofs.Walks.{positions_lead_back}
use Rattle.proto_positions.proofs.Boundaries.{ascii_has_positions, offsets_have_positions}
use Rattle.proto_positions.proofs.laws.positions_lead_back.Goals as goal

pub returns-clause-back : goal.returns-clause-back
returns-clause-back c = positions_lead_back

pub returns-clause-offsets : goal.returns-clause-offsets
returns-clause-offsets c = offsets_have_positions

pub returns-clause-ascii : goal.returns-clause-ascii
returns-clause-ascii c = ascii_has_positions
