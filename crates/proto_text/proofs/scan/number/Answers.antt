use Rattle.std.proofs.Common.{rules}
use Rattle.proto_text.specs.Scan.{scanned_number}
use Rattle.proto_text.proofs.scan.number.Goals as goal

pub returns-else-is_number_text : goal.returns-else-is_number_text
unfolding scanned_number
returns-else-is_number_text c = search rules
