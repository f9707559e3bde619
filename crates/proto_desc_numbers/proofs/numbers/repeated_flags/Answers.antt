use Rattle.std.proofs.Common.{rules}
use Rattle.proto_desc_numbers.proofs.numbers.repeated_flags.Goals as goal

pub returns : goal.returns
returns c = search rules
