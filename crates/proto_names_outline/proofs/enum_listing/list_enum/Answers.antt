use Rattle.std.proofs.Common.{arith}
use Rattle.std.proofs.lemmas.Result.{on_ok_weaker}
use Rattle.proto_names_outline.proofs.Growing.{adds_then}
use Rattle.proto_names_outline.proofs.enum_listing.list_enum.Goals as goal

pub returns : goal.returns
returns c = on_ok_weaker c.list_values.result (λ values. adds_then c.in_ok-name.ensures.adds values (omega arith)) (rw c.deref.ensures.value at c.list_values.ensures)
