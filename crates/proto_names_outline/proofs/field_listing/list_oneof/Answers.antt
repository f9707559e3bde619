use Rattle.std.proofs.Common.{arith}
use Rattle.std.proofs.lemmas.Result.{on_ok_weaker}
use Rattle.proto_names_outline.proofs.Growing.{adds_then}
use Rattle.proto_names_outline.proofs.field_listing.list_oneof.Goals as goal

pub returns : goal.returns
returns c = on_ok_weaker c.list_oneof_items.result (λ fields. adds_then c.in_ok-name.ensures.adds fields (omega arith)) (rw c.deref.ensures.value at c.list_oneof_items.ensures)
