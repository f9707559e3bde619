use Rattle.std.proofs.Common.{arith}
use Rattle.std.proofs.lemmas.Result.{on_ok_weaker}
use Rattle.proto_names_outline.proofs.Growing.{adds_then}
use Rattle.proto_names_outline.proofs.extend_listing.list_extend.Goals as goal

pub returns : goal.returns
returns c = on_ok_weaker c.list_extensions.result (λ extensions. adds_then c.in_ok-refer.ensures extensions (omega arith)) (rw c.deref.ensures.value at c.list_extensions.ensures)
