use Rattle.std.proofs.Common.{arith}
use Rattle.std.proofs.lemmas.Result.{on_ok_weaker}
use Rattle.proto_names_outline.proofs.Growing.{adds_then}
use Rattle.proto_names_outline.proofs.service_listing.list_signature.Goals as goal

pub returns : goal.returns
returns c = on_ok_weaker c.refer-2.result (λ output. adds_then c.in_ok-name.ensures.adds (adds_then c.in_ok-refer.ensures output (omega (arith, c.in_ok-name.ensures.adds.grown))) (omega arith)) c.refer-2.ensures
