use Rattle.std.proofs.Common.{arith}
use Rattle.std.proofs.lemmas.Result.{on_ok_weaker}
use Rattle.proto_names_outline.proofs.Growing.{adds_then}
use Rattle.proto_names_outline.proofs.field_listing.list_field.Goals as goal

pub returns : goal.returns
returns c = on_ok_weaker c.list_settings.result (λ settings. adds_then c.in_ok-name.ensures.adds (adds_then c.in_ok-list_type.ensures settings (omega (arith, c.in_ok-name.ensures.adds.grown))) (omega arith)) c.list_settings.ensures
