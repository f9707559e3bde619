use Rattle.std.proofs.Common.{sym}
use Rattle.std.proofs.lemmas.Result.{on_ok_weaker}
use Rattle.proto_names_outline.specs.Common.{path_at, read}
use Rattle.proto_names_outline.proofs.Growing.{adds_as}
use Rattle.proto_names_outline.proofs.Listed.{method_alike, method_placed}
use Rattle.proto_names_outline.proofs.service_listing.list_service_item.Goals as goal

pub returns-in-Method : goal.returns-in-Method
returns-in-Method c =
    let around = path_at (read c.args.listing.now.declared.items) c.args.around in
    let m = c.in-Method.method in
    rw c.in-Method.is (on_ok_weaker c.list_method.result (λ method. adds_as method (λ path. sym (method_placed m.signature m.end path)) (λ path. method_alike m.signature m.end around path)) c.list_method.ensures)
