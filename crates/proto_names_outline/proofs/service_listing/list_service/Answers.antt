use Rattle.std.proofs.Common.{ℕ, List, [], ◌∷◌, ◌++◌, ap, arith}
use Rattle.std.proofs.lemmas.Result.{on_ok_weaker}
use Rattle.proto_tree.specs.File.{service_item_tree, trees}
use Rattle.proto_names_rules.specs.declared.kind.Kind.TheVariants.{Service}
use Rattle.proto_names_rules.specs.Skeleton.{Source, Token}
use Rattle.proto_names_outline.specs.Common.{flat_uses, path_at, read}
use Rattle.proto_names_outline.proofs.Growing.{adds_below, adds_used, stable}
use Rattle.proto_names_outline.proofs.service_listing.list_service.Goals as goal

pub returns : goal.returns
returns c =
    let path = path_at (read c.args.listing.now.declared.items) c.args.above in
    let tree = trees service_item_tree c.args.service.now.members.items in
    let around = stable c.in_ok-index.ensures.adds c.args.above (omega arith) in
    on_ok_weaker c.list_methods.result (λ methods.
    adds_used (adds_below (Token c.args.service.now.name) Service c.in_ok-index.index c.in_ok-index.ensures.adds c.in_ok-index.ensures.index.0 methods)
    (ap (λ (x : List (Source ℕ)). flat_uses x (path ++ Token c.args.service.now.name ∷ []) tree) around))
    (rw c.deref.ensures.value at c.list_methods.ensures)
