use Rattle.std.proofs.Common.{ℕ, List, refl, ap, ◌∙◌, arith}
use Rattle.proto_tree.specs.File.{service_item_tree}
use Rattle.proto_names_outline.specs.Common.{Below, flat_uses, path_at, read}
use Rattle.proto_names_rules.specs.Skeleton.{Source}
use Rattle.proto_names_outline.proofs.Growing.{adds_as, adds_end, adds_turn, stable}
use Rattle.proto_names_outline.proofs.Listed.{methods_placed, methods_parted}
use Rattle.proto_names_outline.proofs.service_listing.list_methods.Goals as goal

pub loop-item-preserved : goal.loop-item-preserved
loop-item-preserved c =
    let around = path_at (read c.args.listing.now.declared.items) c.args.around in
    let item = c.item-item.result in
    let listed = adds_as c.in_ok-list_service_item.ensures (λ path. refl) (λ path. ap (λ (x : List (Source ℕ)). flat_uses x path (service_item_tree item)) c.loop-item.invariant.same) in
    record {
      around = omega (arith, c.in_ok-list_service_item.ensures.grown, c.loop-item.invariant.around);
      same = stable c.in_ok-list_service_item.ensures c.args.around c.loop-item.invariant.around ∙ c.loop-item.invariant.same;
      within = omega (arith, c.in_ok-list_service_item.ensures.grown, c.loop-item.invariant.within);
      rest = λ final rest. c.loop-item.invariant.rest final (adds_turn service_item_tree methods_placed (flat_uses around) (methods_parted around) c.args.items.now c.loop-item.item-index item (omega arith) c.item-item.is listed rest c.loop-item.invariant.within);
    }

pub returns : goal.returns
returns c =
    let around = path_at (read c.args.listing.now.declared.items) c.args.around in
    c.loop-item.invariant.rest c.loop-item.listing (adds_end service_item_tree methods_placed (flat_uses around) (methods_parted around) c.args.items.now c.loop-item.item-index (omega arith) c.loop-item.listing (Below c.args.scope))
