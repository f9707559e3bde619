use Rattle.std.proofs.Common.{List, ◌++◌, flat_map, refl}
use Rattle.proto_tree.specs.declared.tree.ServiceItem.{ServiceItem}
use Rattle.proto_tree.specs.declared.tree.Signature.{Signature}
use Rattle.proto_tree.specs.File.{service_item_tree, trees}
use Rattle.proto_lint_names.proofs.Common.{Found, reading_of}
use Rattle.proto_lint_names.specs.Methods.{method_finds, signatures_in}
use Rattle.proto_base.proofs.Turns.{all_listed, listed_turn}
use Rattle.proto_lint_names.proofs.JoinedTrees.{of_signatures}
use Rattle.proto_lint_names.proofs.services.add_items.Goals as goal

abbrev told : (Signature → List Found) → List ServiceItem → List Found
told part items = flat_map part (signatures_in (trees service_item_tree items))

pub loop-item-preserved : goal.loop-item-preserved
loop-item-preserved c =
    let service = c.args.service.now in
    let items = c.args.items.now in
    let part : Signature → List Found = method_finds c.args.walk.now.rules.now.chosen (reading_of c.args.walk.now.reading.now) c.args.walk.now.messages.now service.full.now service.token in
    listed_turn (told part) (λ x. flat_map part (signatures_in (service_item_tree x))) (of_signatures service_item_tree part) items c.loop-item.item-index c.item-item.result _
    c.loop-item.found c.add_item.new.found (c.args.found.now ++ told part items)
    c.loop-item-test.true c.item-item.is c.in_ok-add_item.ensures c.loop-item.invariant

pub returns : goal.returns
returns c =
    let service = c.args.service.now in
    let items = c.args.items.now in
    let part : Signature → List Found = method_finds c.args.walk.now.rules.now.chosen (reading_of c.args.walk.now.reading.now) c.args.walk.now.messages.now service.full.now service.token in
    all_listed (told part) refl items c.loop-item.item-index c.loop-item.found (c.args.found.now ++ told part items) c.loop-item-test.false c.loop-item.invariant
