use Rattle.std.proofs.Common.{ℕ, List, [], ◌∷◌, ◌++◌, map, refl, ap, ◌∙◌}
use Rattle.proto_tree.specs.declared.tree.ServiceItem.{ServiceItem}
use Rattle.proto_tree.specs.declared.tree.Signature.{Signature}
use Rattle.proto_tree.specs.File.{service_item_tree, trees}
use Rattle.proto_lint_names.specs.Readings.{LintFile, reading_of}
use Rattle.proto_lint_names.specs.Methods.{method_messages, signatures_in, type_meant}
use Rattle.proto_base.proofs.Turns.{all_listed, listed_turn}
use Rattle.proto_lint_names.proofs.JoinedTrees.{of_signatures}
use Rattle.proto_lint_names.proofs.shared.add_messages.Goals as goal

abbrev told : LintFile → List ServiceItem → List (List ℕ)
told r items = method_messages r (signatures_in (trees service_item_tree items))

pub loop-item-preserved : goal.loop-item-preserved
loop-item-preserved c =
    let r = reading_of c.args.reading.now in
    let part : Signature → List (List ℕ) = λ s. type_meant r s.input ∷ type_meant r s.output ∷ [] in
    listed_turn (told r) (λ x. method_messages r (signatures_in (service_item_tree x))) (of_signatures service_item_tree part) c.deref-item-items.result.now c.loop-item.item-index c.item-item.result _
    _ _ _ c.loop-item-test.true c.item-item.is c.in_ok-add_of_item.ensures c.loop-item.invariant

pub returns : goal.returns
returns c =
    let r = reading_of c.args.reading.now in
    all_listed (told r) refl c.deref-item-items.result.now c.loop-item.item-index _ _ c.loop-item-test.false c.loop-item.invariant
    ∙ ap (λ (items : List ServiceItem). map (λ s. s.now) c.args.all.now.items ++ told r items) c.deref-item-items.ensures.value
