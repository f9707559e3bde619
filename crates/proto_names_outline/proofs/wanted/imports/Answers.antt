use Rattle.std.proofs.Common.{◌≡◌, List, Vec, [], ◌∷◌, ◌++◌, map, refl, sym, ap, ◌∙◌, append-nil}
use Rattle.proto_base.proofs.Common.{map-append, all_listed, listed_turn}
use Rattle.proto_tree.specs.declared.tree.Item.{Item}
use Rattle.proto_tree.specs.File.{item_tree, trees}
use Rattle.proto_names_outline.specs.Common.{imports_in, wanted_of}
use Rattle.proto_names_outline.proofs.Behind.{imports_joined}
use Rattle.proto_names_outline.proofs.wanted.imports.Goals.{in-Some+in_ok-push, in_default}
use Rattle.proto_names_outline.proofs.wanted.imports.Goals as goal

pub loop-item-preserved : goal.loop-item-preserved
loop-item-preserved c =
    let found = map wanted_of c.loop-item.found.items in
    let pushed : map wanted_of c.match-import.found.items ≡ found ++ imports_in (item_tree c.item-item.result) = elim c.match-import.branch [
      | in-Some+in_ok-push w ↦
          ap (λ (v : Vec _ _). map wanted_of v.items) w.found-is ∙ ap (map wanted_of) w.in_ok-push.ensures.items ∙ map-append wanted_of c.loop-item.found.items (_ ∷ [])
          ∙ ap (λ (new : List _). found ++ new) (sym w.in-Some.ensures)
      | in_default w ↦ ap (λ (v : Vec _ _). map wanted_of v.items) w.found-is ∙ sym (append-nil found) ∙ ap (λ (new : List _). found ++ new) (sym w.in_default.ensures)
    ] in
    listed_turn (λ items. imports_in (trees item_tree items)) (λ item. imports_in (item_tree item)) (λ item items. imports_joined (item_tree item) (trees item_tree items))
    c.deref-item-items.result.now c.loop-item.item-index c.item-item.result _ found _ _ c.loop-item-test.true c.item-item.is pushed c.loop-item.invariant

pub returns : goal.returns
returns c =
    all_listed (λ items. imports_in (trees item_tree items)) refl c.deref-item-items.result.now c.loop-item.item-index _ _ c.loop-item-test.false c.loop-item.invariant
    ∙ ap (λ (items : List Item). imports_in (trees item_tree items)) c.deref-item-items.ensures.value
