use Rattle.std.proofs.Common.{◌≡◌, ◌<◌, ◌==◌, [], length, refl, sym, ap, subst, ◌∙◌, eqb-true}
use Rattle.proto_base.proofs.Common.{nil_from_length}
use Rattle.proto_edit_rename.specs.Changes.{ArePlacesIn}
use Rattle.proto_edit_rename.proofs.FoundTokens.{places_in_order, some_stay, some_there}
use Rattle.proto_edit_rename.proofs.file_occurrences.occurrences_in.Goals as goal

pub returns-then-is_empty : goal.returns-then-is_empty
returns-then-is_empty c =
    let none : c.in_ok-places.places.items ≡ [] = sym c.as_slice.ensures.value ∙ nil_from_length c.as_slice.result.now (eqb-true (length c.as_slice.result.now) 0 (sym c.is_empty.ensures ∙ c.if-is_empty.true)) in
    subst (ArePlacesIn c.args.scope.now.files c.args.scope.now.target c.args.file) none c.in_ok-places.ensures

pub returns : goal.returns
returns c =
    let items = c.in_ok-places.places.items in
    let tokens = c.in_order-tokens.result.items in
    let some : 0 < length items = some_there items (ap (λ xs. length xs == 0) (sym c.as_slice.ensures.value) ∙ sym c.is_empty.ensures ∙ c.if-is_empty.false) in (
      refl,
      some_stay items tokens c.in_order-tokens.ensures.same some,
      c.in_order-tokens.ensures.rising,
      places_in_order c.args.scope.now.files c.args.scope.now.target c.args.file items tokens c.in_order-tokens.ensures.same c.in_ok-places.ensures,
    )
