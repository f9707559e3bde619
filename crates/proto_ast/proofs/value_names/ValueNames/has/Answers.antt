use Rattle.std.proofs.Common.{ℕ, List, Bor, map, ap, sym, ◌∙◌, bytes_eq}
use Rattle.proto_base.proofs.Common.{IsPermutation-map, list_any-IsPermutation}
use Rattle.proto_ast.specs.Options.{is_one_of}
use Rattle.proto_ast.proofs.value_names.ValueNames.has.Goals as goal

pub returns : goal.returns
returns c =
    let name = c.args.name.now in
    let all = c.self.inside.all.items in
    let sorted = c.self.inside.sorted.items in
    let text = λ (s : Bor (List ℕ)). s.now in
    c.is_among.ensures
    ∙ ap (λ (ss : List (Bor (List ℕ))). is_one_of (map text ss) name) c.deref.ensures.value
    ∙ sym (list_any-IsPermutation (bytes_eq name) (map text all) (map text sorted) (IsPermutation-map text all sorted c.self.invariant.0))
    ∙ ap (λ (names : List (List ℕ)). is_one_of names name) c.self.view_is
