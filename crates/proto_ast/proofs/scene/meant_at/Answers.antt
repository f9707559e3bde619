use Rattle.std.proofs.Common.{Some, ap, ◌∙◌, rules, sym}
use Rattle.std.proofs.lemmas.List.Sorted.{answers_always}
use Rattle.proto_ast.specs.declared.scene.MeantAt.{MeantAt}
use Rattle.proto_ast.specs.Views.{meant_of}
use Rattle.proto_ast.proofs.Means.{is_found, is_missing}
use Rattle.proto_ast.proofs.scene.meant_at.Goals as goal

pub returns-in-Ok : goal.returns-in-Ok
returns-in-Ok c =
    let facts = c.binary_search_by_key.ensures in
    let by_key = facts.position (λ m. m.token) (answers_always _ _ _ (λ f a r g called. search rules)) in
    ap (λ (m : MeantAt). Some (meant_of m)) c.index-means-place.is
    ∙ sym (is_found c.args.means.now c.args.token c.requires c.in-Ok.place c.index-means-place.result (rw c.in-Ok.is at facts.bound) (rw c.in-Ok.is at by_key))

pub returns-in-Err : goal.returns-in-Err
returns-in-Err c =
    let facts = c.binary_search_by_key.ensures in
    let by_key = facts.position (λ m. m.token) (answers_always _ _ _ (λ f a r g called. search rules)) in
    sym (is_missing c.args.means.now c.args.token c.requires c.in-Err.field-0 (rw c.in-Err.is at by_key))
