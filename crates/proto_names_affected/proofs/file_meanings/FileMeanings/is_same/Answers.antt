use Rattle.std.proofs.Common.{◌≡◌, List, ◌∙◌, ap, subst, rules}
use Rattle.std.specs.Bool.{Decides}
use Rattle.std.specs.Global.{Vec}
use Rattle.std.proofs.lemmas.Slice.Eq.{slice_eq-Decides}
use Rattle.proto_names_table.specs.declared.ids.Meant.{Meant}
use Rattle.proto_names_affected.proofs.file_meanings.FileMeanings.is_same.Goals as goal

pub returns : goal.returns
returns c =
    let one : c.as_slice.result.now ≡ c.args.self.now.items = c.as_slice.ensures.value ∙ ap (λ (v : Vec Meant). v.items) c.self.view_is in
    let two : c.as_slice-2.result.now ≡ c.args.other.now.items = c.as_slice-2.ensures.value ∙ ap (λ (v : Vec Meant). v.items) c.other.view_is in
    subst (λ (xs : List Meant). Decides c.eq.result (xs ≡ c.args.other.now.items)) one
    (subst (λ (ys : List Meant). Decides c.eq.result (c.as_slice.result.now ≡ ys)) two (slice_eq-Decides (λ a b. search rules) c.as_slice.result.now c.as_slice-2.result.now c.eq.result c.eq.ensures))
