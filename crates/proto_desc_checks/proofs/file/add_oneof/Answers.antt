use Rattle.std.proofs.Common.{◌≡◌, List, Bool, ◌++◌, ap, sym, ◌∙◌}
use Rattle.std.proofs.lemmas.Result.{on_ok_weaker}
use Rattle.proto_base.specs.declared.fault.FaultKind.TheVariants as kind
use Rattle.proto_tree.specs.declared.piece.Header.TheVariants as header
use Rattle.proto_tree.specs.File.{trees, oneof_item_tree}
use Rattle.proto_ast.specs.Parts.{fields_in}
use Rattle.proto_desc_numbers.specs.declared.flaw.Flaw.{Flaw}
use Rattle.proto_desc_numbers.specs.Flaws.{flaw_if}
use Rattle.proto_desc_checks.specs.FileFlaws.{is_empty}
use Rattle.proto_desc_checks.proofs.Blocks.{flaws_of_oneof}
use Rattle.proto_desc_checks.proofs.file.add_oneof.Goals as goal

pub returns : goal.returns
returns c =
    let o = c.args.oneof.now in
    let same : c.has_no_field.result ≡ is_empty (fields_in (trees oneof_item_tree o.members.items)) = c.has_no_field.ensures ∙ ap (λ items. is_empty (fields_in (trees oneof_item_tree items))) c.deref.ensures.value in
    on_ok_weaker c.add_if.result
    (λ e. e ∙ ap (λ (fs : List Flaw). c.args.found.now.items ++ fs) (ap (λ (b : Bool). flaw_if b kind.EmptyOneof o.name) same ∙ sym (flaws_of_oneof c.args.scene.now (header.Oneof (record { keyword = o.keyword; name = o.name })) o.open o.members.items o.close)))
    c.add_if.ensures
