use Rattle.std.proofs.Common.{List, ◌++◌, ◌∙◌, sym, ap, map, append-nil}
use Rattle.proto_base.proofs.Common.{on_ok_weaker}
use Rattle.proto_tree.specs.File.{extension_tree, trees}
use Rattle.proto_tree.specs.declared.tree.Extension.{Extension}
use Rattle.proto_ast.proofs.Common.{FieldOf, fields_in, field_of}
use Rattle.proto_descriptors.proofs.Common.{field_desc}
use Rattle.proto_descriptors.specs.Descriptors.{FieldDesc}
use Rattle.proto_desc_build.specs.Described.{extension_described}
use Rattle.proto_desc_build.proofs.described_extensions.push_extensions.Goals as goal

pub returns : goal.returns
returns c =
    let e = c.args.extend.now in
    let own = map (extension_described c.args.scene.now e.extendee) in
    let found = map field_desc c.args.found.now.items in
    on_ok_weaker c.push_each.result
    (λ h. h
    ∙ ap (λ (fs : List FieldOf). found ++ own fs) (ap (map field_of) c.deref-2.ensures.value ∙ c.in_ok-fields.ensures ∙ ap (λ (xs : List Extension). fields_in (trees extension_tree xs)) c.deref.ensures.value)
    ∙ ap (λ (ds : List FieldDesc). found ++ ds) (sym (append-nil (own (fields_in (trees extension_tree e.fields.items))))))
    c.push_each.ensures
