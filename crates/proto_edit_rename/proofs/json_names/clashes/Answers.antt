use Rattle.std.proofs.Common.{◌↔◌, IsTrue, map, sym, subst, ap, ◌∙◌}
use Rattle.proto_base.proofs.Common.{list_any, IfOk-weaker}
use Rattle.proto_tree.specs.File.{tree_of_file}
use Rattle.proto_edit_rules.specs.Rename.{JsonNameClashes}
use Rattle.proto_edit_rename.proofs.Common.{block_of, clash_in}
use Rattle.proto_edit_rename.proofs.AimedAt.{aim_inside}
use Rattle.proto_edit_rename.proofs.JsonClashes.{clash_from, clash_to}
use Rattle.proto_edit_rename.proofs.json_names.clashes.Goals as goal

pub scene-scene-requires : goal.scene-scene-requires
scene-scene-requires c = let t = c.requires c.files-files.ensures.clean.reads c.files-files.ensures.clean.read in rw c.files-files.ensures.files (aim_inside c.args.linked.now.files c.files-files.ensures.clean.reads c.files-files.ensures.clean.read c.args.target t.0 t.1)

pub returns : goal.returns
returns c =
    IfOk-weaker c.one_clashes.result _ _
    (λ b e. λ reads are t h.
    let files = c.args.linked.now.files in
    let tree = tree_of_file c.tree.result.now in
    let aim = c.args.target in
    let name = c.deref-2.result.now in
    let within = aim_inside files reads are aim t h in
    let as_read = (rw c.files-files.ensures.files at c.scene-scene.ensures) reads are in
    let named = c.deref-2.ensures ∙ c.in_ok-name.ensures in
    let blocks = ap (map block_of) c.deref.ensures.value ∙ c.in_ok-blocks.ensures in
    let same = e ∙ ap (list_any (clash_in c.scene-scene.result aim.token name)) blocks in
    let version = sym c.is_proto3.ensures ∙ c.if-not-is_proto3.false in
    subst (λ a. IsTrue b ↔ JsonNameClashes files reads a c.args.word.now) h.token (
      (λ is. clash_to files reads are aim.file within c.scene-scene.result as_read tree (rw c.files-files.ensures.files at c.tree.ensures) aim.token c.args.word.now name named version (sym same ∙ is)),
      (λ r. same ∙ clash_from files reads are aim.file within c.scene-scene.result as_read tree (rw c.files-files.ensures.files at c.tree.ensures) aim.token c.args.word.now name named r),
    ))
    c.one_clashes.ensures
