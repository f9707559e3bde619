use Rattle.std.proofs.Common.{◌≡◌, ℕ, ◌<◌, List, [], ◌∷◌, ◌++◌, length, length-append, refl, sym, ap, subst, ◌∙◌, arith}
use Rattle.proto_tree.specs.File.{tree_of_file}
use Rattle.proto_files.proofs.Common.{read_at, each_pushed}
use Rattle.proto_resolved.specs.Scenes.{IsSceneOf}
use Rattle.proto_desc_build.specs.Described.{file_described}
use Rattle.proto_descriptors.specs.Descriptors.{FileDesc}
use Rattle.proto_descriptors.specs.Views.{file_desc}
use Rattle.proto_descriptors_json.specs.DescriptorText.{json_text}
use Rattle.proto_desc.proofs.CheckedFiles.{all_told, described_at, described_of_file}
use Rattle.proto_desc.proofs.checking.json_of.Goals as goal

pub loop-file-init : goal.loop-file-init
loop-file-init c = ([], c.new-text.ensures.bytes, refl, λ reads are k d l. absurd (omega (arith, l)))

pub loop-file-preserved : goal.loop-file-preserved
loop-file-preserved c =
    let files = c.args.linked.now.files in
    let file = c.loop-file.file in
    let l : file < length files = omega (arith, c.loop-file-test.true, c.file_count-file-end.ensures.len) in
    let scene = c.index-scenes-file.result in
    let tree = tree_of_file c.tree.result.now in
    let is = subst (IsSceneOf files file) (sym c.index-scenes-file.is) (c.requires.each file scene (omega (arith, l, c.requires.len))) in
    let told = c.loop-file.invariant.0 in
    let d : FileDesc = file_desc c.in_ok-descriptor.descriptor in (
      told ++ d ∷ [],
      c.in_ok-push_file.ensures told c.loop-file.invariant.1,
      omega (arith, length-append told (d ∷ []), c.loop-file.invariant.2),
      λ reads are.
          each_pushed (λ k x. x ≡ described_at files reads k (read_at reads k).tree) told (told ++ d ∷ []) d file refl c.loop-file.invariant.2 (c.loop-file.invariant.3 reads are)
          (c.in_ok-descriptor.ensures ∙ ap (λ (p : List ℕ). file_described scene p tree) (rw c.files-files.ensures.files at c.path-path.ensures) ∙ described_of_file files file l scene is tree (rw c.files-files.ensures.files at c.tree.ensures) reads are),
    )

pub returns : goal.returns
returns c = λ reads are.
    c.in_ok-close.ensures c.loop-file.invariant.0 c.loop-file.invariant.1
    ∙ ap json_text (all_told c.args.linked.now.files reads c.loop-file.invariant.0 (omega (arith, c.loop-file.invariant.2, c.loop-file-test.false, c.file_count-file-end.ensures.len, c.loop-file.auto.file-end, are.same)) (c.loop-file.invariant.3 reads are))
