use Rattle.std.proofs.Common.{◌≡◌, ℕ, ◌<◌, List, [], ◌∷◌, length, length-append, sym, ap, subst, ◌∙◌, arith}
use Rattle.proto_tree.specs.File.{tree_of_file}
use Rattle.proto_files.proofs.Common.{read_at, each_pushed}
use Rattle.proto_resolved.specs.Scenes.{IsSceneOf}
use Rattle.proto_desc_build.specs.Described.{file_described}
use Rattle.proto_descriptors.specs.Views.{file_desc}
use Rattle.proto_desc.proofs.CheckedFiles.{all_described, described_at, described_of_file}
use Rattle.proto_desc.proofs.checking.descriptors.Goals as goal

pub loop-file-preserved : goal.loop-file-preserved
loop-file-preserved c =
    let files = c.args.linked.now.files in
    let file = c.loop-file.file in
    let l : file < length files = omega (arith, c.loop-file-test.true, c.file_count-file-end.ensures.len) in
    let scene = c.index-scenes-file.result in
    let tree = tree_of_file c.tree.result.now in
    let is = subst (IsSceneOf files file) (sym c.index-scenes-file.is) (c.requires.each file scene (omega (arith, l, c.requires.len))) in
    let d = c.in_ok-file_descriptor.field-0 in
    record {
      len = omega (arith, ap length c.in_ok-push.ensures.items, length-append c.loop-file.descriptors.items (d ∷ []), c.loop-file.invariant.len);
      each = λ reads are.
          each_pushed (λ k x. file_desc x ≡ described_at files reads k (read_at reads k).tree) c.loop-file.descriptors.items c.push.new.self.items d file c.in_ok-push.ensures.items c.loop-file.invariant.len (c.loop-file.invariant.each reads are)
          (c.in_ok-file_descriptor.ensures ∙ ap (λ (p : List ℕ). file_described scene p tree) (rw c.files-files.ensures.files at c.path-path.ensures) ∙ described_of_file files file l scene is tree (rw c.files-files.ensures.files at c.tree.ensures) reads are);
    }

pub returns : goal.returns
returns c = λ reads are.
    all_described c.args.linked.now.files reads c.loop-file.descriptors.items (omega (arith, c.loop-file.invariant.len, c.loop-file-test.false, c.file_count-file-end.ensures.len, c.loop-file.auto.file-end, are.same)) (c.loop-file.invariant.each reads are)
