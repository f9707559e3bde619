use Rattle.std.proofs.Common.{◌∙◌, [], get_or, map}
use Rattle.proto_tree.specs.File.{tree_of_file}
use Rattle.proto_resolved.specs.Common.{enum_at, enum_in}
use Rattle.proto_resolved.proofs.MeantEnums.{means_are, same_meant}
use Rattle.proto_resolved.proofs.ReadScenes.{scene_is}
use Rattle.proto_resolved.proofs.scenes.scene.Goals as goal
use Rattle.proto_ast.specs.Views.{meant_of}

pub new-words-requires : goal.new-words-requires
new-words-requires c = rw c.files-files.ensures.files c.requires.file

pub tree-requires : goal.tree-requires
tree-requires c = rw c.files-files.ensures.files c.requires.file

pub profile-requires : goal.profile-requires
profile-requires c = rw c.files-files.ensures.files c.requires.file

pub returns : goal.returns
returns c = λ reads are.
    (let files = c.args.linked.now.files in
    let link = c.args.linked.now.link in
    let same = c.files-files.ensures.files in
    let made = rw c.link.ensures.link at c.in_ok-means.ensures.means in
    let means = made
    ∙ same_meant link (enum_in c.args.table.now) (enum_at files reads) (get_or link.meant c.args.file []) (c.requires.table reads are)
    ∙ means_are files reads link (c.link.ensures.linked.link reads are) c.args.file c.requires.file in
    scene_is files c.args.file c.requires.file c.new-words.result (rw same at c.new-words.ensures.words) (tree_of_file c.tree.result.now) (rw same at c.tree.ensures) reads are
    c.profile.result (rw same at c.profile.ensures) c.is_proto3-is_proto3.result c.is_proto3-is_proto3.ensures (map meant_of c.in_ok-means.means.items) means c.new.result c.new.ensures)
