use Rattle.std.proofs.Common.{◌≡◌, List, Some, map, take, flat_map}
use Rattle.proto_files.specs.FilesRead.{AreRead, ReadOf}
use Rattle.proto_ast.specs.Numbers.{past}
use Rattle.proto_resolved.specs.Blocks.{block_of}
use Rattle.proto_desc_extensions.specs.Common.{block_extensions, told, told_by}
use Rattle.proto_desc_extensions.proofs.listed.extensions.Given as goal

abbrev pub invariant-loop-block : goal.invariant-loop-block
invariant-loop-block l = (reads : List ReadOf) → AreRead l.at.linked.now.files reads
    → map told_by l.found.items ≡ map (told l.at.linked.now.files reads) (flat_map (block_extensions (Some past) l.at.linked.now.files reads l.at.file) (map block_of (take l.block-index l.block-items)))
