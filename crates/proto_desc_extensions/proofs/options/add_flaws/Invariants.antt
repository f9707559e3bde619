use Rattle.std.proofs.Common.{◌≡◌, ◌++◌, List, map, take, All}
use Rattle.proto_custom_options.specs.Views.{custom_of}
use Rattle.proto_files.specs.FilesRead.{AreRead, ReadOf}
use Rattle.proto_desc_extensions.specs.Common.{AreRowsOfFiles, IsOfOneWord, not_an_option}
use Rattle.proto_desc_extensions.proofs.options.add_flaws.Given as goal

abbrev pub invariant-loop-option : goal.invariant-loop-option
invariant-loop-option l = record {
  rows : AreRowsOfFiles l.at.linked.now.files l.rows;
  flaws : (reads : List ReadOf) → AreRead l.at.linked.now.files reads → All IsOfOneWord (map custom_of l.options)
      → l.found.items ≡ l.initial.found.items ++ not_an_option l.at.linked.now.files reads l.at.file (map custom_of (take l.option-index l.options));
}
