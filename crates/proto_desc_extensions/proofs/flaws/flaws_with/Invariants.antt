use Rattle.std.proofs.Common.{◌≡◌, List, length, map, Some}
use Rattle.proto_files.specs.FilesRead.{AreRead, Each, ReadOf}
use Rattle.proto_ast.specs.Numbers.{past}
use Rattle.proto_desc_extensions.specs.Common.{HasSeen, extensions_before, told, number_flaws}
use Rattle.proto_desc_extensions.proofs.flaws.flaws_with.Given as goal

abbrev pub invariant-loop-file : goal.invariant-loop-file
invariant-loop-file l = record {
  len : length l.found.items ≡ l.file;
  each : (reads : List ReadOf) → AreRead l.linked.files reads → Each (λ k flaws. flaws.items ≡ number_flaws (Some past) l.linked.files reads k) l.found.items;
  seen : (reads : List ReadOf) → AreRead l.linked.files reads → HasSeen l.seen (map (told l.linked.files reads) (extensions_before (Some past) l.linked.files reads l.file));
}
