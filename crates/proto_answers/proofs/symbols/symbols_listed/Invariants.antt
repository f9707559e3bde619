use Rattle.std.proofs.Common.{◌≡◌, List, take}
use Rattle.proto_files.proofs.Common.{AreRead, ReadOf}
use Rattle.proto_names_outline.proofs.Common.{read}
use Rattle.proto_positions.specs.Positions.{IsCursorIn}
use Rattle.proto_answers.proofs.SymbolLists.{Symbols}
use Rattle.proto_answers.proofs.symbols.symbols_listed.Given as goal

abbrev pub invariant-loop-listed : goal.invariant-loop-listed
invariant-loop-listed l = record {
  cursor : IsCursorIn l.encoding l.text l.cursor;
  made : (reads : List ReadOf) → AreRead l.files reads → l.all.items ≡ Symbols l.encoding l.files reads l.file (read (take l.listed-index l.declared));
}
