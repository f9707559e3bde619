use Rattle.std.proofs.Common.{◌≡◌, ℕ, List, take, string_bytes, bytes_eq}
use Rattle.std.specs.HashSet.{contains_text}
use Rattle.std.specs.List.{list_any}
use Rattle.proto_names_imports.specs.Common.{IsFileIndex}
use Rattle.proto_names_faults.specs.Common.{AreAdded, IsImportIn}
use Rattle.proto_names_faults.proofs.importing.add_file_flaws.Given as goal

abbrev pub invariant-loop-import : goal.invariant-loop-import
invariant-loop-import l = record {
  named : (text : List ℕ) → contains_text l.named text ≡ list_any (λ w. bytes_eq (string_bytes w.path) text) (take l.import-index l.written);
  flaws : (paths : List (List ℕ)) → IsFileIndex l.graph.index.now paths → AreAdded (IsImportIn paths l.graph.marks.now l.file (take l.import-index l.written)) l.fn.found.items l.found.items;
}
