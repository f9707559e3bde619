use Rattle.std.proofs.Common.{◌≡◌, ℕ, ◌<◌, List, [], length, get_or, map}
use Rattle.proto_names.specs.FileReferences.{AreFileMeant, AreLinked}
use Rattle.proto_files.specs.FilesRead.{ReadOf, AreRead}
use Rattle.proto_names.proofs.all_references.all_meanings.Given as goal

abbrev pub invariant-loop-file : goal.invariant-loop-file
invariant-loop-file l = record {
  len : length l.meant.items ≡ l.file;
  meant : (reads : List ReadOf) → AreRead l.files reads → AreLinked l.declarations.table l.seen l.declarations.rows.items l.files reads → (k : ℕ) → k < l.file → AreFileMeant l.declarations.table l.files reads k (get_or (map (λ v. v.items) l.meant.items) k []);
}
