use Rattle.std.proofs.Common.{◌≡◌, List, length}
use Rattle.proto_files.specs.FilesRead.{ReadOf, AreRead, read_at, Each}
use Rattle.proto_names_imports.specs.Links.{IsListing}
use Rattle.proto_names_faults.proofs.listings.listings.Given as goal

abbrev pub invariant-loop-file : goal.invariant-loop-file
invariant-loop-file l = record {
  len : length l.listings.items ≡ l.file;
  each : (reads : List ReadOf) → AreRead l.files reads → Each (λ k x. IsListing (read_at reads k) x) l.listings.items;
}
