use Rattle.std.proofs.Common.{◌≡◌, List, length, map, All}
use Rattle.proto_names_outline.proofs.Common.{items_in, package_first}
use Rattle.proto_names_rules.specs.Grown.{at}
use Rattle.proto_names_table.proofs.Common.{named_as, AreSpelled, named_in}
use Rattle.proto_files.specs.FilesRead.{ReadOf, AreRead, read_at, Each}
use Rattle.proto_names_imports.specs.Links.{text_of}
use Rattle.proto_names_faults.proofs.listings.all_spelled.Given as goal

abbrev pub invariant-loop-file : goal.invariant-loop-file
invariant-loop-file l = record {
  len : length l.all.items ≡ l.file;
  spelled : All (λ v. AreSpelled v.items) l.all.items;
  each : (reads : List ReadOf) → AreRead l.files reads
      → Each (λ k v. named_in k v.items ≡ map (named_as k (λ i. text_of l.files reads (at k i))) (package_first (items_in (read_at reads k).tree))) l.all.items;
}
