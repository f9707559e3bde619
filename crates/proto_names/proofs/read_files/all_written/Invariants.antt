use Rattle.std.proofs.Common.{◌≡◌, List, length, map, All}
use Rattle.proto_names_outline.specs.FromTree.{imports_in}
use Rattle.proto_names_imports.proofs.Common.{asked_by, TokensAreRising, asked_as, text_of}
use Rattle.proto_files.specs.FilesRead.{ReadOf, AreRead, read_at, Each}
use Rattle.proto_names.proofs.read_files.all_written.Given as goal

abbrev pub invariant-loop-file : goal.invariant-loop-file
invariant-loop-file l = record {
  len : length l.all.items ≡ l.file;
  rising : All (λ v. TokensAreRising v.items) l.all.items;
  asked : (reads : List ReadOf) → AreRead l.files reads → Each (λ k v. map (asked_by k) v.items ≡ map (asked_as (text_of l.files reads) k) (imports_in (read_at reads k).tree)) l.all.items;
}
