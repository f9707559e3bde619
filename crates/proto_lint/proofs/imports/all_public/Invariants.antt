use Rattle.std.proofs.Common.{◌≡◌, ℕ, List, length}
use Rattle.proto_names_rules.specs.Grown.{at}
use Rattle.proto_names_outline.specs.FromTree.{imports_in}
use Rattle.proto_names_imports.proofs.Common.{IsFileIndex, text_of}
use Rattle.proto_files.specs.FilesRead.{ReadOf, AreRead, Each, read_at}
use Rattle.proto_lint.specs.ImportTables.{public_targets}
use Rattle.proto_lint.proofs.imports.all_public.Given as goal

abbrev pub invariant-loop-file : goal.invariant-loop-file
invariant-loop-file l = record {
  len : length l.public.items ≡ l.file;
  each : (paths : List (List ℕ)) → IsFileIndex l.index paths → (reads : List ReadOf) → AreRead l.files reads → Each (λ k v. v.items ≡ public_targets paths (λ i. text_of l.files reads (at k i)) (imports_in (read_at reads k).tree)) l.public.items;
}
