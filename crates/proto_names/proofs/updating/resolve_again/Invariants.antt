use Rattle.std.proofs.Common.{◌≡◌, ℕ, List, [], length, get_or, map, take, All}
use Rattle.proto_files.specs.FilesRead.{AreRead, ReadOf}
use Rattle.proto_names_rules.specs.Marked.{IsUnmarked}
use Rattle.proto_base.specs.Undone.{AreWithin, undone}
use Rattle.proto_names.specs.FileReferences.{AreFileMeant}
use Rattle.proto_names.specs.Renewal.{AreMeantBelow}
use Rattle.proto_names.proofs.updating.resolve_again.Given as goal

abbrev pub invariant-loop-file : goal.invariant-loop-file
invariant-loop-file l = record {
  undone : undone l.log.items l.meant.items ≡ undone l.fn.log.items l.fn.meant.items;
  within : AreWithin (length l.fn.meant.items) l.fn.log.items → AreWithin (length l.fn.meant.items) l.log.items;
  len : length l.meant.items ≡ length l.fn.meant.items;
  below : AreMeantBelow (length l.resolver.declarations.now.table.rows.items) l.fn.log.items l.fn.meant.items → AreMeantBelow (length l.resolver.declarations.now.table.rows.items) l.log.items l.meant.items;
  meant : (reads : List ReadOf) → AreRead l.resolver.files.now reads → All (λ k. AreFileMeant l.resolver.declarations.now.table l.resolver.files.now reads k (get_or (map (λ v. v.items) l.meant.items) k [])) (take l.file-index l.file-items);
  others : (k : ℕ) → IsUnmarked l.affected k → get_or (map (λ v. v.items) l.meant.items) k [] ≡ get_or (map (λ v. v.items) l.fn.meant.items) k [];
}
