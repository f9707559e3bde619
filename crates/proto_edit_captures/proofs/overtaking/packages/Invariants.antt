use Rattle.std.proofs.Common.{◌≡◌, ◌↔◌, ℕ, true, List}
use Rattle.std.specs.HashSet.{contains_text}
use Rattle.proto_files.specs.FilesRead.{ReadOf, AreRead}
use Rattle.proto_edit_captures.proofs.PackageSets.{SeenUpTo}
use Rattle.proto_edit_captures.proofs.overtaking.packages.Given as goal

abbrev pub invariant-loop-file : goal.invariant-loop-file
invariant-loop-file l = (reads : List ReadOf) → AreRead l.files reads → (text : List ℕ) → (contains_text l.packages text ≡ true) ↔ SeenUpTo l.files reads l.set l.file text
