use Rattle.std.proofs.Common.{◌≡◌, ℕ, List, map, take}
use Rattle.proto_text.specs.Texts.{word_at}
use Rattle.proto_names_outline.specs.Listing.{wanted_of}
use Rattle.proto_names_imports.specs.ImportSteps.{IsFileIndex}
use Rattle.proto_lint.specs.ImportTables.{public_targets}
use Rattle.proto_lint.proofs.imports.public_targets.Given as goal

abbrev pub invariant-loop-import : goal.invariant-loop-import
invariant-loop-import l = (paths : List (List ℕ)) → IsFileIndex l.index paths → l.targets.items ≡ public_targets paths (word_at l.words) (map wanted_of (take l.import-index l.wanted))
