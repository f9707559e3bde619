use Rattle.std.proofs.Common.{take}
use Rattle.proto_text.specs.Texts.{word_at}
use Rattle.proto_names_imports.specs.Written.{AreWritten}
use Rattle.proto_names_imports.proofs.written.written_imports.Given as goal

abbrev pub invariant-loop-import : goal.invariant-loop-import
invariant-loop-import l = AreWritten (word_at l.words) (take l.import-index l.wanted) l.written.items
