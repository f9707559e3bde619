use Rattle.std.proofs.Common.{◌≡◌, All}
use Rattle.proto_files.specs.Common.{IsLexedFile, named_files, lexed_files}
use Rattle.proto_files.proofs.reading.lex_files.Given as goal

abbrev pub invariant-loop-file : goal.invariant-loop-file
invariant-loop-file l = (lexed_files l.lexed.items ≡ named_files l.yielded) × All IsLexedFile l.lexed.items
