use Rattle.std.proofs.Common.{ℕ, ◌<◌, List}
use Rattle.proto_files.specs.FilesRead.{AreRead, ReadOf}
use Rattle.proto_option_values.specs.FileWords.{HasNoWord}
use Rattle.proto_option_values.specs.OptionValues.{words_asked}
use Rattle.proto_option_values.proofs.first.files_without_word.Given as goal

abbrev pub invariant-loop-file : goal.invariant-loop-file
invariant-loop-file l = (reads : List ReadOf) → AreRead l.files reads → (file : ℕ) → file < l.file → HasNoWord l.files reads (words_asked l.asked) file
