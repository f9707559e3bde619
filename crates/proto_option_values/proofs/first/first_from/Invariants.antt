use Rattle.std.proofs.Common.{◌≡◌, ℕ, ◌<◌, ◌≤◌, List, None}
use Rattle.proto_files.specs.FilesRead.{AreRead, ReadOf}
use Rattle.proto_option_values.specs.FileWords.{file_word}
use Rattle.proto_option_values.specs.OptionValues.{words_asked}
use Rattle.proto_option_values.proofs.first.first_from.Given as goal

abbrev pub invariant-loop-file : goal.invariant-loop-file
invariant-loop-file l =
    (reads : List ReadOf) → AreRead l.files reads
    → (file : ℕ) → l.start ≤ file → file < l.file → file_word l.search.link.now l.search.leading.now (words_asked l.search.asked.now) l.files reads file ≡ None
