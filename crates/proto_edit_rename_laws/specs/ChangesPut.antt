-- The changes that a change of words makes put the files after it.
use Rattle.std.specs.Prelude.{◌≢◌, List}
use Rattle.std.specs.List.{AllPairs}
use Rattle.proto_files.specs.GivenFiles.{FileOf}
use Rattle.proto_files.specs.FilesRead.{ReadOf, AreRead}
use Rattle.proto_edit_entries.specs.Putting.{IsPut}
use Rattle.proto_edit_rename_laws.specs.Rewording.{AreReworded}
use Rattle.proto_edit_rules.specs.Rename.{NewWords, changes_of_words}

-- Put into the files, they give the files with the new words.
abbrev pub ChangesArePut : Type 0
ChangesArePut =
    (c : NewWords) (files : List FileOf) (reads : List ReadOf) (after : List FileOf)
    (seen : List ReadOf)
    → AreRead files reads
    → AreReworded c files reads after seen
    → AllPairs (λ f g. f.path ≢ g.path) files
    → IsPut files (changes_of_words c files reads) after
