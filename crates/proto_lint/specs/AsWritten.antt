-- The findings of files of the core language, as written.
use Rattle.std.specs.Prelude.{◌≡◌, Bool, List, map}
use Rattle.proto_files.specs.FilesRead.{ReadOf}
use Rattle.proto_files.specs.GivenFiles.{FileOf}
use Rattle.proto_files.specs.Laws.{as_written}
use Rattle.proto_lint.specs.Findings.{findings}

-- What rules find in files does not ask for the files' language.
abbrev pub FindingsAskNoLanguage : Type 0
FindingsAskNoLanguage =
    (rules : List Bool) (files : List FileOf) (reads : List ReadOf)
    → findings rules (map as_written files) reads ≡ findings rules files reads
