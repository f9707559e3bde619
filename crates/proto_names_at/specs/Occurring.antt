-- The names at tokens are those of which the tokens are occurrences.
use Rattle.std.specs.Prelude.{◌↔◌, ℕ, ◌<◌, List, [], length, Option, Some, None}
use Rattle.std.specs.Global.{Vec}
use Rattle.std.specs.List.{Contains}
use Rattle.proto_base.specs.Texts.{Text}
use Rattle.proto_files.specs.Faults.{HasNoFault}
use Rattle.proto_files.specs.FilesRead.{AreRead, ReadOf}
use Rattle.proto_files.specs.GivenFiles.{FileOf}
use Rattle.proto_names_imports.specs.Links.{LinkFaults}
use Rattle.proto_names_rules.specs.Grown.{at}
use Rattle.proto_edit_rename.specs.Occurrences.{AreOccurrencesOfName, tokens_in}
use Rattle.proto_edit_rename.specs.declared.file_occurrences.FileOccurrences.{FileOccurrences}
use Rattle.proto_names_at.specs.NamesAt.{StandsFor}

-- the tokens of the file among what was answered of a name
abbrev pub tokens_of : Option (Vec FileOccurrences) → ℕ → List ℕ
tokens_of None file = []
tokens_of (Some found) file = tokens_in found.items file

-- A token stands for a name exactly where the occurrences of the name have it.
abbrev pub NamesOccur : Type 0
NamesOccur =
    (files : List FileOf) (reads : List ReadOf) (name : Text)
    (occurrences : Option (Vec FileOccurrences))
    → AreRead files reads
    → HasNoFault (LinkFaults files)
    → AreOccurrencesOfName files name occurrences
    → (file token : ℕ)
    → file < length files
    → StandsFor files reads (at file token) name ↔ Contains (tokens_of occurrences file) token
