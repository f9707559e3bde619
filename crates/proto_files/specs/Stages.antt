-- What a file of a workspace says at each stage of being read: its path, bytes and language.
use Rattle.std.specs.Prelude.{List, map}
use Rattle.std.specs.String.{string_bytes}
use Rattle.proto_base.specs.Texts.{Path}
use Rattle.proto_files.specs.declared.stages.NamedFile.{NamedFile}
use Rattle.proto_files.specs.declared.stages.LexedFile.{LexedFile}
use Rattle.proto_files.specs.declared.stages.ReadFile.{ReadFile}
use Rattle.proto_files.specs.GivenFiles.{FileOf}

-- a file of which nothing is read yet, as it was given
abbrev pub named_file : NamedFile → FileOf
named_file f =
    record { path = string_bytes f.path; bytes = f.bytes.items; profile = f.profile }

-- files of which nothing is read yet, as they were given
abbrev pub named_files : List NamedFile → List FileOf
named_files files = map named_file files

-- the paths of such files, in order
abbrev pub named_paths : List NamedFile → List Path
named_paths files = map (λ f. string_bytes f.path) files

-- a file with its tokens, as it was given
abbrev pub lexed_file : LexedFile → FileOf
lexed_file f = record { path = string_bytes f.path; bytes = f.source; profile = f.profile }

-- files with their tokens, as they were given
abbrev pub lexed_files : List LexedFile → List FileOf
lexed_files files = map lexed_file files

-- a file with its tree, as it was given
abbrev pub read_file : ReadFile → FileOf
read_file f = record { path = string_bytes f.path; bytes = f.source; profile = f.profile }

-- files with their trees, as they were given
abbrev pub read_files : List ReadFile → List FileOf
read_files files = map read_file files
