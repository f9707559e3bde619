-- The token that declares what has a name.
use Rattle.std.specs.Prelude.{◌<◌, List, length}
use Rattle.proto_base.specs.Texts.{Text}
use Rattle.proto_files.specs.FilesRead.{AreRead, ReadOf}
use Rattle.proto_files.specs.GivenFiles.{FileOf}
use Rattle.proto_names_rules.specs.Grown.{At, at}
use Rattle.proto_names_at.specs.NamesAt.{DeclaresName, HasTarget}
use Rattle.proto_answers.specs.declared.declaring.FileToken.{FileToken}

-- a token of a file
abbrev pub at_token : FileToken → At
at_token t = at t.file t.token

-- the token of one of the files declares what has the name
pub record IsDeclaring (files : List FileOf) (name : Text) (t : FileToken) : Type 0 where
  pub within : t.file < length files
  pub declares : (reads : List ReadOf)
      → AreRead files reads
      → DeclaresName files reads (at_token t) name

-- what has the name may be renamed
abbrev pub MayBeRenamed : List FileOf → Text → Type 0
MayBeRenamed files name = (reads : List ReadOf) × AreRead files reads × HasTarget files reads name
