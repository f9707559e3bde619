-- The JSON text of the descriptors of files, made file by file.
use Rattle.std.specs.Prelude.{◌≡◌, List, [], ◌∷◌, ◌++◌, codes, map}
use Rattle.proto_base.specs.Texts.{Text}
use Rattle.proto_files.specs.FilesRead.{ReadOf, AreRead}
use Rattle.proto_files.specs.GivenFiles.{FileOf}
use Rattle.proto_descriptors.specs.Descriptors.{FileDesc}
use Rattle.proto_descriptors_json.specs.DescriptorText.{file_text, json_text}
use Rattle.proto_descriptors_json.specs.JsonText.{comma_separated}
use Rattle.proto_desc.specs.Checked.{described}

-- the text is that of the descriptors of the files, in the order of their paths
abbrev pub IsJsonOf : List FileOf → Text → Type 0
IsJsonOf files text =
    (reads : List ReadOf) → AreRead files reads → text ≡ json_text (described files reads)

-- the beginning of the text of these files, to which another one may be added
abbrev pub open_text : List FileDesc → Text
open_text [] = []
open_text (file ∷ files) =
    codes "{\"file\":[" ++ comma_separated (map file_text (file ∷ files))
