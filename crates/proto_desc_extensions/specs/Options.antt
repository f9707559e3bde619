-- Whether some file is as written, the names of options messages, and where an extension is declared.
use Rattle.std.specs.Prelude.{◌≡◌, ℕ, Bool, true, false, ◌==◌, List, Option, Some, None}
use Rattle.std.specs.List.{list_any}
use Rattle.proto_base.specs.Ascii as ascii
use Rattle.proto_base.specs.declared.profile.Profile.{Profile}
use Rattle.proto_base.specs.declared.profile.Profile.TheVariants as profile
use Rattle.proto_custom_options.specs.CustomOptions.{CustomOf}
use Rattle.proto_files.specs.FilesRead.{ReadOf}
use Rattle.proto_files.specs.GivenFiles.{FileOf}
use Rattle.proto_names_rules.specs.Grown.{at}
use Rattle.proto_tree.specs.declared.tree.Reference.{Reference}
use Rattle.proto_desc_extensions.specs.Extensions.{extended_at, option_extends}
use Rattle.proto_desc_extensions.specs.declared.extended_table.PlaceAt.{PlaceAt}

-- it is the language as written
abbrev pub is_as_written : Profile → Bool
is_as_written profile.Core = false
is_as_written profile.AsWritten = true

-- the file is as written
abbrev pub is_written : FileOf → Bool
is_written f = is_as_written f.profile

-- the name of the options message of the option's element has no dot
abbrev pub IsOfOneWord : CustomOf → Type 0
IsOfOneWord c = list_any (λ b. b == ascii.dot) c.message ≡ false

-- the place at which the extension is declared that a reference of a file means, if it means
-- something: what the extension there extends is what the one that is meant extends
abbrev pub IsPlaceMeant
    : List FileOf → List ReadOf → ℕ → Reference → Option PlaceAt → Type 0
IsPlaceMeant files reads file r None = option_extends files reads file r ≡ None
IsPlaceMeant files reads file r (Some p) =
    extended_at files reads (at p.file p.token) ≡ option_extends files reads file r
