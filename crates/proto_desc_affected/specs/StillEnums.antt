-- Enums of edited files that are what is kept of them, by the rows of their names.
use Rattle.std.specs.Prelude.{◌≡◌, ℕ, Bool, false, not, ◌||◌, List, Option, Some, None}
use Rattle.proto_files.specs.GivenFiles.{FileOf}
use Rattle.proto_desc_affected.specs.Checked.{IsEnumAtRow, KeepsEnum, EnumSummaryOf, FileSummaryOf}
use Rattle.proto_desc_affected.specs.Values.{IsSameEnum}
use Rattle.proto_names.specs.Linking.{LinkOf}
use Rattle.proto_ast.specs.Scenes.{EnumOf}

-- an enum is what is kept of it to a file that is proto3 or not, where it is told whether it is so
-- whole, or but for the names of its values; it is not where nothing is told
abbrev pub is_still_to : Bool → Option Bool → Bool
is_still_to proto3 None = false
is_still_to proto3 (Some whole) = proto3 || whole

-- of a file this enum is kept, whole or but for the names of its values
abbrev pub IsEnumAsKept : FileSummaryOf → EnumSummaryOf → Bool → Type 0
IsEnumAsKept k e whole =
    (before : EnumOf) × KeepsEnum k e.name before
    × IsSameEnum (not whole) (Some before) (Some e.enum)

-- what is told of rows is so of the enums that have their names
abbrev pub AreStillEnums : List FileOf → LinkOf → List FileSummaryOf → (ℕ → Option Bool) → Type 0
AreStillEnums files l ks still =
    (row : ℕ) (whole : Bool) → still row ≡ Some whole → IsEnumAtRow files l ks (not whole) row
