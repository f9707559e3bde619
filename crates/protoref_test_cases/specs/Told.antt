-- What an edit is answered, in the words of a row.
use Rattle.std.specs.Prelude.{ℕ, List, ◌++◌, Result, Ok, Err, codes, string_bytes, decimal, flat_map}
use Rattle.proto_base.specs.Texts.{Path, Text}
use Rattle.proto_text.specs.Edits.{Edit}
use Rattle.proto_edit_entries.specs.declared.refusal.Refusal.{Refusal}
use Rattle.proto_edit_entries.specs.declared.refusal.Refusal.TheVariants as refusal
use Rattle.proto_edit_entries.specs.Entries.{ChangeOf}
use Rattle.proto_edit_entries.specs.RefusalTable.{refusal_number, refusal_name}

-- a path and an offset behind a refusal's name, as ` path offset`
abbrev pub place_told : Path → ℕ → Text
place_told path offset = codes " " ++ (path ++ (codes " " ++ decimal offset))

-- the place that is told with a refusal: the reference that is captured, or that needs the import,
-- or the custom option
abbrev pub places_told : Refusal → Text
places_told (refusal.Captured path offset) = place_told (string_bytes path) offset
places_told (refusal.Needed path offset) = place_told (string_bytes path) offset
places_told (refusal.OptionValue path offset) = place_told (string_bytes path) offset
places_told _ = codes ""

-- a refusal as `number name`, with the place of a reference where it has one
abbrev pub refusal_told : Refusal → Text
refusal_told r = (decimal (refusal_number r) ++ (codes " " ++ refusal_name r)) ++ places_told r

-- a splice as ` (offset old new)`
abbrev pub splice_told : Edit → Text
splice_told e = codes " (" ++ (decimal e.at ++ (codes " " ++ (e.old ++ (codes " "
    ++ (e.new ++ codes ")")))))

-- a changed file as `path before after`, with its lengths in bytes, its splices in order, and `;`
abbrev pub change_told : ChangeOf → Text
change_told c = ((c.path ++ (codes " " ++ (decimal c.before ++ (codes " " ++ decimal c.after))))
    ++ flat_map splice_told c.splices) ++ codes ";"

-- an entry as its changes in order, and a refusal as its number, its name and its place
abbrev pub told_of : Result (List ChangeOf) Refusal → Text
told_of (Ok cs) = flat_map change_told cs
told_of (Err r) = refusal_told r
