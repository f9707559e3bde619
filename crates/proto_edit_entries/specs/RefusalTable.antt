-- The numbers and names of refusals: the table of this product.
use Rattle.std.specs.Prelude.{ℕ, codes}
use Rattle.proto_base.specs.Texts.{Text}
use Rattle.proto_edit_entries.specs.declared.refusal.Refusal.{Refusal}
use Rattle.proto_edit_entries.specs.declared.refusal.Refusal.TheVariants as refusal

-- the number of a refusal; of cases that hold, the least is answered
abbrev pub refusal_number : Refusal → ℕ
refusal_number refusal.UnknownTarget = 1
refusal_number refusal.KindNotAllowed = 2
refusal_number refusal.NotAnIdentifier = 3
refusal_number refusal.KeywordName = 4
refusal_number refusal.SameName = 5
refusal_number refusal.Collision = 6
refusal_number (refusal.Captured path offset) = 7
refusal_number refusal.NameReserved = 8
refusal_number refusal.JsonClash = 9
refusal_number refusal.LastOfOneof = 10
refusal_number refusal.UnknownFile = 11
refusal_number refusal.AlreadyImported = 12
refusal_number refusal.NotImported = 13
refusal_number refusal.Cycle = 14
refusal_number (refusal.Needed path offset) = 15
refusal_number refusal.TooLarge = 16
refusal_number refusal.Stale = 17
refusal_number refusal.NoMemory = 18
refusal_number (refusal.OptionValue path offset) = 19
refusal_number refusal.FixedName = 20

-- the name of a refusal
abbrev pub refusal_name : Refusal → Text
refusal_name refusal.UnknownTarget = codes "UnknownTarget"
refusal_name refusal.KindNotAllowed = codes "KindNotAllowed"
refusal_name refusal.NotAnIdentifier = codes "NotAnIdentifier"
refusal_name refusal.KeywordName = codes "KeywordName"
refusal_name refusal.SameName = codes "SameName"
refusal_name refusal.Collision = codes "Collision"
refusal_name (refusal.Captured path offset) = codes "Captured"
refusal_name refusal.NameReserved = codes "NameReserved"
refusal_name refusal.JsonClash = codes "JsonClash"
refusal_name refusal.LastOfOneof = codes "LastOfOneof"
refusal_name refusal.UnknownFile = codes "UnknownFile"
refusal_name refusal.AlreadyImported = codes "AlreadyImported"
refusal_name refusal.NotImported = codes "NotImported"
refusal_name refusal.Cycle = codes "Cycle"
refusal_name (refusal.Needed path offset) = codes "Needed"
refusal_name refusal.TooLarge = codes "TooLarge"
refusal_name refusal.Stale = codes "Stale"
refusal_name refusal.NoMemory = codes "NoMemory"
refusal_name (refusal.OptionValue path offset) = codes "OptionValue"
refusal_name refusal.FixedName = codes "FixedName"
