-- Splices as edits, and the faults of splices.
use Rattle.std.specs.Prelude.{ℕ, ◌≤◌, ◌<◌, List, length, map, codes, Option, Some, None, Result, Ok, Err}
use Rattle.std.specs.String.{string_bytes}
use Rattle.std.specs.Global.{Vec}
use Rattle.proto_base.specs.Texts.{Text, text_limit}
use Rattle.proto_text.specs.declared.splice.Splice.{Splice}
use Rattle.proto_text.specs.declared.splice.SpliceFault.{SpliceFault}
use Rattle.proto_text.specs.declared.splice.SpliceFault.TheVariants.{Stale, TooLarge, Disorder, NoMemory}
use Rattle.proto_text.specs.Edits.{Edit, Puts}

-- the edit of a splice: the same place, and the bytes of its texts
abbrev pub edit_of : Splice → Edit
edit_of s = record { at = s.at; old = string_bytes s.old; new = string_bytes s.new }

-- the edits of splices, in their order
abbrev pub edits : List Splice → List Edit
edits ss = map edit_of ss

-- the text with the edits, if each old text is at its place
abbrev pub IsTextPut : Text → List Edit → Option (Vec ℕ) → Type 0
IsTextPut text es None = (new : List ℕ) → Puts 0 text es new → ⊥
IsTextPut text es (Some new) = Puts 0 text es new.items

-- the text is put, too long, or not there
abbrev pub IsApplied : Text → List Edit → Result (Vec ℕ) SpliceFault → Type 0
IsApplied text es (Ok new) = Puts 0 text es new.items × (length new.items ≤ text_limit)
IsApplied text es (Err Stale) = (new : List ℕ) → Puts 0 text es new → ⊥
IsApplied text es (Err TooLarge) = (new : List ℕ) × Puts 0 text es new × (text_limit < length new)
IsApplied text es (Err Disorder) = ⊥
IsApplied text es (Err NoMemory) = Unit {0}

-- the number of a fault of splices, from 1 to 3; 0 when out of memory: the table of this product
abbrev pub splice_number : SpliceFault → ℕ
splice_number Stale = 1
splice_number TooLarge = 2
splice_number Disorder = 3
splice_number NoMemory = 0

-- the name of a fault of splices
abbrev pub splice_name : SpliceFault → Text
splice_name Stale = codes "Stale"
splice_name TooLarge = codes "TooLarge"
splice_name Disorder = codes "Disorder"
splice_name NoMemory = codes "NoMemory"
