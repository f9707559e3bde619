-- The definitions on small names, computed.
use Rattle.std.proofs.Common.{◌≡◌, ℕ, zero, suc, true, false, List, [], ◌∷◌, Some, None, codes, refl}
use Rattle.proto_names_rules.proofs.Common.{Renaming, at}
use Rattle.proto_descriptors.specs.Descriptors.{FieldDesc}
use Rattle.proto_descriptors.specs.declared.field.FieldType.TheVariants as field_type
use Rattle.proto_descriptors.specs.declared.field.Label.TheVariants as label
use Rattle.proto_edit_rename_laws.proofs.Common.{is_value_keyword, stands}
use Rattle.proto_edit_rules.specs.Rename.{Taken, mapped_default, mapped_field, mapped_name, word_under}

-- a map field whose new name is that of its old entry
map_field : Renaming
map_field = record { parent = codes "M" ∷ []; old = codes "foo"; new = codes "FooEntry"; entry = Some (codes "FooEntry", codes "FooEntryEntry") }

abbrev foo : List ℕ → List ℕ → List ℕ → FieldDesc
foo name type json = record {
  name = name;
  number = 1;
  label = label.Repeated;
  field_type = field_type.Message;
  type_name = Some type;
  extendee = None;
  default_value = None;
  oneof_index = None;
  json_name = Some json;
  proto3_optional = false;
  options = record { ctype = None; packed = None; jstype = None; lazy = None; unverified_lazy = None; deprecated = None; weak = None };
}

abbrev plain : Taken
plain = record { written = false; enum = None }

entry_type : mapped_name map_field (codes ".M.FooEntry") ≡ codes ".M.FooEntryEntry"
unfolding map_field
entry_type = refl

field_row : mapped_field map_field plain (codes "M" ∷ []) (foo (codes "foo") (codes ".M.FooEntry") (codes "foo")) ≡ foo (codes "FooEntry") (codes ".M.FooEntryEntry") (codes "FooEntry")
unfolding map_field
field_row = refl

entry_row : word_under map_field (codes "M" ∷ []) (codes "FooEntry") ≡ codes "FooEntryEntry"
unfolding map_field
entry_row = refl

-- an extension: it gets no JSON name, and its extendee goes with the message
extension : List ℕ → List ℕ → FieldDesc
extension name type = record (foo name type []) { extendee = Some type; json_name = None }

abbrev in_file : List ℕ → List ℕ → Renaming
in_file old new = record { parent = []; old = old; new = new; entry = None }

extension_row : mapped_field (in_file (codes "x") (codes "y")) plain [] (extension (codes "x") (codes ".M")) ≡ extension (codes "y") (codes ".M")
unfolding extension
extension_row = refl

extendee_row : mapped_field (in_file (codes "M") (codes "N")) plain [] (extension (codes "x") (codes ".M")) ≡ extension (codes "x") (codes ".N")
unfolding extension
extendee_row = refl

-- a value: the default of its enum goes with it, that of another enum stays
abbrev value : Renaming
value = record { parent = codes "M" ∷ []; old = codes "V"; new = codes "W"; entry = None }

abbrev of_enum : Taken
of_enum = record { written = false; enum = Some (codes "M" ∷ codes "E" ∷ []) }

own_default : mapped_default value of_enum (Some (codes ".M.E")) (codes "V") ≡ codes "W"
own_default = refl

other_default : mapped_default value of_enum (Some (codes ".N.F")) (codes "V") ≡ codes "V"
other_default = refl

-- the middle word of `A.B.C` in the package `p`, where `p.A.B` is the target
abbrev word_of : ℕ → List ℕ
word_of zero = codes "A"
word_of (suc zero) = codes "B"
word_of (suc (suc n)) = codes "C"

abbrev below : Renaming
below = record { parent = codes "p" ∷ codes "A" ∷ []; old = codes "B"; new = codes "X"; entry = None }

middle : stands below (λ a. word_of a.token) (codes "p" ∷ []) (at 0 0 ∷ at 0 1 ∷ at 0 2 ∷ []) ≡ at 0 1 ∷ []
middle = refl

option_row : is_value_keyword (codes "option") ≡ true
option_row = refl

reserved_row : is_value_keyword (codes "reserved") ≡ true
reserved_row = refl

message_row : is_value_keyword (codes "message") ≡ false
message_row = refl
