-- What the descriptors of a deletion and of an added or dropped import leave out of a record stays as it was: each record with all of its fields.
use Rattle.std.proofs.Common.{◌≡◌, ℕ, List, [], ◌∷◌, ◌++◌, bytes_eq, flat_map, length, map, refl}
use Rattle.proto_ast.specs.Parts.{reserved_names, reserved_ranges}
use Rattle.proto_tree.specs.Tree.{Tree}
use Rattle.proto_descriptors.specs.Descriptors.{FileDesc, MessageDesc}
use Rattle.proto_edit_rules.specs.AddImport.{with_dependencies, with_dependency}
use Rattle.proto_edit_rules.specs.DeleteField.{field_place, mapped_deletion, messages_with_deletion, range_of_field, statements_before, without_field}
use Rattle.proto_edit_rules.specs.DropImport.{lowered, without_dependency}
use Rattle.proto_edit_rules.specs.Statements.{at_place, places_before, with_more, without_place}

imports_whole : (dependency : List (List ℕ)) (public weak : List ℕ) (d : FileDesc) → with_dependencies dependency public weak d ≡ (let x : FileDesc = record {
  name = d.name;
  «package» = d.«package»;
  dependency = dependency;
  public_dependency = public;
  weak_dependency = weak;
  message_type = d.message_type;
  enum_type = d.enum_type;
  service = d.service;
  extension = d.extension;
  options = d.options;
  syntax = d.syntax;
} in x)
imports_whole dependency public weak d = refl

addition_whole : (path : List ℕ) (d : FileDesc) → with_dependency path d ≡ with_dependencies (d.dependency ++ path ∷ []) d.public_dependency d.weak_dependency d
addition_whole path d = refl

drop_whole : (path : List ℕ) (d : FileDesc)
    → without_dependency path d
    ≡ with_dependencies (without_place (places_before (bytes_eq path) d.dependency) d.dependency) (lowered (places_before (bytes_eq path) d.dependency) d.public_dependency) (lowered (places_before (bytes_eq path) d.dependency) d.weak_dependency) d
drop_whole path d = refl

message_whole : (token : ℕ) (within : Tree) (m : MessageDesc) → without_field token within m ≡ (let x : MessageDesc = record {
  name = m.name;
  field = without_place (field_place token within) m.field;
  extension = m.extension;
  enum_type = m.enum_type;
  extension_range = m.extension_range;
  oneof_decl = m.oneof_decl;
  reserved_range = with_more (length (flat_map reserved_ranges (statements_before token within))) (map range_of_field (at_place (field_place token within) m.field)) m.reserved_range;
  reserved_name = with_more (length (flat_map reserved_names (statements_before token within))) (map (λ f. f.name) (at_place (field_place token within) m.field)) m.reserved_name;
  options = m.options;
} in x)
message_whole token within m = refl

deletion_whole : (token : ℕ) (tree : Tree) (d : FileDesc) → mapped_deletion token tree d ≡ (let x : FileDesc = record {
  name = d.name;
  «package» = d.«package»;
  dependency = d.dependency;
  public_dependency = d.public_dependency;
  weak_dependency = d.weak_dependency;
  message_type = messages_with_deletion token tree d.message_type;
  enum_type = d.enum_type;
  service = d.service;
  extension = d.extension;
  options = d.options;
  syntax = d.syntax;
} in x)
deletion_whole token tree d = refl
