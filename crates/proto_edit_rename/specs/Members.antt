-- What a block says of a field or a value, by the token of its name.
use Rattle.std.specs.Prelude.{◌≡◌, ℕ, Bool, false, not, ◌==◌, ◌&&◌, List, [], is_none, codes}
use Rattle.std.specs.List.{list_any}
use Rattle.std.specs.Str.{bytes_eq}
use Rattle.proto_base.specs.Texts.{Text}
use Rattle.proto_tree.specs.declared.piece.Header.{Header}
use Rattle.proto_tree.specs.declared.piece.Header.TheVariants as header
use Rattle.proto_tree.specs.declared.tree.Value.{Value}
use Rattle.proto_tree.specs.Tree.{Tree}
use Rattle.proto_files.specs.GivenFiles.{FileOf}
use Rattle.proto_files.specs.FilesRead.{ReadOf}
use Rattle.proto_ast.specs.JsonNames.{json_name_of}
use Rattle.proto_ast.specs.Options.{text_option}
use Rattle.proto_ast.specs.Parts.{BlockOf, FieldOf, fields_in, reserved_names_in, values_in}
use Rattle.proto_ast.specs.Scenes.{Scene, text, value}
use Rattle.proto_edit_captures.specs.SceneOf.{is_proto3_file, lexemes_of}
use Rattle.proto_edit_rules.specs.Rename.{has_json_names}

-- the texts, the strings and the version of a file, as it is read
pub record IsReadAs
    (files : List FileOf) (reads : List ReadOf) (file : ℕ) (scene : Scene) : Type 0 where
  pub lexemes : scene.lexemes ≡ lexemes_of files reads file
  pub version : scene.is_proto3 ≡ is_proto3_file files reads file

-- ---- members

-- a field of this name token
abbrev pub has_field : ℕ → List FieldOf → Bool
has_field token fs = list_any (λ f. f.name == token) fs

-- a value of this name token
abbrev pub has_value : ℕ → List Value → Bool
has_value token vs = list_any (λ v. v.name == token) vs

-- the fields of a message, of a oneof or of an `extend`
abbrev pub fields_by : Header → Tree → List FieldOf
fields_by (header.Message h) within = fields_in within
fields_by (header.Oneof h) within = fields_in within
fields_by (header.Enum h) within = []
fields_by (header.Service h) within = []
fields_by (header.Method s) within = []
fields_by (header.Extend e) within = fields_in within

-- an enum has the value
abbrev pub holds_value : ℕ → Header → Tree → Bool
holds_value token (header.Message h) within = false
holds_value token (header.Oneof h) within = false
holds_value token (header.Enum h) within = has_value token (values_in within)
holds_value token (header.Service h) within = false
holds_value token (header.Method s) within = false
holds_value token (header.Extend e) within = false

-- a field or a value of the block has this name token
abbrev pub has_member : ℕ → Header → Tree → Bool
has_member token (header.Message h) within = has_field token (fields_in within)
has_member token (header.Oneof h) within = has_field token (fields_in within)
has_member token (header.Enum h) within = has_value token (values_in within)
has_member token (header.Service h) within = false
has_member token (header.Method s) within = false
has_member token (header.Extend e) within = has_field token (fields_in within)

-- the token of a block's name; an `extend` has none, and gives its keyword
abbrev pub name_token : Header → ℕ
name_token (header.Message h) = h.name
name_token (header.Oneof h) = h.name
name_token (header.Enum h) = h.name
name_token (header.Service h) = h.name
name_token (header.Method s) = s.name
name_token (header.Extend e) = e.keyword

-- ---- reserved names

-- one of these strings is the word
abbrev pub says_word : Scene → Text → List ℕ → Bool
says_word scene word tokens = list_any (λ t. bytes_eq (value scene t) word) tokens

-- the block has the member, and reserves the word
abbrev pub reserves : Scene → ℕ → Text → BlockOf → Bool
reserves scene token word b =
    has_member token b.header b.within && says_word scene word (reserved_names_in b.within)

-- ---- JSON names

-- no JSON name is written for the field
abbrev pub is_unwritten : Scene → FieldOf → Bool
is_unwritten scene f =
    is_none (text_option (text scene) (value scene) (codes "json_name") f.options)

-- it is the field of the name token, whose JSON name is made of its word
abbrev pub is_made : Scene → ℕ → FieldOf → Bool
is_made scene token f = (f.name == token) && is_unwritten scene f

-- it is another field, with this JSON name
abbrev pub is_other : Scene → ℕ → Text → FieldOf → Bool
is_other scene token name f = not (f.name == token) && bytes_eq (json_name_of scene f) name

-- the field of the name token would share the JSON name with another one
abbrev pub fields_clash : Scene → ℕ → Text → List FieldOf → Bool
fields_clash scene token name fs =
    list_any (is_made scene token) fs && list_any (is_other scene token name) fs

-- the same of the fields of a block that have JSON names
abbrev pub clash_in : Scene → ℕ → Text → BlockOf → Bool
clash_in scene token name b =
    has_json_names b.header && fields_clash scene token name (fields_by b.header b.within)
