-- What makes the descriptor of one scene that of another under a name map: each name is turned
-- below what it stands in, and all else stays.
use Rattle.std.specs.Prelude.{◌≡◌, ◌≢◌, ℕ, Bool, true, false, ◌&&◌, ◌++◌, List, [], ◌∷◌, flat_map, map, Option, Some, None, is_some, codes}
use Rattle.std.specs.List.{Contains}
use Rattle.proto_base.specs.Texts.{Path, Text}
use Rattle.proto_case.specs.Camel.{entry_name}
use Rattle.proto_tree.specs.declared.tree.Constant.{Constant}
use Rattle.proto_tree.specs.declared.tree.MapField.{MapField}
use Rattle.proto_tree.specs.declared.tree.Signature.{Signature}
use Rattle.proto_tree.specs.declared.tree.Reference.{Reference}
use Rattle.proto_tree.specs.declared.tree.Value.{Value}
use Rattle.proto_tree.specs.Tree.{Tree, End, Leaf, Block}
use Rattle.proto_tree.specs.declared.piece.Header.TheVariants as header
use Rattle.proto_tree.specs.declared.piece.Statement.TheVariants as statement
use Rattle.proto_names_rules.specs.Edits.{Renaming, ren, target}
use Rattle.proto_names_rules.specs.Joined.{joined, ArePlain}
use Rattle.proto_names_rules.specs.Names.{same_name}
use Rattle.proto_names_rules.specs.Skeleton.{Source, Token, EntryOf, spell, name_of}
use Rattle.proto_names_rules.specs.Tree.{key_word, value_word, package_of}
use Rattle.proto_names_outline.specs.FromTree.{items_in}
use Rattle.proto_ast.specs.Options.{text_option, truth_option, value_named}
use Rattle.proto_ast.specs.Parts.{FieldOf, OptionOf, statements, fields_in, values_in, reserved_ranges, extension_ranges, enum_ranges, options_in}
use Rattle.proto_ast.specs.Scenes.{MeantOf, Scene, text, value, number_at, signed_value, meant_by}
use Rattle.proto_ast.specs.Labels.{has_label}
use Rattle.proto_desc_numbers.specs.NumberFlaws.{range_of, enum_range_of}
use Rattle.proto_desc_build.specs.Described.{default_text, enum_options, field_number, field_options, field_type_name, field_type_of, file_described, file_options, is_map, label_of, message_options, method_options, number_range, scalar_type, type_name_of, type_of, value_described, value_number, value_range}
use Rattle.proto_edit_rules.specs.Rename.{Taken, dotted_text, mapped_default, mapped_file, word_under}

-- what a reference means goes under the name map
abbrev pub IsUnder : Renaming → Option MeantOf → Option MeantOf → Type 0
IsUnder e None None = Unit {0}
IsUnder e None (Some n) = ⊥
IsUnder e (Some m) None = ⊥
IsUnder e (Some m) (Some n) = (x : List Text)
    × ArePlain x
    × (x ≢ [])
    × (m.name ≡ joined x)
    × (n.name ≡ joined (ren e x))

module _ (e : Renaming) (taken : Taken) (a b : Scene) where
  -- the full name of a path in the old scene
  abbrev pub full : List (Source ℕ) → List Text
  full path = name_of (text a) entry_name path

  -- the word below the path is turned
  abbrev pub Turned : List (Source ℕ) → Source ℕ → Type 0
  Turned path s =
      spell (text b) entry_name s ≡ word_under e (full path) (spell (text a) entry_name s)

  -- whether the word below the path is the renamed name
  abbrev pub is_target : List (Source ℕ) → Text → Bool
  is_target path word = same_name (full path ++ word ∷ []) (target e)

  -- the written JSON name of a field
  abbrev pub written_json : Scene → FieldOf → Option Text
  written_json s f = text_option (text s) (value s) (codes "json_name") f.options

  -- besides names
  pub record FieldStays (f : FieldOf) : Type 0 where
    pub number : field_number (number_at b f.number) ≡ field_number (number_at a f.number)
    pub label : label_of b f ≡ label_of a f
    pub kind : field_type_of b f ≡ field_type_of a f
    pub optional : (b.is_proto3 && has_label b (codes "optional") f)
        ≡ (a.is_proto3 && has_label a (codes "optional") f)
    pub options : field_options b f.options ≡ field_options a f.options
    pub json : written_json b f ≡ written_json a f
    pub default : value_named (text b) (codes "default") f.options
        ≡ value_named (text a) (codes "default") f.options

  -- a field of a message with this path
  pub record FieldTurns (path : List (Source ℕ)) (f : FieldOf) : Type 0 where
    pub name : Turned path (Token f.name)
    -- a field that is not renamed is not taken for the renamed one's entry either
    pub other : is_target path (text a f.name) ≡ false → text b f.name ≡ text a f.name
    pub json : is_target path (text a f.name) ≡ true → is_some (written_json a f) ≡ taken.written
    pub default : (c : Constant)
        → value_named (text a) (codes "default") f.options ≡ Some c
        → default_text b c
        ≡ mapped_default e taken (field_type_name a (dotted_text (full path)) f) (default_text a c)
    pub entry : is_some f.map_key ≡ true
        → Turned path (EntryOf f.name) × ArePlain (full path ++ entry_name (text a f.name) ∷ [])
    pub stays : FieldStays f

  -- an extension right below this path
  pub record ExtensionTurns (path : List (Source ℕ)) (f : FieldOf) : Type 0 where
    pub name : Turned path (Token f.name)
    pub default : (c : Constant)
        → value_named (text a) (codes "default") f.options ≡ Some c
        → default_text b c ≡ mapped_default e taken (type_name_of a f.kind) (default_text a c)
    pub no_map : is_map f ≡ false
    pub stays : FieldStays f

  -- the entry of a map field of a message with this path
  pub record EntryTurns (path : List (Source ℕ)) (f : MapField) : Type 0 where
    pub name : Turned path (EntryOf f.name)
    pub key : word_under e (full (path ++ EntryOf f.name ∷ [])) key_word ≡ key_word
    pub value : word_under e (full (path ++ EntryOf f.name ∷ [])) value_word ≡ value_word
    pub no_key : is_target (path ++ EntryOf f.name ∷ []) key_word ≡ false
    pub no_value : is_target (path ++ EntryOf f.name ∷ []) value_word ≡ false
    pub key_type : scalar_type (text b f.key) ≡ scalar_type (text a f.key)
    pub value_type : type_of b f.value ≡ type_of a f.value

  -- what a message with this path holds besides blocks
  pub record MessageTurns (path : List (Source ℕ)) (within : Tree) : Type 0 where
    pub fields : (f : FieldOf) → Contains (fields_in within) f → FieldTurns path f
    pub extensions : map (λ r. number_range (range_of b r))
        (flat_map extension_ranges (statements within))
        ≡ map (λ r. number_range (range_of a r)) (flat_map extension_ranges (statements within))
    pub reserved : map (λ r. number_range (range_of b r))
        (flat_map reserved_ranges (statements within))
        ≡ map (λ r. number_range (range_of a r)) (flat_map reserved_ranges (statements within))
    pub options : message_options b false (options_in within)
        ≡ message_options a false (options_in within)

  -- a value below this path
  pub record ValueTurns (path : List (Source ℕ)) (v : Value) : Type 0 where
    pub name : Turned path (Token v.name)
    pub number : value_number (signed_value b v.number) ≡ value_number (signed_value a v.number)
    pub options : (value_described b v).options ≡ (value_described a v).options

  -- what an enum below this path holds
  pub record EnumTurns (path : List (Source ℕ)) (within : Tree) : Type 0 where
    pub values : (v : Value) → Contains (values_in within) v → ValueTurns path v
    pub reserved : map (λ r. value_range (enum_range_of b r))
        (flat_map enum_ranges (statements within))
        ≡ map (λ r. value_range (enum_range_of a r)) (flat_map enum_ranges (statements within))
    pub options : enum_options b (options_in within) ≡ enum_options a (options_in within)

  -- a method of a service with this path
  pub record MethodTurns
      (path : List (Source ℕ)) (s : Signature) (options : List OptionOf) : Type 0 where
    pub name : Turned path (Token s.name)
    pub options_stay : method_options b options ≡ method_options a options

  -- the methods of a service with this path
  abbrev pub MethodsTurn : List (Source ℕ) → Tree → Type 0
  MethodsTurn path End = Unit {0}
  MethodsTurn path (Leaf (statement.Method s i) rest) = MethodTurns path s []
      × MethodsTurn path rest
  MethodsTurn path (Leaf s rest) = MethodsTurn path rest
  MethodsTurn path (Block (header.Method s) opens within closes rest) =
      MethodTurns path s (options_in within)
      × MethodsTurn path rest
  MethodsTurn path (Block h opens within closes rest) = MethodsTurn path rest

  -- what a service has of options
  abbrev pub service_options : Scene → Tree → Option Bool
  service_options s within = truth_option (text s) (codes "deprecated") (options_in within)

  -- of what stands right in a message or a file, and in that
  abbrev pub Turns : List (Source ℕ) → Tree → Type 0
  Turns path End = Unit {0}
  Turns path (Leaf (statement.MapField f) rest) = EntryTurns path f × Turns path rest
  Turns path (Leaf s rest) = Turns path rest
  Turns path (Block (header.Message h) opens within closes rest) = Turned path (Token h.name)
      × MessageTurns (path ++ Token h.name ∷ []) within
      × Turns (path ++ Token h.name ∷ []) within
      × Turns path rest
  Turns path (Block (header.Oneof h) opens within closes rest) = Turned path (Token h.name)
      × Turns path rest
  Turns path (Block (header.Enum h) opens within closes rest) = Turned path (Token h.name)
      × EnumTurns path within
      × Turns path rest
  Turns path (Block (header.Service h) opens within closes rest) = Turned path (Token h.name)
      × MethodsTurn (path ++ Token h.name ∷ []) within
      × (service_options b within ≡ service_options a within)
      × Turns path rest
  Turns path (Block (header.Method s) opens within closes rest) = Turns path rest
  Turns path (Block (header.Extend x) opens within closes rest) =
      ((f : FieldOf) → Contains (fields_in within) f → ExtensionTurns path f)
      × Turns path rest

  -- a file: its strings and version stay, its references mean what they meant, and its names turn
  pub record FileTurns (tree : Tree) : Type 0 where
    pub version : b.is_proto3 ≡ a.is_proto3
    pub strings : (t : ℕ) → value b t ≡ value a t
    pub means : (r : Reference) → IsUnder e (meant_by a r) (meant_by b r)
    pub named : map (text b) (package_of (items_in tree))
        ≡ map (text a) (package_of (items_in tree))
    pub plain : ArePlain (map (text a) (package_of (items_in tree)))
    pub kept : ren e (map (text a) (package_of (items_in tree)))
        ≡ map (text a) (package_of (items_in tree))
    pub options : file_options b (options_in tree) ≡ file_options a (options_in tree)
    pub names : Turns (map (λ t. Token t) (package_of (items_in tree))) tree

-- So the descriptor after is the old one under the name map.
abbrev pub DescriptorsAreMapped : Type 0
DescriptorsAreMapped = (e : Renaming) (taken : Taken) (a b : Scene) (path : Path) (tree : Tree)
    → FileTurns e taken a b tree
    → file_described b path tree ≡ mapped_file e taken (file_described a path tree)
