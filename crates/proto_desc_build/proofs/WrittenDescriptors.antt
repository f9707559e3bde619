-- The descriptor of a file does not ask for its language (for the crates above).
use Rattle.std.proofs.Common.{◌≡◌, ℕ, List, [], ◌∷◌, ◌++◌, map, refl, ap}
use Rattle.proto_base.specs.Texts.{Text}
use Rattle.proto_base.specs.declared.profile.Profile.{Profile}
use Rattle.proto_tree.specs.declared.piece.Header.TheVariants as header
use Rattle.proto_tree.specs.declared.piece.Statement.TheVariants as statement
use Rattle.proto_tree.specs.Tree.{Tree, End, Leaf, Block}
use Rattle.proto_names_outline.specs.FromTree.{items_in}
use Rattle.proto_names_rules.specs.Tree.{package_of}
use Rattle.proto_ast.proofs.Common.{Scene, fields_in, options_in, text}
use Rattle.proto_descriptors.specs.Descriptors.{EnumDesc, FieldDesc, MethodDesc, NoMessages, Message}
use Rattle.proto_desc_build.specs.Described.{below, entry_described, enum_described, enums_described, extension_described, extensions_described, file_described, message_described, messages_described, method_described, methods_described, oneof_names, package_named, package_prefix, service_described, services_described}
use Rattle.proto_desc_build.specs.Written.{DescriptorsAskNoLanguage}

module _ (p : Profile) (scene : Scene) where
  abbrev other : Scene
  other = record scene { profile = p }

  extensions_same : (tree : Tree) → extensions_described other tree ≡ extensions_described scene tree
  extensions_same End = refl
  extensions_same (Leaf s rest) = extensions_same rest
  extensions_same (Block (header.Extend e) opens within closes rest) = ap (λ (ds : List FieldDesc). map (extension_described scene e.extendee) (fields_in within) ++ ds) (extensions_same rest)
  extensions_same (Block h opens within closes rest) = extensions_same rest

  enums_same : (tree : Tree) → enums_described other tree ≡ enums_described scene tree
  enums_same End = refl
  enums_same (Leaf s rest) = enums_same rest
  enums_same (Block (header.Enum h) opens within closes rest) = ap (λ (ds : List EnumDesc). enum_described scene h.name within ∷ ds) (enums_same rest)
  enums_same (Block h opens within closes rest) = enums_same rest

  oneofs_same : (tree : Tree) → oneof_names other tree ≡ oneof_names scene tree
  oneofs_same End = refl
  oneofs_same (Leaf s rest) = oneofs_same rest
  oneofs_same (Block (header.Oneof h) opens within closes rest) = ap (λ (ns : List Text). text scene h.name ∷ ns) (oneofs_same rest)
  oneofs_same (Block h opens within closes rest) = oneofs_same rest

  message_same : (full : Text) (name : ℕ) (within : Tree) → message_described other full name within ≡ message_described scene full name within
  message_same full name within = λ i. record (message_described scene full name within) {
    extension = extensions_same within i;
    enum_type = enums_same within i;
    oneof_decl = oneofs_same within i;
  }

  messages_same : (full : Text) (tree : Tree) → messages_described other full tree ≡ messages_described scene full tree
  messages_same full End = refl
  messages_same full (Leaf (statement.MapField f) rest) = λ i. Message (entry_described scene f) NoMessages (messages_same full rest i)
  messages_same full (Leaf s rest) = messages_same full rest
  messages_same full (Block (header.Message h) opens within closes rest) =
      let inner : Text = below full (text scene h.name) in
      λ i. Message (message_same inner h.name within i) (messages_same inner within i) (messages_same full rest i)
  messages_same full (Block h opens within closes rest) = messages_same full rest

  methods_same : (tree : Tree) → methods_described other tree ≡ methods_described scene tree
  methods_same End = refl
  methods_same (Leaf (statement.Method s k) rest) = ap (λ (ds : List MethodDesc). method_described scene s [] ∷ ds) (methods_same rest)
  methods_same (Leaf s rest) = methods_same rest
  methods_same (Block (header.Method s) opens within closes rest) = ap (λ (ds : List MethodDesc). method_described scene s (options_in within) ∷ ds) (methods_same rest)
  methods_same (Block h opens within closes rest) = methods_same rest

  services_same : (tree : Tree) → services_described other tree ≡ services_described scene tree
  services_same End = refl
  services_same (Leaf s rest) = services_same rest
  services_same (Block (header.Service h) opens within closes rest) =
      λ i. record (service_described scene h.name within) { method = methods_same within i } ∷ services_same rest i
  services_same (Block h opens within closes rest) = services_same rest

  pub file_same : (path : Text) (tree : Tree) → file_described other path tree ≡ file_described scene path tree
  file_same path tree = λ i. record (file_described scene path tree) {
    message_type = messages_same (package_prefix (package_named scene (package_of (items_in tree)))) tree i;
    enum_type = enums_same tree i;
    service = services_same tree i;
    extension = extensions_same tree i;
  }

pub descriptors_ask_no_language : DescriptorsAskNoLanguage
descriptors_ask_no_language p scene path tree = file_same p scene path tree
