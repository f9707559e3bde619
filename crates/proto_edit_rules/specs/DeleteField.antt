-- A deleted field: the cases that refuse it, what it changes, and what the descriptors become.
use Rattle.std.specs.Fmt.{decimal}
use Rattle.std.specs.List.{Contains, list_any}
use Rattle.std.specs.Prelude.{◌≡◌, ℕ, Option, Some, None, ◌+◌, List, ◌++◌, codes, suc, ◌<◌, length, [], ◌∷◌, map, ◌≢◌, ◌==◌, Bool, true, flat_map, if◌then◌else◌}
use Rattle.proto_ast.specs.Numbers.{number_value}
use Rattle.proto_ast.specs.Parts.{BlockOf, blocks_in, fields_in, FieldOf, statement_fields, statements, reserved_names, reserved_ranges}
use Rattle.proto_base.specs.Texts.{Text}
use Rattle.proto_case.specs.Camel.{entry_name}
use Rattle.proto_descriptors.specs.Descriptors.{FieldDesc, MessageDesc, Messages, NoMessages, Message, FileDesc}
use Rattle.proto_descriptors.specs.declared.message.NumberRange.{NumberRange}
use Rattle.proto_edit_entries.specs.Entries.{ChangeOf}
use Rattle.proto_files.specs.FilesRead.{ReadOf, read_at}
use Rattle.proto_files.specs.GivenFiles.{FileOf, file_at}
use Rattle.proto_names_imports.specs.Links.{names_of_files, text_of}
use Rattle.proto_names_rules.specs.Grown.{At, at}
use Rattle.proto_names_rules.specs.Joined.{joined}
use Rattle.proto_names_rules.specs.Names.{Symbol}
use Rattle.proto_names_rules.specs.Skeleton.{name_of}
use Rattle.proto_names_rules.specs.declared.kind.Kind.TheVariants.{Field}
use Rattle.proto_text.specs.Edits.{Edit}
use Rattle.proto_text.specs.Segments.{quoted, bytes_between, end_before}
use Rattle.proto_text.specs.declared.lexer.Token.{Token}
use Rattle.proto_tree.specs.Tree.{Tree, Leaf, Block, End}
use Rattle.proto_tree.specs.declared.piece.Header.{Header}
use Rattle.proto_tree.specs.declared.piece.Header.TheVariants as header
use Rattle.proto_tree.specs.declared.piece.Heading.{Heading}
use Rattle.proto_tree.specs.declared.piece.Statement.{Statement}
use Rattle.proto_tree.specs.declared.piece.Statement.TheVariants as statement
use Rattle.proto_edit_rules.specs.Options.{HasWritten, IsOptionWord, is_fixed}
use Rattle.proto_edit_rules.specs.Rename.{IsNamed, Target, IsUnknown}
use Rattle.proto_edit_rules.specs.Statements.{StandsIn, begins, ends, splice, change_by, IsTooLong, places_before, at_place, with_more, without_place}

-- ---- the field

-- the statement declares a field, plain or of a map, with these tokens of its name and its number
abbrev pub IsFieldOf : Statement → ℕ → ℕ → Type 0
IsFieldOf (statement.Field f) name number = (f.name ≡ name) × (f.number ≡ number)
IsFieldOf (statement.MapField f) name number = (f.name ≡ name) × (f.number ≡ number)
IsFieldOf _ name number = ⊥

-- A statement right in a message, or in a oneof of one, whose `}` is the
-- given token; at any depth of messages.
pub data StandsAt (s : Statement) : Option ℕ → Tree → Type 0 where
  InMessage : (h : Heading) (i : ℕ) (within : Tree) (j : ℕ) (rest : Tree)
      → StandsIn s within → StandsAt s None (Block (header.Message h) i within j rest)
  InOneof : (h : Heading) (i : ℕ) (within : Tree) (j : ℕ) (rest : Tree)
      → StandsIn s within → StandsAt s (Some j) (Block (header.Oneof h) i within j rest)
  Deeper : (o : Option ℕ) (h : Heading) (i : ℕ) (within : Tree) (j : ℕ) (rest : Tree)
      → StandsAt s o within → StandsAt s o (Block (header.Message h) i within j rest)
  PastLeaf : (o : Option ℕ) (x : Statement) (rest : Tree)
      → StandsAt s o rest → StandsAt s o (Leaf x rest)
  PastBlock : (o : Option ℕ) (h : Header) (i : ℕ) (within : Tree) (j : ℕ) (rest : Tree)
      → StandsAt s o rest → StandsAt s o (Block h i within j rest)

-- ---- the splice

-- `reserved N; reserved "name";`
abbrev pub reservation_text : ℕ → List ℕ → List ℕ
reservation_text number name =
    codes "reserved " ++ (decimal number ++ (codes "; reserved " ++ (quoted name ++ codes ";")))

-- Right in a message the reservation replaces the statement. In a oneof the rest
-- of the oneof, through its `}`, moves to where the statement began, and the
-- reservation follows it.
abbrev pub deletion : Text → List Token → Statement → Option ℕ → ℕ → Text → Edit
deletion text tokens s None number name =
    splice text (begins tokens s) (ends tokens s) (reservation_text number name)
deletion text tokens s (Some close) number name =
    splice text (begins tokens s) (end_before tokens (suc close))
    (bytes_between text (ends tokens s) (end_before tokens (suc close))
    ++ (codes " " ++ reservation_text number name))

-- ---- the changes

-- a written field: its file, its statement, the `}` of its oneof if it has one, and the
-- tokens of its name and its number
pub record FieldAt : Type 0 where
  pub file : ℕ
  pub statement : Statement
  pub oneof : Option ℕ
  pub name : ℕ
  pub number : ℕ

-- the field stands there
pub record IsFieldAt (files : List FileOf) (reads : List ReadOf) (f : FieldAt) : Type 0 where
  pub within : f.file < length files
  pub stands : StandsAt f.statement f.oneof (read_at reads f.file).tree
  pub declares : IsFieldOf f.statement f.name f.number

-- the number of a field, by its value
abbrev pub field_number_value : List FileOf → List ReadOf → FieldAt → ℕ
field_number_value files reads f = number_value (text_of files reads (at f.file f.number))

-- the name of a field, as it is written
abbrev pub name_of_field : List FileOf → List ReadOf → FieldAt → Text
name_of_field files reads f = text_of files reads (at f.file f.name)

-- the splice of the field's file that deletes the field
abbrev pub splice_of_deletion : List FileOf → List ReadOf → FieldAt → Edit
splice_of_deletion files reads f =
    deletion (file_at files f.file).bytes (read_at reads f.file).tokens f.statement f.oneof
    (field_number_value files reads f) (name_of_field files reads f)

-- what the deletion of a field changes
abbrev pub changes_of_deletion : List FileOf → List ReadOf → FieldAt → List ChangeOf
changes_of_deletion files reads f =
    change_by (file_at files f.file) (splice_of_deletion files reads f ∷ [])

-- ---- the cases that refuse it

-- a written field of this full name
pub record IsField
    (files : List FileOf) (reads : List ReadOf) (name : Text) (t : Target) : Type 0 where
  pub named : IsNamed files reads name t
  pub kind : t.aim.kind ≡ Field

-- a oneof has the field of this name token, and no other
pub record IsAlone (reads : List ReadOf) (a : At) : Type 0 where
  pub h : Heading
  pub b : BlockOf
  pub block : Contains (blocks_in (read_at reads a.file).tree) b
  pub oneof : b.header ≡ header.Oneof h
  pub only : map (λ f. f.name) (fields_in b.within) ≡ a.token ∷ []

-- the token is a word of an option that may stand for the field
abbrev pub IsFieldWord : List FileOf → List ReadOf → Target → At → Type 0
IsFieldWord files reads t a =
    IsOptionWord files reads t.token.file (text_of files reads t.token ∷ []) a

-- Case n refuses the deletion; of several the least is answered.
pub data DeletionCase (files : List FileOf) (reads : List ReadOf) (name : Text) : ℕ → Type 0 where
  unknown_target : IsUnknown files reads name → DeletionCase files reads name 1
  kind_not_allowed : (s : Symbol) → Contains (names_of_files files reads).symbols s
      → joined s.name ≡ name → s.kind ≢ Field → DeletionCase files reads name 2
  last_of_oneof : (t : Target) → IsField files reads name t
      → IsAlone reads t.token → DeletionCase files reads name 10
  option_value : (t : Target) (a : At) → IsField files reads name t
      → IsFieldWord files reads t a → DeletionCase files reads name 19
  -- the field is one of an options message, or of what is in one
  fixed_name : (t : Target) → IsField files reads name t → HasWritten files
      → is_fixed (name_of (text_of files reads) entry_name t.aim.path) ≡ true
      → DeletionCase files reads name 20

-- the statement of the field of this full name
pub record IsFieldNamed
    (files : List FileOf) (reads : List ReadOf) (name : Text) (f : FieldAt) : Type 0 where
  pub t : Target
  pub field : IsField files reads name t
  pub token : t.token ≡ at f.file f.name
  pub stands : IsFieldAt files reads f

-- Case n refuses the deletion; of several the least is answered.
pub data RefusesDeletion
    (files : List FileOf) (reads : List ReadOf) (name : Text) : ℕ → Type 0 where
  by_name : (n : ℕ) → DeletionCase files reads name n → RefusesDeletion files reads name n
  too_large : (f : FieldAt) → IsFieldNamed files reads name f
      → IsTooLong (file_at files f.file) (splice_of_deletion files reads f)
      → RefusesDeletion files reads name 16

-- ---- the descriptors

-- whether the field's name is this token
abbrev pub is_named_at : ℕ → FieldOf → Bool
is_named_at token f = f.name == token

-- whether one of the statements is the field's
abbrev pub declare : ℕ → List Statement → Bool
declare token ss = list_any (is_named_at token) (flat_map (statement_fields None) ss)

-- the statements right in a message before the field, or before its oneof
abbrev pub statements_before : ℕ → Tree → List Statement
statements_before token End = []
statements_before token (Leaf s rest) =
    if declare token (s ∷ []) then [] else s ∷ statements_before token rest
statements_before token (Block (header.Oneof h) opens within closes rest) =
    if declare token (statements within) then [] else statements_before token rest
statements_before token (Block h opens within closes rest) = statements_before token rest

-- the number of a field as a range, up to the one after it
abbrev pub range_of_field : FieldDesc → NumberRange
range_of_field f = record { start = f.number; end = f.number + 1 }

-- how many fields of the message stand before it
abbrev pub field_place : ℕ → Tree → ℕ
field_place token within = places_before (is_named_at token) (fields_in within)

-- The field is taken out. Its range and its name come behind those that stand
-- before the field, or before its oneof.
abbrev pub without_field : ℕ → Tree → MessageDesc → MessageDesc
without_field token within m = record m {
  field = without_place (field_place token within) m.field;
  reserved_range = with_more (length (flat_map reserved_ranges (statements_before token within)))
      (map range_of_field (at_place (field_place token within) m.field)) m.reserved_range;
  reserved_name = with_more (length (flat_map reserved_names (statements_before token within)))
      (map (λ f. f.name) (at_place (field_place token within) m.field)) m.reserved_name;
}

-- the messages right in the message, without the entry of the field, if it is a map's
abbrev pub without_entry : ℕ → Tree → Messages → Messages
without_entry token End ms = ms
without_entry token (Leaf (statement.MapField f) rest) NoMessages = NoMessages
without_entry token (Leaf (statement.MapField f) rest) (Message m nested more) =
    if f.name == token then more else Message m nested (without_entry token rest more)
without_entry token (Leaf s rest) ms = without_entry token rest ms
without_entry token (Block (header.Message h) opens within closes rest) NoMessages = NoMessages
without_entry token (Block (header.Message h) opens within closes rest) (Message m nested more) =
    Message m nested (without_entry token rest more)
without_entry token (Block h opens within closes rest) ms = without_entry token rest ms

-- whether the field is one of the message's
abbrev pub is_its : ℕ → Tree → Bool
is_its token within = list_any (is_named_at token) (fields_in within)

-- the messages of a file or of a message, of which one at any depth has the field
abbrev pub messages_with_deletion : ℕ → Tree → Messages → Messages
messages_with_deletion token End ms = ms
messages_with_deletion token (Leaf (statement.MapField f) rest) NoMessages = NoMessages
messages_with_deletion token (Leaf (statement.MapField f) rest) (Message m nested more) =
    Message m nested (messages_with_deletion token rest more)
messages_with_deletion token (Leaf s rest) ms = messages_with_deletion token rest ms
messages_with_deletion token (Block (header.Message h) opens within closes rest) NoMessages =
    NoMessages
messages_with_deletion token (Block (header.Message h) opens within closes rest)
    (Message m nested more) =
    Message (if is_its token within then without_field token within m else m)
    (if is_its token within
    then without_entry token within nested
    else messages_with_deletion token within nested)
    (messages_with_deletion token rest more)
messages_with_deletion token (Block h opens within closes rest) ms =
    messages_with_deletion token rest ms

-- a file, all else of which stays
abbrev pub mapped_deletion : ℕ → Tree → FileDesc → FileDesc
mapped_deletion token tree d =
    record d { message_type = messages_with_deletion token tree d.message_type }
