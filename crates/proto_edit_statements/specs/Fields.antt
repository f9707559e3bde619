-- The field of a full name, by its tokens.
use Rattle.std.specs.Prelude.{◌≡◌, ℕ, suc, Bool, true, false, ◌<◌, ◌≤◌, List, ◌++◌, length, codes, Option, Some, None, option_map}
use Rattle.proto_base.specs.Texts.{Text}
use Rattle.proto_text.specs.declared.lexer.Token.{Token}
use Rattle.proto_text.specs.Segments.{bytes_between, end_before}
use Rattle.proto_text.specs.Tokens.{AreTokens}
use Rattle.proto_files.specs.FilesRead.{ReadOf, read_at}
use Rattle.proto_files.specs.GivenFiles.{FileOf, file_at}
use Rattle.proto_names_rules.specs.declared.kind.Kind.{Kind}
use Rattle.proto_names_rules.specs.declared.kind.Kind.TheVariants.{Field}
use Rattle.proto_names_rules.specs.Grown.{at}
use Rattle.proto_edit_rules.specs.Rename.{Target}
use Rattle.proto_edit_statements.specs.declared.deleting.FieldName.{FieldName}
use Rattle.proto_edit_rules.specs.DeleteField.{IsField}
use Rattle.proto_edit_statements.specs.FieldPlaces.{field_in, place_of_statement}
use Rattle.proto_edit_statements.specs.declared.fields.FieldPlace.{FieldPlace}

-- whether a symbol of this kind is a written field
abbrev pub is_field_kind : Kind → Bool
is_field_kind Field = true
is_field_kind _ = false

-- it is a field
abbrev pub is_field : Option Kind → Bool
is_field None = false
is_field (Some k) = is_field_kind k

-- the name token of the field of this full name
abbrev pub IsFieldToken : List FileOf → List ReadOf → Text → FieldName → Type 0
IsFieldToken files reads name field = (t : Target)
    × IsField files reads name t
    × (t.token ≡ at field.file field.token)

-- where the statement of this name token stands
abbrev pub IsPlaceOfField : List FileOf → List ReadOf → FieldName → FieldPlace → Type 0
IsPlaceOfField files reads field place =
    option_map place_of_statement (field_in field.token (read_at reads field.file).tree)
    ≡ Some place

-- ---- the tokens of the statement

-- the last token that is replaced: the `}` of the oneof, or the `;` of the statement
abbrev pub last_by : Option ℕ → ℕ → ℕ
last_by None semicolon = semicolon
last_by (Some close) semicolon = close

-- the last token that is replaced where the field stands here: its `;`, or its oneof's `}`
abbrev pub last_replaced : FieldPlace → ℕ
last_replaced p = last_by p.oneof p.semicolon

-- these are tokens of the file, in order
abbrev pub StandsInOrder : List FileOf → ℕ → FieldPlace → Type 0
StandsInOrder files file p = (p.first ≤ p.semicolon)
    × (p.semicolon ≤ last_replaced p)
    × ((tokens : List Token) → AreTokens (file_at files file).bytes tokens
    → last_replaced p < length tokens)

-- what comes in their place, with the reservation
abbrev pub text_if : Text → List Token → ℕ → Option ℕ → Text → Text
text_if text tokens semicolon None reserved = reserved
text_if text tokens semicolon (Some close) reserved =
    bytes_between text (end_before tokens (suc semicolon)) (end_before tokens (suc close))
    ++ (codes " " ++ reserved)

-- what replaces a field that stands here, with this reservation
abbrev pub text_by : Text → List Token → FieldPlace → Text → Text
text_by text tokens p reserved = text_if text tokens p.semicolon p.oneof reserved
