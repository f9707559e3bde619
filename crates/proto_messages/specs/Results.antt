-- The JSON data of results: for each kind of object its members, in the order of their keys.
use Rattle.std.specs.Prelude.{ℕ, ℤ, List, [], ◌∷◌, true, false, map, codes, Option, Some, None}
use Rattle.std.specs.String.{string_bytes}
use Rattle.serde_json.specs.Data.{Data, null, boolean, number, unsigned, string, array, object, Members, no_members, member}
use Rattle.serde_json.specs.Find.{of_integer}
use Rattle.serde_json.specs.View.{items_of}
use Rattle.proto_base.specs.Texts.{Text}
use Rattle.proto_messages.specs.declared.position.Position.{Position}
use Rattle.proto_messages.specs.declared.position.Range.{Range}
use Rattle.proto_messages.specs.declared.results.ActionKind.{ActionKind}
use Rattle.proto_messages.specs.declared.results.ActionKind.TheVariants.{QuickFix, Refactor}
use Rattle.proto_messages.specs.declared.results.Answer.{Answer}
use Rattle.proto_messages.specs.declared.results.Answer.TheVariants as answer
use Rattle.proto_messages.specs.declared.results.CodeAction.{CodeAction}
use Rattle.proto_messages.specs.declared.results.Diagnostic.{Diagnostic}
use Rattle.proto_messages.specs.declared.results.DocumentEdit.{DocumentEdit}
use Rattle.proto_messages.specs.declared.results.Location.{Location}
use Rattle.proto_messages.specs.declared.results.PositionEncoding.{PositionEncoding}
use Rattle.proto_messages.specs.declared.results.PositionEncoding.TheVariants.{Utf8, Utf16}
use Rattle.proto_messages.specs.declared.results.Severity.{Severity}
use Rattle.proto_messages.specs.declared.results.Severity.TheVariants as severity
use Rattle.proto_messages.specs.declared.results.Symbol.{Symbol, fold-Symbol}
use Rattle.proto_messages.specs.declared.results.Symbol.TheOpen.{Symbol-F}
use Rattle.proto_messages.specs.declared.results.SymbolKind.{SymbolKind}
use Rattle.proto_messages.specs.declared.results.SymbolKind.TheVariants as kind
use Rattle.proto_messages.specs.declared.results.TextEdit.{TextEdit}

-- ---- data

-- the members of a list, in its order
abbrev pub members_from : List (Text × Data) → Members
members_from [] = no_members
members_from (m ∷ ms) = member m.0 m.1 (members_from ms)

-- an object with these members
abbrev pub object_of : List (Text × Data) → Data
object_of ms = object (members_from ms)

-- an array of these items
abbrev pub array_of : List Data → Data
array_of ds = array (items_of ds)

-- a natural number
abbrev pub natural : ℕ → Data
natural n = number (unsigned n)

-- an integer
abbrev pub integer : ℤ → Data
integer z = number (of_integer z)

-- ---- parts of results

-- a position
abbrev pub position_data : Position → Data
position_data p =
    object_of ((codes "character", natural p.character) ∷ (codes "line", natural p.line) ∷ [])

-- a range
abbrev pub range_data : Range → Data
range_data r =
    object_of ((codes "end", position_data r.end) ∷ (codes "start", position_data r.start) ∷ [])

-- a part of a document
abbrev pub location_data : Location → Data
location_data l =
    object_of ((codes "range", range_data l.range) ∷ (codes "uri", string (string_bytes l.uri)) ∷ [])

-- the protocol's number of a kind of symbol
abbrev pub kind_number : SymbolKind → ℕ
kind_number kind.Package = 4
kind_number kind.Method = 6
kind_number kind.Field = 8
kind_number kind.Enum = 10
kind_number kind.Interface = 11
kind_number kind.EnumMember = 22
kind_number kind.Struct = 23

-- a symbol round the data of those in it
abbrev pub symbol_around_data : {A : Type 0} → Symbol-F A → Data → Data
symbol_around_data s children =
    object_of ((codes "children", children)
    ∷ (codes "kind", natural (kind_number s.kind)) ∷ (codes "name", string (string_bytes s.name))
    ∷ (codes "range", range_data s.range) ∷ (codes "selectionRange", range_data s.selection) ∷ [])

-- a symbol, where each of those in it is seen already
abbrev pub symbol_step : Symbol-F Data → Data
symbol_step s = symbol_around_data s (array_of s.children.items)

-- a symbol with all that are in it, however deep
abbrev pub symbol_data : Symbol → Data
symbol_data = fold-Symbol Data symbol_step

-- a text in the place of a range
abbrev pub text_edit_data : TextEdit → Data
text_edit_data t =
    object_of ((codes "newText", string (string_bytes t.text))
    ∷ (codes "range", range_data t.range) ∷ [])

-- the version of a document, null where it is not open
abbrev pub version_data : Option ℕ → Data
version_data None = null
version_data (Some n) = natural n

-- a document, as an edit names it
abbrev pub edited_document_data : DocumentEdit → Data
edited_document_data d =
    object_of ((codes "uri", string (string_bytes d.uri))
    ∷ (codes "version", version_data d.version) ∷ [])

-- the edits of one document
abbrev pub document_edit_data : DocumentEdit → Data
document_edit_data d =
    object_of ((codes "edits", array_of (map text_edit_data d.edits.items))
    ∷ (codes "textDocument", edited_document_data d) ∷ [])

-- the edits of several documents
abbrev pub edits_data : List DocumentEdit → Data
edits_data ds = object_of ((codes "documentChanges", array_of (map document_edit_data ds)) ∷ [])

-- the protocol's word for a kind of action
abbrev pub action_word : ActionKind → Text
action_word QuickFix = codes "quickfix"
action_word Refactor = codes "refactor"

-- an action with its edits
abbrev pub action_data : CodeAction → Data
action_data a =
    object_of ((codes "edit", edits_data a.edits.items)
    ∷ (codes "kind", string (action_word a.kind))
    ∷ (codes "title", string (string_bytes a.title)) ∷ [])

-- a name that may be changed, and where it stands
abbrev pub renameable_data : Range → Text → Data
renameable_data range name =
    object_of ((codes "placeholder", string name) ∷ (codes "range", range_data range) ∷ [])

-- ---- what the server can do

-- the protocol's word for an encoding of positions
abbrev pub encoding_word : PositionEncoding → Text
encoding_word Utf8 = codes "utf-8"
encoding_word Utf16 = codes "utf-16"

-- code actions of both kinds
abbrev pub code_actions_data : Data
code_actions_data =
    object_of ((
      codes "codeActionKinds",
      array_of (string (codes "quickfix")
          ∷ string (codes "refactor") ∷ []),
    ) ∷ [])

-- renames, with a question before
abbrev pub renames_data : Data
renames_data = object_of ((codes "prepareProvider", boolean true) ∷ [])

-- what the server wants to be said of documents: whole texts at each change, no text at a save
abbrev pub documents_data : Data
documents_data =
    object_of ((codes "change", natural 1) ∷ (codes "openClose", boolean true)
    ∷ (codes "save", object_of ((codes "includeText", boolean false) ∷ [])) ∷ [])

-- what the server can do
abbrev pub provided_data : PositionEncoding → Data
provided_data encoding =
    object_of ((codes "codeActionProvider", code_actions_data)
    ∷ (codes "definitionProvider", boolean true)
    ∷ (codes "documentSymbolProvider", boolean true)
    ∷ (codes "positionEncoding", string (encoding_word encoding))
    ∷ (codes "referencesProvider", boolean true)
    ∷ (codes "renameProvider", renames_data)
    ∷ (codes "textDocumentSync", documents_data) ∷ [])

-- what the server can do, and its name
abbrev pub capabilities_data : PositionEncoding → Data
capabilities_data encoding =
    object_of ((codes "capabilities", provided_data encoding)
    ∷ (codes "serverInfo", object_of ((codes "name", string (codes "protoref_serve")) ∷ [])) ∷ [])

-- ---- results

-- the result of a request
abbrev pub answer_data : Answer → Data
answer_data (answer.Capabilities encoding) = capabilities_data encoding
answer_data answer.Null = null
answer_data (answer.Locations locations) = array_of (map location_data locations.items)
answer_data (answer.Symbols symbols) = array_of (map symbol_data symbols.items)
answer_data (answer.Renameable range name) = renameable_data range (string_bytes name)
answer_data (answer.Edits edits) = edits_data edits.items
answer_data (answer.Actions actions) = array_of (map action_data actions.items)

-- ---- diagnostics

-- the protocol's number of a severity
abbrev pub severity_number : Severity → ℕ
severity_number severity.Error = 1
severity_number severity.Warning = 2

-- what is wrong with a part of a document
abbrev pub diagnostic_data : Diagnostic → Data
diagnostic_data d =
    object_of ((codes "code", string (string_bytes d.code))
    ∷ (codes "message", string (string_bytes d.message))
    ∷ (codes "range", range_data d.range)
    ∷ (codes "severity", natural (severity_number d.severity))
    ∷ (codes "source", string (codes "protoref")) ∷ [])
