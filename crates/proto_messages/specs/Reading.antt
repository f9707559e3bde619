-- What a JSON text says as a message of JSON-RPC 2.0, in the words of the Language Server Protocol.
use Rattle.std.specs.Prelude.{◌≡◌, ◌||◌, ◌==◌, ℕ, ◌^◌, length, List, [], ◌∷◌, Bool, false, not, codes, nat_lt, if◌then◌else◌, Option, Some, None, option_and_then, option_map, unwrap_or, is_some}
use Rattle.std.specs.List.{list_any}
use Rattle.std.specs.Option.{option_map_or, option_or}
use Rattle.std.specs.Str.{IsUtf8, bytes_eq}
use Rattle.serde_json.specs.Data.{Data, null, Items, no_items, item}
use Rattle.serde_json.specs.Find.{as_array, as_bool, as_i64, as_null, as_number, as_str, as_u64, get, pointer}
use Rattle.serde_json.specs.Read.{read}
use Rattle.proto_base.specs.Texts.{Text}
use Rattle.proto_messages.specs.Messages.{DocumentOf, DocumentPositionOf, IdOf, MessageOf, NotificationOf, RequestOf, number_id, text_id, initialize, shutdown, definition, references, document_symbol, prepare_rename, rename, code_action, unknown_method, invalid_params, initialized, did_open, did_change, did_change_nothing, did_change_in_range, did_save, did_close, exit, malformed, other, request, notification, response, no_message, message_view}
use Rattle.proto_messages.specs.declared.message.Message.{Message}
use Rattle.proto_messages.specs.declared.position.Range.{Range}
use Rattle.proto_messages.specs.declared.position.Position.{Position}

-- ---- what stands at a pointer

-- two parts made one, where both are there
abbrev pub both : {A B C : Type 0} → (A → B → C) → Option A → Option B → Option C
both make None second = None
both make (Some a) None = None
both make (Some a) (Some b) = Some (make a b)

-- three parts made one, where all are there
abbrev pub three : {A B C D : Type 0} → (A → B → C → D) → Option A → Option B → Option C → Option D
three make first second None = None
three make first second (Some c) = both (λ a b. make a b c) first second

-- the text at a pointer
abbrev pub text_at : Text → Data → Option Text
text_at path d = option_and_then as_str (pointer path d)

-- the truth value at a pointer
abbrev pub bool_at : Text → Data → Option Bool
bool_at path d = option_and_then as_bool (pointer path d)

-- the number below 2^64 at a pointer
abbrev pub natural_at : Text → Data → Option ℕ
natural_at path d = option_and_then as_u64 (option_and_then as_number (pointer path d))

-- a number below 2^32
abbrev pub small : ℕ → Option ℕ
small n = if nat_lt n (2 ^ 32) then Some n else None

-- the number below 2^32 at a pointer
abbrev pub number_at : Text → Data → Option ℕ
number_at path d =
    option_and_then small (option_and_then as_u64 (option_and_then as_number (pointer path d)))

-- the items of an array, in order
abbrev pub items_list : Items → List Data
items_list no_items = []
items_list (item d ds) = d ∷ items_list ds

-- the items of the array at a pointer
abbrev pub items_at : Text → Data → Option (List Data)
items_at path d = option_map items_list (option_and_then as_array (pointer path d))

-- a position of these numbers
abbrev pub position : ℕ → ℕ → Position
position line character = record { line = line; character = character }

-- the position that an object says
abbrev pub position_of : Data → Option Position
position_of d = both position (number_at (codes "/line") d) (number_at (codes "/character") d)

-- a range between these positions
abbrev pub range : Position → Position → Range
range start end = record { start = start; end = end }

-- the range that an object says
abbrev pub range_of : Data → Option Range
range_of d =
    both range (option_and_then position_of (pointer (codes "/start") d))
    (option_and_then position_of (pointer (codes "/end") d))

-- the URI of the document that a message speaks of
abbrev pub uri_of : Data → Option Text
uri_of d = text_at (codes "/textDocument/uri") d

-- a position in a document
abbrev pub document_position : Text → Position → DocumentPositionOf
document_position uri at = record { uri = uri; position = at }

-- the position and the document that a request speaks of
abbrev pub document_position_of : Data → Option DocumentPositionOf
document_position_of d =
    both document_position (uri_of d) (option_and_then position_of (pointer (codes "/position") d))

-- ---- requests

-- whether a text is the name of the encoding UTF-8
abbrev pub names_utf8 : Data → Bool
names_utf8 d = option_map_or (λ name. bytes_eq name (codes "utf-8")) (as_str d) false

-- whether positions may count the bytes of UTF-8, as the client says
abbrev pub offers_utf8 : Data → Bool
offers_utf8 d =
    option_map_or (list_any names_utf8)
    (items_at (codes "/capabilities/general/positionEncodings") d) false

-- the root of the workspace: rootUri, else the first of workspaceFolders
abbrev pub root_of : Data → Option Text
root_of d = option_or (text_at (codes "/rootUri") d) (text_at (codes "/workspaceFolders/0/uri") d)

-- what a request asks for, where its parameters are there
abbrev pub or_invalid_params : Option RequestOf → RequestOf
or_invalid_params asked = unwrap_or asked invalid_params

-- a question about a name: is the declaration wanted among its references
abbrev pub references_of : Data → Option RequestOf
references_of d =
    both references (document_position_of d) (bool_at (codes "/context/includeDeclaration") d)

-- a name at a position, and another name for it
abbrev pub rename_of : Data → Option RequestOf
rename_of d = both rename (document_position_of d) (text_at (codes "/newName") d)

-- a range of a document; the diagnostics of the context are passed over
abbrev pub code_action_of : Data → Option RequestOf
code_action_of d =
    both code_action (uri_of d) (option_and_then range_of (pointer (codes "/range") d))

-- what a request about names asks for, by its method
unfoldable pub name_request_of : Text → Data → RequestOf
name_request_of method d =
    if bytes_eq method (codes "textDocument/definition")
    then or_invalid_params (option_map definition (document_position_of d))
    else (if bytes_eq method (codes "textDocument/references")
    then or_invalid_params (references_of d)
    else (if bytes_eq method (codes "textDocument/prepareRename")
    then or_invalid_params (option_map prepare_rename (document_position_of d))
    else (if bytes_eq method (codes "textDocument/rename")
    then or_invalid_params (rename_of d)
    else unknown_method)))

-- what a request asks for, by its method
unfoldable pub request_of : Text → Data → RequestOf
request_of method d =
    if bytes_eq method (codes "initialize") then initialize (root_of d) (offers_utf8 d)
    else (if bytes_eq method (codes "shutdown") then shutdown
    else (if bytes_eq method (codes "textDocument/documentSymbol")
    then or_invalid_params (option_map document_symbol (uri_of d))
    else (if bytes_eq method (codes "textDocument/codeAction")
    then or_invalid_params (code_action_of d)
    else name_request_of method d)))

-- ---- notifications

-- what a notification says, where its parameters are there
abbrev pub or_malformed : Option NotificationOf → NotificationOf
or_malformed said = unwrap_or said malformed

-- a document of this version and text
abbrev pub document : Text → ℕ → Text → DocumentOf
document uri version text = record { uri = uri; version = version; text = text }

-- the version of the document that a notification speaks of
abbrev pub version_of : Data → Option ℕ
version_of d = natural_at (codes "/textDocument/version") d

-- the document whose version a notification says, with this text
abbrev pub document_of : Data → Option Text → Option DocumentOf
document_of d text = three document (uri_of d) (version_of d) text

-- whether a change says which range it replaces; null says none
abbrev pub has_range : Data → Bool
has_range d = option_map_or (λ range. not (is_some (as_null range))) (get (codes "range") d) false

-- the last of a list
abbrev pub last_of : {A : Type 0} → List A → Option A
last_of [] = None
last_of (x ∷ []) = Some x
last_of (x ∷ y ∷ ys) = last_of (y ∷ ys)

-- the text that a list of changes leaves: that of the last one
abbrev pub last_text : List Data → Option Text
last_text changes = option_and_then (text_at (codes "/text")) (last_of changes)

-- a document has another version, and its text stays
abbrev pub nothing_of : Data → NotificationOf
nothing_of d = or_malformed (both did_change_nothing (uri_of d) (version_of d))

-- what a list of changes says: whole texts alone are taken, and no change leaves the text
abbrev pub changes_of : Data → List Data → NotificationOf
changes_of d changes =
    if length changes == 0 then nothing_of d
    else (if list_any has_range changes then did_change_in_range
    else or_malformed (option_map did_change (document_of d (last_text changes))))

-- what a change of a document says
abbrev pub did_change_of : Data → NotificationOf
did_change_of d =
    option_map_or (changes_of d) (items_at (codes "/contentChanges") d) malformed

-- a document is opened
abbrev pub did_open_of : Data → NotificationOf
did_open_of d =
    or_malformed (option_map did_open (document_of d (text_at (codes "/textDocument/text") d)))

-- what a notification about a document says, by its method
unfoldable pub document_notification_of : Text → Data → NotificationOf
document_notification_of method d =
    if bytes_eq method (codes "textDocument/didOpen") then did_open_of d
    else (if bytes_eq method (codes "textDocument/didChange") then did_change_of d
    else (if bytes_eq method (codes "textDocument/didSave")
    then or_malformed (option_map did_save (uri_of d))
    else (if bytes_eq method (codes "textDocument/didClose")
    then or_malformed (option_map did_close (uri_of d))
    else other)))

-- what a notification says, by its method
unfoldable pub notification_of : Text → Data → NotificationOf
notification_of method d =
    if bytes_eq method (codes "initialized") then initialized
    else (if bytes_eq method (codes "exit") then exit
    else document_notification_of method d)

-- ---- messages

-- an integer of 64 bits as an id
abbrev pub number_id_of : Data → Option IdOf
number_id_of d = option_map number_id (option_and_then as_i64 (as_number d))

-- a text as an id
abbrev pub text_id_of : Data → Option IdOf
text_id_of d = option_map text_id (as_str d)

-- an id is a text or an integer
abbrev pub id_of : Data → Option IdOf
id_of d = option_or (text_id_of d) (number_id_of d)

-- the parameters, null where there are none
abbrev pub params_of : Data → Data
params_of d = unwrap_or (get (codes "params") d) null

-- a request under this id
abbrev pub request_under : Text → Data → Data → MessageOf
request_under method d id =
    option_map_or (λ i. request i (request_of method (params_of d))) (id_of id) no_message

-- a message with a method: a request where it has an id, else a notification
abbrev pub with_method : Data → Text → MessageOf
with_method d method =
    option_map_or (request_under method d) (get (codes "id") d)
    (notification (notification_of method (params_of d)))

-- a message with no method: an answer to a request of ours, where it has a result or an error
abbrev pub without_method : Data → MessageOf
without_method d =
    if is_some (get (codes "result") d) || is_some (get (codes "error") d) then response
    else no_message

-- what JSON data say as a message
abbrev pub message_of : Data → MessageOf
message_of d =
    option_map_or (with_method d) (option_and_then as_str (get (codes "method") d))
    (without_method d)

-- the text is JSON in UTF-8 that says so
abbrev pub IsSaid : Text → MessageOf → Type 0
IsSaid bytes m = IsUtf8 bytes × (d : Data) × (read bytes ≡ Some d) × (message_of d ≡ m)

-- what was read of a text: no message only where it is no UTF-8 or no JSON
abbrev pub IsMessageOf : Text → Option Message → Type 0
IsMessageOf bytes None = IsUtf8 bytes → read bytes ≡ None
IsMessageOf bytes (Some m) = IsSaid bytes (message_view m)
