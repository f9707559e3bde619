-- The JSON data of the messages that a server writes.
use Rattle.std.specs.Prelude.{ℕ, ℤ, pos, neg_ℤ, [], ◌∷◌, map, codes, Option, Some, None}
use Rattle.std.specs.String.{string_bytes}
use Rattle.serde_json.specs.Data.{Data, null, string}
use Rattle.proto_base.specs.Texts.{Text}
use Rattle.proto_messages.specs.Messages.{IdOf, number_id, text_id}
use Rattle.proto_messages.specs.Results.{array_of, diagnostic_data, integer, natural, object_of}
use Rattle.proto_messages.specs.declared.results.DocumentDiagnostics.{DocumentDiagnostics}
use Rattle.proto_messages.specs.declared.results.ErrorCode.{ErrorCode}
use Rattle.proto_messages.specs.declared.results.ErrorCode.TheVariants.{ParseError, InvalidRequest, MethodNotFound, InvalidParams, ServerNotInitialized, RequestFailed}
use Rattle.proto_messages.specs.declared.results.MessageType.{MessageType}
use Rattle.proto_messages.specs.declared.results.MessageType.TheVariants as shown

-- the id of a request
abbrev pub id_data : IdOf → Data
id_data (number_id z) = integer z
id_data (text_id text) = string text

-- the id of the request that is answered, null where it has none
abbrev pub answered_id : Option IdOf → Data
answered_id None = null
answered_id (Some id) = id_data id

-- the version of JSON-RPC
abbrev pub version : Data
version = string (codes "2.0")

-- a result under the id of its request
abbrev pub result_data : IdOf → Data → Data
result_data id result =
    object_of ((codes "id", id_data id) ∷ (codes "jsonrpc", version) ∷ (codes "result", result) ∷ [])

-- the protocol's number of an error
abbrev pub error_number : ErrorCode → ℤ
error_number ParseError = neg_ℤ (pos 32700)
error_number InvalidRequest = neg_ℤ (pos 32600)
error_number MethodNotFound = neg_ℤ (pos 32601)
error_number InvalidParams = neg_ℤ (pos 32602)
error_number ServerNotInitialized = neg_ℤ (pos 32002)
error_number RequestFailed = neg_ℤ (pos 32803)

-- an error and what a user reads of it
abbrev pub error_data : ErrorCode → Text → Data
error_data code text =
    object_of ((codes "code", integer (error_number code)) ∷ (codes "message", string text) ∷ [])

-- an error in the place of a result
abbrev pub failure_data : Option IdOf → ErrorCode → Text → Data
failure_data id code text =
    object_of ((codes "error", error_data code text)
    ∷ (codes "id", answered_id id) ∷ (codes "jsonrpc", version) ∷ [])

-- a notification with its parameters
abbrev pub notification_data : Text → Data → Data
notification_data method params =
    object_of ((codes "jsonrpc", version)
    ∷ (codes "method", string method) ∷ (codes "params", params) ∷ [])

-- the diagnostics of a document, with no version where it is not open
abbrev pub diagnostics_data : Data → Data → Option ℕ → Data
diagnostics_data list uri None = object_of ((codes "diagnostics", list) ∷ (codes "uri", uri) ∷ [])
diagnostics_data list uri (Some n) =
    object_of ((codes "diagnostics", list) ∷ (codes "uri", uri) ∷ (codes "version", natural n) ∷ [])

-- the notification of a document's diagnostics
abbrev pub published_data : DocumentDiagnostics → Data
published_data d =
    notification_data (codes "textDocument/publishDiagnostics")
    (diagnostics_data (array_of (map diagnostic_data d.diagnostics.items))
    (string (string_bytes d.uri)) d.version)

-- the protocol's number of a type of message
abbrev pub type_number : MessageType → ℕ
type_number shown.Error = 1
type_number shown.Warning = 2
type_number shown.Info = 3
type_number shown.Log = 4

-- a message for a user
abbrev pub user_message_data : MessageType → Text → Data
user_message_data t text =
    object_of ((codes "message", string text) ∷ (codes "type", natural (type_number t)) ∷ [])

-- the notification that shows a message
abbrev pub shown_data : MessageType → Text → Data
shown_data t text = notification_data (codes "window/showMessage") (user_message_data t text)

-- the notification that logs a message
abbrev pub logged_data : MessageType → Text → Data
logged_data t text = notification_data (codes "window/logMessage") (user_message_data t text)
