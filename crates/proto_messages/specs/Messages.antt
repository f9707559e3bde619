-- What a client's message says, apart from where its texts lie in memory.
use Rattle.std.specs.Prelude.{ℕ, ℤ, Bool, Option, option_map}
use Rattle.std.specs.String.{string_bytes}
use Rattle.proto_base.specs.Texts.{Text}
use Rattle.proto_messages.specs.declared.message.Document.{Document}
use Rattle.proto_messages.specs.declared.message.DocumentPosition.{DocumentPosition}
use Rattle.proto_messages.specs.declared.message.Id.{Id}
use Rattle.proto_messages.specs.declared.message.Id.TheVariants as the_id
use Rattle.proto_messages.specs.declared.message.Message.{Message}
use Rattle.proto_messages.specs.declared.message.Message.TheVariants as the_message
use Rattle.proto_messages.specs.declared.message.Notification.{Notification}
use Rattle.proto_messages.specs.declared.message.Notification.TheVariants as the_notification
use Rattle.proto_messages.specs.declared.position.Range.{Range}
use Rattle.proto_messages.specs.declared.message.Request.{Request}
use Rattle.proto_messages.specs.declared.message.Request.TheVariants as the_request
use Rattle.proto_messages.specs.declared.position.Position.{Position}

-- what names a request: an integer or a text
pub data IdOf : Type 0 where
  number_id : ℤ → IdOf
  text_id : Text → IdOf

-- a position in a document
pub record DocumentPositionOf : Type 0 where
  pub uri : Text
  pub position : Position

-- a document with its whole text
pub record DocumentOf : Type 0 where
  pub uri : Text
  pub version : ℕ
  pub text : Text

-- what a request asks for
pub data RequestOf : Type 0 where
  initialize : Option Text → Bool → RequestOf
  shutdown : RequestOf
  definition : DocumentPositionOf → RequestOf
  references : DocumentPositionOf → Bool → RequestOf
  document_symbol : Text → RequestOf
  prepare_rename : DocumentPositionOf → RequestOf
  rename : DocumentPositionOf → Text → RequestOf
  code_action : Text → Range → RequestOf
  unknown_method : RequestOf
  invalid_params : RequestOf

-- what a notification says
pub data NotificationOf : Type 0 where
  initialized : NotificationOf
  did_open : DocumentOf → NotificationOf
  did_change : DocumentOf → NotificationOf
  did_change_nothing : Text → ℕ → NotificationOf
  did_change_in_range : NotificationOf
  did_save : Text → NotificationOf
  did_close : Text → NotificationOf
  exit : NotificationOf
  malformed : NotificationOf
  other : NotificationOf

-- what a client sends
pub data MessageOf : Type 0 where
  request : IdOf → RequestOf → MessageOf
  notification : NotificationOf → MessageOf
  response : MessageOf
  no_message : MessageOf

-- an id, its text as bytes
abbrev pub id_view : Id → IdOf
id_view (the_id.Number z) = number_id z
id_view (the_id.Text text) = text_id (string_bytes text)

-- a position in a document, the document's URI as bytes
abbrev pub document_position_view : DocumentPosition → DocumentPositionOf
document_position_view at = record { uri = string_bytes at.uri; position = at.position }

-- a document, its texts as bytes
abbrev pub document_view : Document → DocumentOf
document_view d =
    record { uri = string_bytes d.uri; version = d.version; text = string_bytes d.text }

-- a request, its texts as bytes
abbrev pub request_view : Request → RequestOf
request_view (the_request.Initialize root utf8) = initialize (option_map string_bytes root) utf8
request_view the_request.Shutdown = shutdown
request_view (the_request.Definition at) = definition (document_position_view at)
request_view (the_request.References at declared) = references (document_position_view at) declared
request_view (the_request.DocumentSymbol uri) = document_symbol (string_bytes uri)
request_view (the_request.PrepareRename at) = prepare_rename (document_position_view at)
request_view (the_request.Rename at to) = rename (document_position_view at) (string_bytes to)
request_view (the_request.CodeAction uri range) = code_action (string_bytes uri) range
request_view the_request.UnknownMethod = unknown_method
request_view the_request.InvalidParams = invalid_params

-- a notification, its texts as bytes
abbrev pub notification_view : Notification → NotificationOf
notification_view the_notification.Initialized = initialized
notification_view (the_notification.DidOpen document) = did_open (document_view document)
notification_view (the_notification.DidChange document) = did_change (document_view document)
notification_view (the_notification.DidChangeNothing uri version) =
    did_change_nothing (string_bytes uri) version
notification_view the_notification.DidChangeInRange = did_change_in_range
notification_view (the_notification.DidSave uri) = did_save (string_bytes uri)
notification_view (the_notification.DidClose uri) = did_close (string_bytes uri)
notification_view the_notification.Exit = exit
notification_view the_notification.Malformed = malformed
notification_view the_notification.Other = other

-- a message, its texts as bytes
abbrev pub message_view : Message → MessageOf
message_view (the_message.Request id asked) = request (id_view id) (request_view asked)
message_view (the_message.Notification said) = notification (notification_view said)
message_view the_message.Response = response
message_view the_message.NoMessage = no_message
