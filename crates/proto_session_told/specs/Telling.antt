-- What the client is told of the files that it sees.
use Rattle.std.specs.Prelude.{◌≡◌, ◌&&◌, Bool, List, [], ◌∷◌, ◌++◌, codes, flat_map, map, if◌then◌else◌, None, string_bytes}
use Rattle.std.specs.List.{AllZip, list_any}
use Rattle.std.specs.Str.{bytes_eq}
use Rattle.serde_json.specs.Data.{string}
use Rattle.serde_json.specs.Written.{compact_text}
use Rattle.proto_base.specs.Texts.{Path, Text}
use Rattle.proto_messages.specs.Results.{array_of}
use Rattle.proto_messages.specs.Writing.{diagnostics_data, notification_data, published_data}
use Rattle.proto_messages.specs.declared.results.DocumentDiagnostics.{DocumentDiagnostics}
use Rattle.protoref_output.specs.FoundLines.{text_of_path}
use Rattle.proto_session_files.specs.Views.{ViewOf, uri_at, version_at}
use Rattle.proto_session_told.specs.Shown.{IsShown, ShownOf, diagnostic_in, diagnostic_of, runs}
use Rattle.proto_session_told.specs.declared.telling.Told.{Told}

-- a document of which something is shown: its URI, and the message that said what
pub record ToldOf : Type 0 where
  pub uri : Text
  pub message : Text

-- a document of which something is shown
abbrev pub told_of : Told → ToldOf
told_of t = record { uri = string_bytes t.uri; message = t.message.items }

-- ---- what is to be told

-- the path of a list of one path
abbrev pub path_of_run : List ShownOf → Path
path_of_run [] = []
path_of_run (x ∷ xs) = x.path

-- a document that says what is shown of one of the files that the client sees
pub record SaysRun (v : ViewOf) (run : List ShownOf) (d : DocumentDiagnostics) : Type 0 where
  pub uri : string_bytes d.uri ≡ uri_at v (path_of_run run)
  pub version : d.version ≡ version_at v (path_of_run run)
  pub diagnostics : map diagnostic_of d.diagnostics.items
      ≡ map (diagnostic_in v.encoding (text_of_path (path_of_run run) v.files)) run

-- the message that tells of a document, under its URI
abbrev pub telling_of : DocumentDiagnostics → ToldOf
telling_of d =
    record { uri = string_bytes d.uri; message = compact_text (published_data d) }

-- what is told of one of the files that the client sees
pub record IsTellingOf (v : ViewOf) (run : List ShownOf) (t : ToldOf) : Type 0 where
  pub document : DocumentDiagnostics
  pub says : SaysRun v run document
  pub is_of : t ≡ telling_of document

-- a message for each of these lists of what is shown
abbrev pub AreTellings : ViewOf → List (List ShownOf) → List ToldOf → Type 0
AreTellings v rs told = AllZip (IsTellingOf v) rs told

-- What is to be told of the files that a client sees: a message for each file of which something is
-- shown, in the order of their paths.
abbrev pub IsToldOf : ViewOf → List ToldOf → Type 0
IsToldOf v told = (shown : List ShownOf) × IsShown v.files shown × AreTellings v (runs shown) told

-- ---- what is new

-- the message that tells that nothing is shown any more of the document under a URI
abbrev pub cleared : Text → Text
cleared uri =
    compact_text (notification_data (codes "textDocument/publishDiagnostics")
    (diagnostics_data (array_of []) (string uri) None))

-- whether the second was told of the same document in the same bytes
abbrev pub is_same : ToldOf → ToldOf → Bool
is_same t u = bytes_eq u.uri t.uri && bytes_eq u.message t.message

-- whether this was told in these very bytes
abbrev pub was_told : List ToldOf → ToldOf → Bool
was_told told t = list_any (is_same t) told

-- whether this was told of the document under the URI
abbrev pub is_under : Text → ToldOf → Bool
is_under uri t = bytes_eq t.uri uri

-- whether something is shown of the document under the URI
abbrev pub is_shown_at : List ToldOf → Text → Bool
is_shown_at told uri = list_any (is_under uri) told

-- the message of a document, where the client was not told it
abbrev pub news_of : List ToldOf → ToldOf → List Text
news_of old t = if was_told old t then [] else t.message ∷ []

-- the message that clears a document, where nothing is shown of it any more
abbrev pub end_of : List ToldOf → ToldOf → List Text
end_of new t = if is_shown_at new t.uri then [] else cleared t.uri ∷ []

-- What a client that was told the first is told so that it was told the second: of each document of
-- which something else is shown, and of each of which nothing is shown any more.
abbrev pub news : List ToldOf → List ToldOf → List Text
news old new = flat_map (news_of old) new ++ flat_map (end_of new) old
