-- What a server writes has no float.
use Rattle.std.proofs.Common.{◌≡◌, ℕ, ℤ, pos, negsuc, List, [], ◌∷◌, Bool, ◌||◌, false, map, Option, Some, None, refl, ap, subst, ◌∙◌}
use Rattle.std.specs.String.{string_bytes}
use Rattle.serde_json.specs.Data.{Data, string}
use Rattle.serde_json.specs.View.{items_of}
use Rattle.serde_json.specs.Written.{has_float, items_have_float}
use Rattle.proto_base.specs.Texts.{Text}
use Rattle.proto_messages.specs.Messages.{IdOf, number_id, text_id}
use Rattle.proto_messages.specs.Results.{action_data, answer_data, array_of, diagnostic_data, document_edit_data, edits_data, integer, location_data, symbol_data, symbol_step, text_edit_data, version_data}
use Rattle.proto_messages.specs.Writing.{answered_id, diagnostics_data, error_number, failure_data, id_data, logged_data, published_data, result_data, shown_data}
use Rattle.proto_messages.specs.declared.results.Answer.{Answer}
use Rattle.proto_messages.specs.declared.results.Answer.TheVariants as answer
use Rattle.proto_messages.specs.declared.results.CodeAction.{CodeAction}
use Rattle.proto_messages.specs.declared.results.Diagnostic.{Diagnostic}
use Rattle.proto_messages.specs.declared.results.DocumentDiagnostics.{DocumentDiagnostics}
use Rattle.proto_messages.specs.declared.results.DocumentEdit.{DocumentEdit}
use Rattle.proto_messages.specs.declared.results.ErrorCode.{ErrorCode}
use Rattle.proto_messages.specs.declared.results.Location.{Location}
use Rattle.proto_messages.specs.declared.results.MessageType.{MessageType}
use Rattle.proto_messages.specs.declared.results.Symbol.{Symbol}
use Rattle.proto_messages.specs.declared.results.Symbol.TheFolds.{fold-roll-Symbol, ind-Symbol}
use Rattle.proto_messages.specs.declared.results.TextEdit.{TextEdit}

-- two parts have none, where neither has one
pub both_plain : {a b : Bool} → a ≡ false → b ≡ false → (a || b) ≡ false
both_plain {a} {b} first second = ap (λ x. x || b) first ∙ second

-- an array has none, where its items have none
pub array_plain : {A : Type 0} (data_of : A → Data) → ((x : A) → has_float (data_of x) ≡ false) → (xs : List A) → has_float (array_of (map data_of xs)) ≡ false
array_plain data_of plain [] = refl
array_plain data_of plain (x ∷ xs) = both_plain (plain x) (array_plain data_of plain xs)

-- an integer is none
pub integer_plain : (z : ℤ) → has_float (integer z) ≡ false
integer_plain (pos n) = refl
integer_plain (negsuc n) = refl

-- a version is none
pub version_plain : (v : Option ℕ) → has_float (version_data v) ≡ false
version_plain None = refl
version_plain (Some n) = refl

-- an id is none
pub id_plain : (id : IdOf) → has_float (id_data id) ≡ false
id_plain (number_id z) = integer_plain z
id_plain (text_id t) = refl

-- nor is that of an answer
pub answered_plain : (id : Option IdOf) → has_float (answered_id id) ≡ false
answered_plain None = refl
answered_plain (Some id) = id_plain id

-- a location has none
pub location_plain : (l : Location) → has_float (location_data l) ≡ false
location_plain l = refl

-- an edit has none
pub text_edit_plain : (e : TextEdit) → has_float (text_edit_data e) ≡ false
text_edit_plain e = refl

-- nor have the edits of a document
pub document_edit_plain : (d : DocumentEdit) → has_float (document_edit_data d) ≡ false
document_edit_plain d = both_plain (array_plain text_edit_data text_edit_plain d.edits.items) (both_plain (both_plain (version_plain d.version) refl) refl)

-- nor those of several
pub edits_plain : (ds : List DocumentEdit) → has_float (edits_data ds) ≡ false
edits_plain ds = both_plain (array_plain document_edit_data document_edit_plain ds) refl

-- nor has an action
pub action_plain : (a : CodeAction) → has_float (action_data a) ≡ false
action_plain a = both_plain (edits_plain a.edits.items) refl

-- a symbol has none
abbrev IsPlain : Symbol → Type 0
IsPlain s = has_float (symbol_data s) ≡ false

-- nor have those in it
children_plain : (ss : List ((s : Symbol) × IsPlain s)) → items_have_float (items_of (map symbol_data (map (λ e. e.0) ss))) ≡ false
children_plain [] = refl
children_plain (e ∷ ss) = both_plain e.1 (children_plain ss)

-- so no symbol has one: y is x with a proof beside each of those in it
pub symbol_plain : (s : Symbol) → has_float (symbol_data s) ≡ false
symbol_plain = ind-Symbol IsPlain (λ x y is.
    let children = subst (λ z. items_have_float (items_of (map symbol_data z.children.items)) ≡ false) is (children_plain y.children.items) in
    ap has_float (fold-roll-Symbol Data symbol_step x) ∙ both_plain children refl)

-- nor has a result
pub answer_plain : (a : Answer) → has_float (answer_data a) ≡ false
answer_plain (answer.Capabilities encoding) = refl
answer_plain answer.Null = refl
answer_plain (answer.Locations locations) = array_plain location_data location_plain locations.items
answer_plain (answer.Symbols symbols) = array_plain symbol_data symbol_plain symbols.items
answer_plain (answer.Renameable range name) = refl
answer_plain (answer.Edits edits) = edits_plain edits.items
answer_plain (answer.Actions actions) = array_plain action_data action_plain actions.items

-- nor has the message of a result
pub result_plain : (id : IdOf) (a : Answer) → has_float (result_data id (answer_data a)) ≡ false
result_plain id a = both_plain (id_plain id) (both_plain (answer_plain a) refl)

-- nor has the message of an error
pub failure_plain : (id : Option IdOf) (code : ErrorCode) (text : Text) → has_float (failure_data id code text) ≡ false
failure_plain id code text =
    both_plain (both_plain (integer_plain (error_number code)) refl) (both_plain (answered_plain id) refl)

-- a diagnostic has none
pub diagnostic_plain : (d : Diagnostic) → has_float (diagnostic_data d) ≡ false
diagnostic_plain d = refl

-- nor have the diagnostics of a document
pub diagnostics_plain : (list : Data) (uri : Text) (version : Option ℕ) → has_float list ≡ false → has_float (diagnostics_data list (string uri) version) ≡ false
diagnostics_plain list uri None plain = both_plain plain refl
diagnostics_plain list uri (Some n) plain = both_plain plain refl

-- nor has their notification
pub published_plain : (d : DocumentDiagnostics) → has_float (published_data d) ≡ false
published_plain d =
    both_plain (diagnostics_plain _ (string_bytes d.uri) d.version (array_plain diagnostic_data diagnostic_plain d.diagnostics.items)) refl

-- nor has a message for a user
pub shown_plain : (kind : MessageType) (text : Text) → has_float (shown_data kind text) ≡ false
shown_plain kind text = refl

-- nor has one for a log
pub logged_plain : (kind : MessageType) (text : Text) → has_float (logged_data kind text) ≡ false
logged_plain kind text = refl
