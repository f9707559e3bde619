-- The text that the events of a writer stand for, and what is put behind it.
use Rattle.std.specs.Prelude.{◌≡◌, List, [], ◌∷◌, ◌++◌, Bool, true, false, Option, Some, None, option_and_then, if◌then◌else◌, decimal, codes}
use Rattle.std.specs.Fmt.{signed_decimal}
use Rattle.json.specs.Print.{separator, token_text, ends}
use Rattle.json.specs.Token.{Token}
use Rattle.json.specs.Token as json
use Rattle.proto_base.specs.Ascii as ascii
use Rattle.proto_base.specs.Texts.{Text}
use Rattle.proto_descriptors_json.specs.JsonText.{Slot, json_string, object_if_any}
use Rattle.serde.specs.Event.{Event, Log, Logs, boolean, signed, unsigned, single, double, character, text, octets, nothing, unit_variant, seq_begins, seq_ends, map_begins, map_ends, field_key, variant_key, key_begins, key_ends, flattens}
use Rattle.serde.specs.Spelling.{spelled}
use Rattle.serde.specs.declared.name.Case.TheVariants.{AsIs}
use Rattle.serde.specs.declared.name.NameKind.TheVariants.{Field}

-- the text so far, and whether a value has just ended there
pub record Written : Type 0 where
  pub bytes : Text
  pub has_ended : Bool

-- before anything is written
abbrev pub nothing_written : Written
nothing_written = record { bytes = []; has_ended = false }

-- the token that an event is written as; descriptors send no event that has none here
abbrev pub event_token : Event → Option Token
event_token (boolean b) = Some (json.boolean b)
event_token (signed z) = Some (json.number (signed_decimal z))
event_token (unsigned n) = Some (json.number (decimal n))
event_token (single x) = None
event_token (double x) = None
event_token (character c) = None
event_token (text s) = Some (json.string s)
event_token (octets b) = None
event_token nothing = None
event_token (unit_variant name case) = None
event_token (seq_begins len) = Some json.begin_array
event_token seq_ends = Some json.end_array
event_token (map_begins len) = Some json.begin_object
event_token map_ends = Some json.end_object
event_token (field_key name case) = Some (json.key (spelled case Field name))
event_token (variant_key name case) = None
event_token key_begins = None
event_token key_ends = None
event_token flattens = None

-- a token behind what is written
abbrev pub token_put : Token → Written → Written
token_put t w = record {
  bytes = w.bytes ++ (separator w.has_ended t ++ token_text t);
  has_ended = ends t;
}

-- these events behind what is written, where each of them is a token
unfoldable pub events_put : Written → List Event → Option Written
events_put w [] = Some w
events_put w (e ∷ es) = option_and_then (λ t. events_put (token_put t w) es) (event_token e)

-- what a writer has written, where its events are known and each is a token
unfoldable pub written_by : Log → Option Written
written_by log = option_and_then (events_put nothing_written) log

-- what is written, if that is known, is changed by this
pub record ChangesWritten (change : Written → Written) (old new : Log) : Type 0 where
  pub leads : (w : Written) → written_by old ≡ Some w → written_by new ≡ Some (change w)

-- the comma that stands behind a value
abbrev pub comma_behind : Written → Text
comma_behind w = if w.has_ended then ascii.comma ∷ [] else []

-- a value behind what is written
unfoldable pub value_put : Text → Written → Written
value_put t w = record { bytes = w.bytes ++ (comma_behind w ++ t); has_ended = true }

-- a key of an object and its colon behind what is written
unfoldable pub key_put : Text → Written → Written
key_put k w =
    record {
      bytes = w.bytes ++ (comma_behind w
          ++ (json_string k ++ ascii.colon ∷ []));
      has_ended = false;
    }

-- a member of an object behind what is written, if it is there
unfoldable pub slot_put : Slot → Written → Written
slot_put (key, None) w = w
slot_put (key, Some t) w = value_put t (key_put key w)

-- members behind what is written, one after the other
unfoldable pub slots_put : List Slot → Written → Written
slots_put [] w = w
slots_put (slot ∷ slots) w = slots_put slots (slot_put slot w)

-- the options of a value as its member, left out where none is there
abbrev pub options_slot : List Slot → Slot
options_slot slots = (codes "options", object_if_any slots)

-- the options that are left and the end of their object, which has begun or begins with the first
unfoldable pub options_put : Bool → List Slot → Written → Written
options_put true slots w = token_put json.end_object (slots_put slots w)
options_put false slots w = slot_put (options_slot slots) w

-- values behind what is written, one after the other
unfoldable pub values_put : List Text → Written → Written
values_put [] w = w
values_put (t ∷ ts) w = values_put ts (value_put t w)

-- a value of this text is written
pub record PutsValue (t : Text) (old new : Log) : Type 0 where
  pub puts : ChangesWritten (value_put t) old new

-- values of these texts are written, one after the other
pub record PutsValues (ts : List Text) (old new : Log) : Type 0 where
  pub puts : ChangesWritten (values_put ts) old new

-- this member is written, if it is there
pub record PutsMember (slot : Slot) (old new : Log) : Type 0 where
  pub puts : ChangesWritten (slot_put slot) old new

-- these members are written, as far as they are there
pub record PutsMembers (slots : List Slot) (old new : Log) : Type 0 where
  pub puts : ChangesWritten (slots_put slots) old new

-- the options that are left are written, and the object of options ends, if it has begun
pub record EndsOptions (is_open : Bool) (slots : List Slot) (old new : Log) : Type 0 where
  pub puts : ChangesWritten (options_put is_open slots) old new

-- the object of options begins, if it has not begun
abbrev pub Opens : Bool → Log → Log → Type 0
Opens true old new = new ≡ old
Opens false old new =
    (mid : Log) × Logs old mid (field_key (codes "options") AsIs) × Logs mid new (map_begins None)

-- one option is written, if it is there, in an object that begins with its first member: what ends
-- the object behind it ends it before
abbrev pub PutsOption : Bool → Slot → Bool → Log → Log → Type 0
PutsOption is_open slot is_open_then old new =
    (slots : List Slot) (last : Log) → EndsOptions is_open_then slots new last
    → EndsOptions is_open (slot ∷ slots) old last
