-- The compact text of JSON values (RFC 8259), with one way to quote each text.
use Rattle.std.specs.Prelude.{ℕ, ◌/◌, ◌%◌, List, [], ◌∷◌, ◌++◌, Bool, true, false, ◌==◌, nat_lt, if◌then◌else◌, Option, Some, None, flat_map, codes, ◌&&◌, map}
use Rattle.std.specs.Char.{digit_char}
use Rattle.std.specs.List.{list_all}
use Rattle.std.specs.Cmp.Lexicographic.{slice_cmp}
use Rattle.std.specs.Ordering.{nat_cmp, is_lt}
use Rattle.proto_base.specs.Ascii as ascii
use Rattle.proto_base.specs.Texts.{Text}

-- what stands in a string for a byte of a text
abbrev pub escaped : ℕ → Text
escaped b =
    if b == ascii.quote then codes "\\\"" else
    (if b == ascii.backslash then codes "\\\\" else
    (if b == ascii.backspace then codes "\\b" else
    (if b == ascii.form_feed then codes "\\f" else
    (if b == ascii.line_feed then codes "\\n" else
    (if b == ascii.carriage_return then codes "\\r" else
    (if b == ascii.tab then codes "\\t" else
    (if nat_lt b ascii.space then codes "\\u00" ++ digit_char (b / 16) ∷ digit_char (b % 16) ∷ []
    else b ∷ [])))))))

-- a text between quotes
unfoldable pub json_string : Text → Text
json_string text = ascii.quote ∷ (flat_map escaped text ++ ascii.quote ∷ [])

-- the literal of a truth value
abbrev pub boolean_text : Bool → Text
boolean_text true = codes "true"
boolean_text false = codes "false"

-- texts with a comma between two
abbrev pub comma_separated : List Text → Text
comma_separated [] = []
comma_separated (t ∷ ts) = t ++ flat_map (λ u. ascii.comma ∷ u) ts

-- the values of an array between brackets, with a comma between two
unfoldable pub array_text : List Text → Text
array_text texts = ascii.open_bracket ∷ (comma_separated texts ++ ascii.close_bracket ∷ [])

-- a key of an object and, where it is there, the text of its value
abbrev pub Slot : Type 0
Slot = Text × Option Text

-- a member that is there: its key, a colon, its value
abbrev pub member_texts : List Slot → List Text
member_texts [] = []
member_texts ((key, None) ∷ slots) = member_texts slots
member_texts ((key, Some text) ∷ slots) =
    (json_string key ++ ascii.colon ∷ text) ∷ member_texts slots

-- the members that are there, in the order of the slots
unfoldable pub object_text : List Slot → Text
object_text slots =
    ascii.open_brace ∷ (comma_separated (member_texts slots) ++ ascii.close_brace ∷ [])

-- an array that is left out where it has no items
unfoldable pub array_if_any : List Text → Option Text
array_if_any [] = None
array_if_any (t ∷ ts) = Some (array_text (t ∷ ts))

-- an object that is left out where it has no members
unfoldable pub object_if_any : List Slot → Option Text
object_if_any [] = None
object_if_any ((key, None) ∷ slots) = object_if_any slots
object_if_any ((key, Some text) ∷ slots) = Some (object_text ((key, Some text) ∷ slots))

-- a mark that is left out where it is false
abbrev pub mark_if_true : Bool → Option Text
mark_if_true true = Some (codes "true")
mark_if_true false = None

-- each key is below all later ones, byte by byte
abbrev pub are_rising : List Text → Bool
are_rising [] = true
are_rising (key ∷ keys) =
    list_all (λ later. is_lt (slice_cmp nat_cmp key later)) keys && are_rising keys

-- the keys of slots, also of those that are left out
abbrev pub keys_of : List Slot → List Text
keys_of slots = map (λ slot. slot.0) slots
