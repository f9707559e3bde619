-- What is put behind the text by the events of values, members and objects.
use Rattle.std.proofs.Common.{◌≡◌, ℕ, List, [], ◌∷◌, ◌++◌, Bool, true, false, Option, Some, None, option_map, map, refl, sym, ap, ◌∙◌, subst, append_assoc, decimal, length, take, get_or, ◌+◌, ◌<◌, ◌≤◌, append-nil, take_all, option_and_then, flat_map, if◌then◌else◌, codes, cond, ◌&&◌, ℤ}
use Rattle.proto_base.proofs.Common.{taken_more, signed_decimal}
use Rattle.json.specs.Token.{Token, begin_object, end_object, begin_array, end_array, key, string, number}
use Rattle.json.specs.Token as json
use Rattle.json.specs.Print.{quoted as quoted_there}
use Rattle.proto_descriptors_json.specs.Common.{Slot, json_string, boolean_text, comma_separated, member_texts, array_text, object_text, array_if_any, object_if_any, mark_if_true, Written, nothing_written, event_token, token_put, events_put, written_by, ChangesWritten, comma_behind, value_put, key_put, slot_put, slots_put, options_put, options_slot, PutsValue, PutsMember, PutsMembers, PutsValues, EndsOptions, Opens, PutsOption, values_put}
use Rattle.proto_descriptors_json.proofs.Quoting.{quoted-is}
use Rattle.serde.specs.Event.{Event, Log, Logs, boolean, signed, unsigned, text, seq_begins, seq_ends, map_begins, map_ends, field_key}
use Rattle.serde.specs.declared.name.Case.TheVariants.{AsIs}
use Rattle.serde.specs.declared.name.NameKind.TheVariants.{Field}
use Rattle.serde.proofs.Spellings.{spelled-AsIs}

-- ---- one event

pub events_put-push : (es : List Event) (e : Event) (w : Written) → events_put w (es ++ e ∷ []) ≡ option_and_then (λ v. option_map (λ t. token_put t v) (event_token e)) (events_put w es)
unfolding events_put
events_put-push [] e w = by (event_token e) where
  by : (o : Option Token) → option_and_then (λ t. Some (token_put t w)) o ≡ option_map (λ t. token_put t w) o
  by None = refl
  by (Some t) = refl
events_put-push (x ∷ es) e w = by (event_token x) (λ t. events_put-push es e (token_put t w)) where
  by : (o : Option Token) → ((t : Token) → events_put (token_put t w) (es ++ e ∷ []) ≡ option_and_then (λ v. option_map (λ u. token_put u v) (event_token e)) (events_put (token_put t w) es))
      → option_and_then (λ t. events_put (token_put t w) (es ++ e ∷ [])) o ≡ option_and_then (λ v. option_map (λ u. token_put u v) (event_token e)) (option_and_then (λ t. events_put (token_put t w) es) o)
  by None each = refl
  by (Some t) each = each t

none_is_no_some : {A : Type 0} {x : A} → None ≡ Some x → ⊥
none_is_no_some h = cc

pub event_put : (old new : Log) (e : Event) (t : Token) → event_token e ≡ Some t → Logs old new e → ChangesWritten (token_put t) old new
unfolding written_by
event_put None new e t is sent = record { leads = λ w known. absurd (none_is_no_some known) }
event_put (Some es) new e t is sent = record {
  leads = λ w known.
      ap written_by sent ∙ events_put-push es e nothing_written
      ∙ ap (option_and_then (λ v. option_map (λ u. token_put u v) (event_token e))) known
      ∙ ap (option_map (λ u. token_put u w)) is;
}

-- ---- one after another

pub followed : {f g : Written → Written} {old mid new : Log} → ChangesWritten f old mid → ChangesWritten g mid new → ChangesWritten (λ w. g (f w)) old new
followed {f} {g} first second = record { leads = λ w known. second.leads (f w) (first.leads w known) }

pub same : {f g : Written → Written} {old new : Log} → ((w : Written) → f w ≡ g w) → ChangesWritten f old new → ChangesWritten g old new
same {f} {g} is leads = record { leads = λ w known. leads.leads w known ∙ ap Some (is w) }

pub none : {old new : Log} → new ≡ old → ChangesWritten (λ w. w) old new
none is = record { leads = λ w known. ap written_by is ∙ known }

-- ---- values

abbrev at : List ℕ → Bool → Written
at t b = record { bytes = t; has_ended = b }

comma-is : (b : Bool) → cond {A = List ℕ} (b && true) (44 ∷ []) [] ≡ (if b then 44 ∷ [] else [])
comma-is true = refl
comma-is false = refl

pub text_put : (s : List ℕ) (w : Written) → token_put (string s) w ≡ value_put (json_string s) w
unfolding value_put
text_put s w =
    ap (λ c. at (w.bytes ++ (c ++ quoted_there s)) true) (comma-is w.has_ended)
    ∙ ap (λ q. at (w.bytes ++ (comma_behind w ++ q)) true) (quoted-is s)

pub number_put : (s : List ℕ) (w : Written) → token_put (number s) w ≡ value_put s w
unfolding value_put
number_put s w = ap (λ c. at (w.bytes ++ (c ++ s)) true) (comma-is w.has_ended)

pub truth_put : (b : Bool) (w : Written) → token_put (json.boolean b) w ≡ value_put (boolean_text b) w
unfolding value_put
truth_put true w = ap (λ c. at (w.bytes ++ (c ++ boolean_text true)) true) (comma-is w.has_ended)
truth_put false w = ap (λ c. at (w.bytes ++ (c ++ boolean_text false)) true) (comma-is w.has_ended)

key_put-is : (k : List ℕ) (w : Written) → token_put (key k) w ≡ key_put k w
unfolding key_put
key_put-is k w =
    ap (λ c. at (w.bytes ++ (c ++ (quoted_there k ++ 58 ∷ []))) false) (comma-is w.has_ended)
    ∙ ap (λ q. at (w.bytes ++ (comma_behind w ++ (q ++ 58 ∷ []))) false) (quoted-is k)

pub text_sent : (s : List ℕ) {old new : Log} → Logs old new (text s) → PutsValue (json_string s) old new
text_sent s {old} {new} sent = record { puts = same (text_put s) (event_put old new (text s) (string s) refl sent) }

-- a text that is known by another name
pub name_sent : {s t : List ℕ} {old new : Log} → s ≡ t → Logs old new (text s) → PutsValue (json_string t) old new
name_sent {s} {t} {old} {new} is sent = subst (λ (u : List ℕ). PutsValue (json_string u) old new) is (text_sent s sent)

pub unsigned_sent : (n : ℕ) {old new : Log} → Logs old new (unsigned n) → PutsValue (decimal n) old new
unsigned_sent n {old} {new} sent = record { puts = same (number_put (decimal n)) (event_put old new (unsigned n) (number (decimal n)) refl sent) }

pub signed_sent : (z : ℤ) {old new : Log} → Logs old new (signed z) → PutsValue (signed_decimal z) old new
signed_sent z {old} {new} sent = record { puts = same (number_put (signed_decimal z)) (event_put old new (signed z) (number (signed_decimal z)) refl sent) }

pub truth_sent : (b : Bool) {old new : Log} → Logs old new (boolean b) → PutsValue (boolean_text b) old new
truth_sent b {old} {new} sent = record { puts = same (truth_put b) (event_put old new (boolean b) (json.boolean b) refl sent) }

pub key_sent : (k : List ℕ) {old new : Log} → Logs old new (field_key k AsIs) → ChangesWritten (key_put k) old new
key_sent k {old} {new} sent =
    same (key_put-is k) (event_put old new (field_key k AsIs) (key k) (ap (λ s. Some (key s)) (spelled-AsIs Field k)) sent)

-- ---- objects

-- one member behind the text
member_at : (t c q v : List ℕ) → (t ++ (c ++ (q ++ 58 ∷ []))) ++ v ≡ t ++ (c ++ (q ++ 58 ∷ v))
member_at t c q v =
    append_assoc t (c ++ (q ++ 58 ∷ [])) v
    ∙ ap (λ x. t ++ x) (append_assoc c (q ++ 58 ∷ []) v ∙ ap (λ x. c ++ x) (append_assoc q (58 ∷ []) v))

after_members : (slots : List Slot) (t : List ℕ) → slots_put slots (at t true) ≡ at (t ++ flat_map (λ u. 44 ∷ u) (member_texts slots)) true
unfolding slots_put slot_put value_put key_put
after_members [] t = ap (λ x. at x true) (sym (append-nil t))
after_members ((k, None) ∷ slots) t = after_members slots t
after_members ((k, Some v) ∷ slots) t =
    ap (λ x. slots_put slots (at x true)) (member_at t (44 ∷ []) (json_string k) v)
    ∙ after_members slots (t ++ 44 ∷ (json_string k ++ 58 ∷ v))
    ∙ ap (λ x. at x true) (append_assoc t (44 ∷ (json_string k ++ 58 ∷ v)) (flat_map (λ u. 44 ∷ u) (member_texts slots)))

first_members : (slots : List Slot) (t : List ℕ) → token_put end_object (slots_put slots (at t false)) ≡ at (t ++ (comma_separated (member_texts slots) ++ 125 ∷ [])) true
unfolding slots_put slot_put value_put key_put
first_members [] t = refl
first_members ((k, None) ∷ slots) t = first_members slots t
first_members ((k, Some v) ∷ slots) t =
    let m = json_string k ++ 58 ∷ v in
    let rest = flat_map (λ u. 44 ∷ u) (member_texts slots) in
    ap (λ x. token_put end_object (slots_put slots (at x true))) (member_at t [] (json_string k) v)
    ∙ ap (token_put end_object) (after_members slots (t ++ m))
    ∙ ap (λ x. at x true) (append_assoc (t ++ m) rest (125 ∷ []) ∙ append_assoc t m (rest ++ 125 ∷ []) ∙ ap (λ x. t ++ x) (sym (append_assoc m rest (125 ∷ []))))

begun_at : (t c : List ℕ) (b : ℕ) (rest : List ℕ) → (t ++ (c ++ b ∷ [])) ++ rest ≡ t ++ (c ++ b ∷ rest)
begun_at t c b rest = append_assoc t (c ++ b ∷ []) rest ∙ ap (λ x. t ++ x) (append_assoc c (b ∷ []) rest)

-- the members between braces
pub object_put : (slots : List Slot) (w : Written) → token_put end_object (slots_put slots (token_put begin_object w)) ≡ value_put (object_text slots) w
unfolding value_put object_text
object_put slots w =
    let inside = comma_separated (member_texts slots) ++ 125 ∷ [] in
    ap (λ c. token_put end_object (slots_put slots (at (w.bytes ++ (c ++ 123 ∷ [])) false))) (comma-is w.has_ended)
    ∙ first_members slots (w.bytes ++ (comma_behind w ++ 123 ∷ []))
    ∙ ap (λ x. at x true) (begun_at w.bytes (comma_behind w) 123 inside)

pub object_sent : (slots : List Slot) {old first last new : Log} → Logs old first (map_begins None) → PutsMembers slots first last → Logs last new map_ends → PutsValue (object_text slots) old new
object_sent slots {old} {first} {last} {new} begins members ends = record {
  puts = same (object_put slots) (followed (followed (event_put old first (map_begins None) begin_object refl begins) members.puts) (event_put last new map_ends end_object refl ends));
}

pub more : {slot : Slot} {slots : List Slot} {old mid new : Log} → PutsMember slot old mid → PutsMembers slots mid new → PutsMembers (slot ∷ slots) old new
unfolding slots_put
more first rest = record { puts = followed first.puts rest.puts }

pub last : {slot : Slot} {old new : Log} → PutsMember slot old new → PutsMembers (slot ∷ []) old new
unfolding slots_put
last one = record { puts = one.puts }

slots_put-append : (xs ys : List Slot) (w : Written) → slots_put ys (slots_put xs w) ≡ slots_put (xs ++ ys) w
unfolding slots_put
slots_put-append [] ys w = refl
slots_put-append (x ∷ xs) ys w = slots_put-append xs ys (slot_put x w)

pub both : {xs ys : List Slot} {old mid new : Log} → PutsMembers xs old mid → PutsMembers ys mid new → PutsMembers (xs ++ ys) old new
both {xs} {ys} first second = record { puts = same (slots_put-append xs ys) (followed first.puts second.puts) }

-- ---- lists

after_values : (ts : List (List ℕ)) (t : List ℕ) → values_put ts (at t true) ≡ at (t ++ flat_map (λ u. 44 ∷ u) ts) true
unfolding values_put value_put
after_values [] t = ap (λ x. at x true) (sym (append-nil t))
after_values (v ∷ ts) t = after_values ts (t ++ 44 ∷ v) ∙ ap (λ x. at x true) (append_assoc t (44 ∷ v) (flat_map (λ u. 44 ∷ u) ts))

first_values : (ts : List (List ℕ)) (t : List ℕ) → token_put end_array (values_put ts (at t false)) ≡ at (t ++ (comma_separated ts ++ 93 ∷ [])) true
unfolding values_put value_put
first_values [] t = refl
first_values (v ∷ ts) t =
    let rest = flat_map (λ u. 44 ∷ u) ts in
    ap (token_put end_array) (after_values ts (t ++ v))
    ∙ ap (λ x. at x true) (append_assoc (t ++ v) rest (93 ∷ []) ∙ append_assoc t v (rest ++ 93 ∷ []) ∙ ap (λ x. t ++ x) (sym (append_assoc v rest (93 ∷ []))))

-- the values between brackets
pub array_put : (ts : List (List ℕ)) (w : Written) → token_put end_array (values_put ts (token_put begin_array w)) ≡ value_put (array_text ts) w
unfolding value_put array_text
array_put ts w =
    let inside = comma_separated ts ++ 93 ∷ [] in
    ap (λ c. token_put end_array (values_put ts (at (w.bytes ++ (c ++ 91 ∷ [])) false))) (comma-is w.has_ended)
    ∙ first_values ts (w.bytes ++ (comma_behind w ++ 91 ∷ []))
    ∙ ap (λ x. at x true) (begun_at w.bytes (comma_behind w) 91 inside)

pub array_sent : (ts : List (List ℕ)) (len : Option ℕ) {old first last new : Log} → Logs old first (seq_begins len) → PutsValues ts first last → Logs last new seq_ends → PutsValue (array_text ts) old new
array_sent ts len {old} {first} {last} {new} begins values ends = record {
  puts = same (array_put ts) (followed (followed (event_put old first (seq_begins len) begin_array refl begins) values.puts) (event_put last new seq_ends end_array refl ends));
}

values_put-push : (ts : List (List ℕ)) (t : List ℕ) (w : Written) → value_put t (values_put ts w) ≡ values_put (ts ++ t ∷ []) w
unfolding values_put
values_put-push [] t w = refl
values_put-push (u ∷ ts) t w = values_put-push ts t (value_put u w)

pub value_more : {ts : List (List ℕ)} {t : List ℕ} {old mid new : Log} → PutsValues ts old mid → PutsValue t mid new → PutsValues (ts ++ t ∷ []) old new
value_more {ts} {t} first one = record { puts = same (values_put-push ts t) (followed first.puts one.puts) }

pub no_values : {log : Log} → PutsValues [] log log
unfolding values_put
no_values = record { puts = none refl }

-- one value more of a list, as the values are seen
pub each_more : {A : Type 0} (text_of : A → List ℕ) (xs : List A) (i : ℕ) (x : A) {old mid new : Log} → i < length xs → x ≡ get_or xs i x
    → PutsValues (map text_of (take i xs)) old mid → PutsValue (text_of x) mid new → PutsValues (map text_of (take (i + 1) xs)) old new
each_more text_of xs i x {old} {mid} {new} lt is before one =
    subst (λ (ts : List (List ℕ)). PutsValues ts old new) (taken_more text_of xs i x x lt is) (value_more before one)

pub each_all : {A : Type 0} (text_of : A → List ℕ) (xs : List A) (i : ℕ) {old new : Log} → length xs ≤ i → PutsValues (map text_of (take i xs)) old new → PutsValues (map text_of xs) old new
each_all text_of xs i {old} {new} past before = subst (λ (ys : List _). PutsValues (map text_of ys) old new) (take_all i xs past) before

-- ---- members

pub member_sent : (k t : List ℕ) {old mid new : Log} → Logs old mid (field_key k AsIs) → PutsValue t mid new → PutsMember (k, Some t) old new
unfolding slot_put
member_sent k t named value = record { puts = followed (key_sent k named) value.puts }

pub absent : (k : List ℕ) {old new : Log} → new ≡ old → PutsMember (k, None) old new
unfolding slot_put
absent k is = record { puts = none is }

pub mark_absent : (k : List ℕ) {b : Bool} {old new : Log} → b ≡ false → new ≡ old → PutsMember (k, mark_if_true b) old new
mark_absent k {b} {old} {new} off is = subst (λ (a : Bool). PutsMember (k, mark_if_true a) old new) (sym off) (absent k is)

pub mark_put : (k : List ℕ) {b : Bool} {old new : Log} → b ≡ true → PutsMember (k, Some (boolean_text true)) old new → PutsMember (k, mark_if_true b) old new
mark_put k {b} {old} {new} on puts = subst (λ (a : Bool). PutsMember (k, mark_if_true a) old new) (sym on) puts

pub list_absent : (k : List ℕ) {old new : Log} → new ≡ old → PutsMember (k, array_if_any []) old new
unfolding array_if_any
list_absent k is = absent k is

pub map_some : {A B : Type 0} (f : A → B) (xs : List A) → (xs ≡ [] → ⊥) → map f xs ≡ [] → ⊥
map_some f [] some none = some refl
map_some f (x ∷ xs) some none = some_is_none none where
  some_is_none : {B : Type 0} {y : B} {ys : List B} → y ∷ ys ≡ [] → ⊥
  some_is_none h = cc

-- a list that is not empty
pub any_sent : (k : List ℕ) (mid : Log) {old first last new : Log} (ts : List (List ℕ)) → (ts ≡ [] → ⊥) → Logs old mid (field_key k AsIs) → Logs mid first (seq_begins None)
    → PutsValues ts first last → Logs last new seq_ends → PutsMember (k, array_if_any ts) old new
unfolding array_if_any
any_sent k mid [] some named begins values ends = absurd (some refl)
any_sent k mid (t ∷ ts) some named begins values ends = member_sent k (array_text (t ∷ ts)) named (array_sent (t ∷ ts) None begins values ends)

-- the same member, where its value is known by another name
pub valued : {k : List ℕ} {v w : Option (List ℕ)} {old new : Log} → v ≡ w → PutsMember (k, v) old new → PutsMember (k, w) old new
valued {k} {v} {w} {old} {new} is puts = subst (λ (o : Option (List ℕ)). PutsMember (k, o) old new) is puts

pub listed : {k : List ℕ} {ts us : List (List ℕ)} {old new : Log} → ts ≡ us → PutsMember (k, array_if_any ts) old new → PutsMember (k, array_if_any us) old new
listed {k} {ts} {us} {old} {new} is puts = subst (λ (xs : List (List ℕ)). PutsMember (k, array_if_any xs) old new) is puts

-- the list of a slice, by the list that it was made from
pub sliced : {A : Type 0} (text_of : A → List ℕ) {k : List ℕ} {xs ys : List A} {old new : Log} → xs ≡ ys → PutsMember (k, array_if_any (map text_of xs)) old new → PutsMember (k, array_if_any (map text_of ys)) old new
sliced text_of is puts = listed (ap (map text_of) is) puts

-- ---- options

rest-none : (b : Bool) (k : List ℕ) (slots : List Slot) (w : Written) → options_put b slots w ≡ options_put b ((k, None) ∷ slots) w
unfolding options_put slots_put slot_put object_if_any
rest-none true k slots w = refl
rest-none false k slots w = refl

rest-open : (k t : List ℕ) (slots : List Slot) (w : Written) → options_put true slots (slot_put (k, Some t) w) ≡ options_put true ((k, Some t) ∷ slots) w
unfolding options_put slots_put
rest-open k t slots w = refl

rest-some : (k t : List ℕ) (slots : List Slot) (w : Written) → options_put true slots (slot_put (k, Some t) (token_put begin_object (key_put (codes "options") w))) ≡ options_put false ((k, Some t) ∷ slots) w
unfolding options_put slots_put object_if_any slot_put
rest-some k t slots w = object_put ((k, Some t) ∷ slots) (key_put (codes "options") w)

pub options_ended : {b : Bool} {old new : Log} → b ≡ true → Logs old new map_ends → EndsOptions b [] old new
unfolding options_put slots_put
options_ended {b} {old} {new} begun sent = subst (λ (a : Bool). EndsOptions a [] old new) (sym begun) (record { puts = event_put old new map_ends end_object refl sent })

pub options_none : {b : Bool} {old new : Log} → b ≡ false → new ≡ old → EndsOptions b [] old new
unfolding options_put slot_put object_if_any
options_none {b} {old} {new} closed is = subst (λ (a : Bool). EndsOptions a [] old new) (sym closed) (record { puts = none is })

pub options_all : {slots : List Slot} {old new : Log} → EndsOptions false slots old new → PutsMember (options_slot slots) old new
unfolding options_put
options_all ends = record { puts = ends.puts }

pub option_absent : (b : Bool) (k : List ℕ) (old new : Log) → new ≡ old → PutsOption b (k, None) b old new
option_absent b k old new is = λ slots last ends. record { puts = same (rest-none b k slots) (subst (λ (l : Log). ChangesWritten (options_put b slots) l last) is ends.puts) }

pub option_put : (b : Bool) (k t : List ℕ) (old first new : Log) → Opens b old first → PutsMember (k, Some t) first new → PutsOption b (k, Some t) true old new
option_put true k t old first new opens one = λ slots last ends.
    record { puts = same (rest-open k t slots) (followed (subst (λ (l : Log). ChangesWritten (slot_put (k, Some t)) l new) opens one.puts) ends.puts) }
option_put false k t old first new opens one = λ slots last ends.
    let begun = followed (key_sent (codes "options") opens.1) (event_put opens.0 first (map_begins None) begin_object refl opens.2) in
    record { puts = same (rest-some k t slots) (followed (followed begun one.puts) ends.puts) }

-- the same option, where its value is known by another name
pub optioned : {b : Bool} {k : List ℕ} {v w : Option (List ℕ)} {slots : List Slot} {old last : Log} → v ≡ w → EndsOptions b ((k, v) ∷ slots) old last → EndsOptions b ((k, w) ∷ slots) old last
optioned {b} {k} {v} {w} {slots} {old} {last} is ends = subst (λ (o : Option (List ℕ)). EndsOptions b ((k, o) ∷ slots) old last) is ends

pub option_map-option_map : {A B C : Type 0} (f : B → C) (g : A → B) (o : Option A) → option_map (λ x. f (g x)) o ≡ option_map f (option_map g o)
option_map-option_map f g None = refl
option_map-option_map f g (Some x) = refl
