-- Messages with those nested in them, level by level.
use Rattle.std.proofs.Common.{◌≡◌, ℕ, ◌+◌, ◌<◌, ◌≤◌, List, [], ◌∷◌, ◌++◌, None, refl, sym, ap, ◌∙◌, subst, map, take, get_or, length, take_all, codes}
use Rattle.std.proofs.lemmas.List.{take_more}
use Rattle.proto_descriptors_json.specs.Common.{message_texts, array_if_any, PutsValue, PutsMember, PutsMembers, PutsValues}
use Rattle.proto_descriptors_json.specs.MessageText.{tree_text, level_text, before_nested, after_nested}
use Rattle.proto_descriptors_json.proofs.Sending.{value_more, any_sent, object_sent, both, more}
use Rattle.serde.specs.Event.{Log, Logs, seq_begins, seq_ends, map_begins, map_ends, field_key}
use Rattle.serde.specs.declared.name.Case.TheVariants.{AsIs}
use Rattle.proto_descriptors.specs.Views.{MessageTree, messages_of, message_step, descriptor_tree, messages_desc}
use Rattle.proto_descriptors.specs.declared.message.MessageDescriptor.{MessageDescriptor, out-MessageDescriptor}
use Rattle.proto_descriptors.specs.declared.message.MessageDescriptor.TheFolds.{fold_out-MessageDescriptor}

pub message_texts-of : (ts : List MessageTree) → message_texts (messages_of ts) ≡ map tree_text ts
message_texts-of [] = refl
message_texts-of (t ∷ ts) = ap (λ texts. tree_text t ∷ texts) (message_texts-of ts)

pub map-push : {A B : Type 0} (f : A → B) (xs : List A) (x : A) → map f (xs ++ x ∷ []) ≡ map f xs ++ f x ∷ []
map-push f [] x = refl
map-push f (y ∷ xs) x = ap (λ ys. f y ∷ ys) (map-push f xs x)

-- one message more, behind the others
pub message_texts-push : (ms : List MessageDescriptor) (m : MessageDescriptor) → message_texts (messages_desc (ms ++ m ∷ [])) ≡ message_texts (messages_desc ms) ++ tree_text (descriptor_tree m) ∷ []
message_texts-push ms m =
    message_texts-of (map descriptor_tree (ms ++ m ∷ []))
    ∙ ap (map tree_text) (map-push descriptor_tree ms m)
    ∙ map-push tree_text (map descriptor_tree ms) (descriptor_tree m)
    ∙ ap (λ (texts : List (List ℕ)). texts ++ tree_text (descriptor_tree m) ∷ []) (sym (message_texts-of (map descriptor_tree ms)))

-- a message's text is that of its own level, round those nested in it
pub tree_text-level : (m : MessageDescriptor) → tree_text (descriptor_tree m) ≡ level_text m (message_texts (messages_desc (out-MessageDescriptor m).nested_type.items))
tree_text-level m = ap tree_text (fold_out-MessageDescriptor MessageTree message_step m)

-- a message, its members before and behind those nested in it
pub level_sent : (m : MessageDescriptor) {old first mid later last new : Log} → Logs old first (map_begins None) → PutsMembers (before_nested m) first mid
    → PutsMember (codes "nestedType", array_if_any (message_texts (messages_desc (out-MessageDescriptor m).nested_type.items))) mid later → PutsMembers (after_nested m) later last
    → Logs last new map_ends → PutsValue (tree_text (descriptor_tree m)) old new
level_sent m {old} {first} {mid} {later} {last} {new} begins before nested after ends =
    subst (λ text. PutsValue text old new) (sym (tree_text-level m)) (object_sent _ begins (both before (more nested after)) ends)

-- one message more in a list
pub message_more : (all : List MessageDescriptor) (i : ℕ) (m : MessageDescriptor) {old mid new : Log} → i < length all → m ≡ get_or all i m
    → PutsValues (message_texts (messages_desc (take i all))) old mid → PutsValue (tree_text (descriptor_tree m)) mid new → PutsValues (message_texts (messages_desc (take (i + 1) all))) old new
message_more all i m {old} {mid} {new} lt is before one =
    let next : take i all ++ m ∷ [] ≡ take (i + 1) all = ap (λ (x : MessageDescriptor). take i all ++ x ∷ []) is ∙ sym (take_more all i m lt) in
    subst (λ (texts : List (List ℕ)). PutsValues texts old new) (sym (message_texts-push (take i all) m) ∙ ap (λ (ms : List MessageDescriptor). message_texts (messages_desc ms)) next) (value_more before one)

some_is_no_none : {t : List ℕ} {ts : List (List ℕ)} → t ∷ ts ≡ [] → ⊥
some_is_no_none h = cc

-- the list of all messages
pub messages_sent : (all : List MessageDescriptor) (i : ℕ) (k : List ℕ) (mid : Log) {old first last new : Log} → (all ≡ [] → ⊥) → length all ≤ i → Logs old mid (field_key k AsIs) → Logs mid first (seq_begins None)
    → PutsValues (message_texts (messages_desc (take i all))) first last → Logs last new seq_ends → PutsMember (k, array_if_any (message_texts (messages_desc all))) old new
messages_sent [] i k mid some past named begins values ends = absurd (some refl)
messages_sent (m ∷ ms) i k mid {first = first} {last = last} some past named begins values ends =
    any_sent k mid _ (λ none. some_is_no_none none) named begins (subst (λ (xs : List MessageDescriptor). PutsValues (message_texts (messages_desc xs)) first last) (take_all i (m ∷ ms) past) values) ends
