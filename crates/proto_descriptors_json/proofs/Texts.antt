-- The text that `serde_json` gives for events that are known.
use Rattle.std.proofs.Common.{◌≡◌, ℕ, List, [], ◌∷◌, ◌++◌, false, Option, Some, None, refl, sym, ap, ◌∙◌, append_assoc, arith, inl, inr, append-nil, option_and_then, decimal}
use Rattle.proto_base.proofs.Common.{common_steps, signed_decimal}
use Rattle.serde.specs.Spelling.{spelled}
use Rattle.serde.specs.declared.name.NameKind.TheVariants.{Field}
use Rattle.json.specs.Lex.{tokens}
use Rattle.json.specs.Print.{print, print_from, separator, token_text, ends}
use Rattle.json.specs.Token as json
use Rattle.json.specs.Token.{Token}
use Rattle.proto_descriptors_json.specs.Written.{Written, nothing_written, event_token, token_put, events_put, written_by, value_put, PutsValue}
use Rattle.serde.specs.Event.{Event, Log, boolean, signed, unsigned, text, seq_begins, seq_ends, map_begins, map_ends, field_key}
use Rattle.serde_json.specs.Sent.{State, start, with, Takes, TakesAll, IsTextOf, bool_token, number_token, text_token}
use Rattle.serde_json.proofs.FreeTexts.{tokens_by}

-- no key is due, and no object is without braces
abbrev IsPlain : State → Type 0
IsPlain s = (s.at_key ≡ false) × (s.flattens ≡ false) × (s.flat ≡ [])

abbrev Added : State → Option Token → State → Type 0
Added old None new = Unit {0}
Added old (Some t) new = IsPlain new × (new.tokens ≡ old.tokens ++ t ∷ [])

added : (s m : State) (t u : Token) → IsPlain s → m ≡ with s (u ∷ []) → u ≡ t → Added s (Some t) m
added s m t u plain is same = (
  (ap (λ x. x.at_key) is ∙ plain.0, ap (λ x. x.flattens) is ∙ plain.1, ap (λ x. x.flat) is ∙ plain.2),
  ap (λ x. x.tokens) is ∙ ap (λ x. s.tokens ++ x ∷ []) same,
)

map_begun : (n : Option ℕ) (s m : State) → IsPlain s → Takes s (map_begins n) m → Added s (Some json.begin_object) m
map_begun n s m plain step = grind (arith, common_steps, step.1)

map_ended : (s m : State) → IsPlain s → Takes s map_ends m → Added s (Some json.end_object) m
map_ended s m plain step = elim step [
  | inl flat ↦ absurd (grind (arith, common_steps, flat.1, plain.2))
  | inr braced ↦ grind (arith, common_steps, braced.1)
]

one_added : (e : Event) (s m : State) → IsPlain s → Takes s e m → Added s (event_token e) m
one_added (boolean b) s m plain step = added s m (json.boolean b) _ plain step.1 (ap (λ k. bool_token k b) plain.0)
one_added (signed z) s m plain step = added s m (json.number (signed_decimal z)) _ plain step.1.1 (ap (λ k. number_token k (signed_decimal z)) plain.0)
one_added (unsigned n) s m plain step = added s m (json.number (decimal n)) _ plain step.1.1 (ap (λ k. number_token k (decimal n)) plain.0)
one_added (text t) s m plain step = added s m (json.string t) _ plain step.1 (ap (λ k. text_token k t) plain.0)
one_added (seq_begins n) s m plain step = added s m json.begin_array _ plain step.1.1 refl
one_added seq_ends s m plain step = added s m json.end_array _ plain step refl
one_added (map_begins n) s m plain step = map_begun n s m plain step
one_added map_ends s m plain step = map_ended s m plain step
one_added (field_key name case) s m plain step = added s m (json.key (spelled case Field name)) _ plain step refl
one_added e s m plain step = tt

abbrev with_token : Option Token → List Token → List Token
with_token None ts = ts
with_token (Some t) ts = t ∷ ts

abbrev tokens_from : List Event → List Token
tokens_from [] = []
tokens_from (e ∷ es) = with_token (event_token e) (tokens_from es)

none_is_no_some : {A : Type 0} {x : A} → None ≡ Some x → ⊥
none_is_no_some h = cc

lead_on : (o : Option Token) (f : Token → Option Written) (v : Written) (s m last : State) (rest : List Token) → option_and_then f o ≡ Some v → Added s o m
    → ((t : Token) → f t ≡ Some v → IsPlain m → last.tokens ≡ m.tokens ++ rest) → last.tokens ≡ s.tokens ++ with_token o rest
lead_on None f v s m last rest put step on = absurd (none_is_no_some put)
lead_on (Some t) f v s m last rest put step on = on t put step.0 ∙ ap (λ ts. ts ++ rest) step.1 ∙ append_assoc s.tokens (t ∷ []) rest

tokens_are : (es : List Event) (w v : Written) (s last : State) → events_put w es ≡ Some v → IsPlain s → TakesAll s es last → last.tokens ≡ s.tokens ++ tokens_from es
unfolding events_put
tokens_are [] w v s last put plain run = ap (λ x. x.tokens) run ∙ sym (append-nil s.tokens)
tokens_are (e ∷ es) w v s last put plain run =
    lead_on (event_token e) (λ t. events_put (token_put t w) es) v s run.0 last (tokens_from es) put (one_added e s run.0 plain run.1)
    (λ t put plain. tokens_are es (token_put t w) v run.0 last put plain run.2)

print_on : (o : Option Token) (f : Token → Option Written) (w v : Written) (rest : List Token) → option_and_then f o ≡ Some v
    → ((t : Token) → f t ≡ Some v → (w.bytes ++ (separator w.has_ended t ++ token_text t)) ++ print_from (ends t) rest ≡ v.bytes) → w.bytes ++ print_from w.has_ended (with_token o rest) ≡ v.bytes
unfolding print_from
print_on None f w v rest put on = absurd (none_is_no_some put)
print_on (Some t) f w v rest put on =
    let first = separator w.has_ended t in
    let behind = print_from (ends t) rest in
    sym (append_assoc w.bytes (first ++ token_text t) behind ∙ ap (λ x. w.bytes ++ x) (append_assoc first (token_text t) behind)) ∙ on t put

some_is : (w v : Written) → Some w ≡ Some v → w ≡ v
some_is w v h = cc

print_is : (es : List Event) (w v : Written) → events_put w es ≡ Some v → w.bytes ++ print_from w.has_ended (tokens_from es) ≡ v.bytes
unfolding events_put print_from
print_is [] w v put = append-nil w.bytes ∙ ap (λ x. x.bytes) (some_is w v put)
print_is (e ∷ es) w v put = print_on (event_token e) (λ t. events_put (token_put t w) es) w v (tokens_from es) put (λ t put. print_is es (token_put t w) v put)

known_text : (log : Log) (v : Written) (bytes : List ℕ) → written_by log ≡ Some v → IsTextOf log bytes → bytes ≡ v.bytes
unfolding written_by
known_text None v bytes known h = absurd (none_is_no_some known)
known_text (Some es) v bytes known h =
    let same = tokens_by false es (Some es) (tokens bytes) (tokens_from es) refl h.0 (λ s run. tokens_are es nothing_written v (start false) s known (refl, refl, refl) run) in
    h.1 ∙ ap print same ∙ print_is es nothing_written v known

-- the text of one value
pub text_of_value : (t bytes : List ℕ) (log : Log) → PutsValue t (Some []) log → IsTextOf log bytes → bytes ≡ t
unfolding written_by events_put value_put
text_of_value t bytes log puts h = known_text log (value_put t nothing_written) bytes (puts.puts.leads nothing_written refl) h
