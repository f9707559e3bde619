-- The tokens that writing a record adds.
use Rattle.std.proofs.Common.{◌≡◌, ℕ, ◌+◌, ◌<◌, List, [], ◌∷◌, ◌++◌, map, take, length, get_or, refl, sym, ap, ◌∙◌, append_assoc, append-nil, Ok, Err, Result}
use Rattle.std.specs.Prelude.{OnOk}
use Rattle.proto_base.proofs.Common.{map-append, take_more}
use Rattle.json.specs.Token.{Token, begin_array, end_array}
use Rattle.json.specs.Tree.{items_tokens}
use Rattle.json.specs.Written.{Written, Writes}
use Rattle.serde_json.specs.Data.{Data, array}
use Rattle.serde_json.specs.View.{items_of}
use Rattle.serde_json.specs.Written.{items_outline}
use Rattle.proto_journal_records.specs.DataTokens.{AddsTokens, data_tokens}

-- the tokens of data, one after another
abbrev pub all_tokens : List Data → List Token
all_tokens [] = []
all_tokens (d ∷ ds) = data_tokens d ++ all_tokens ds

all_more : (ds : List Data) (d : Data) → all_tokens (ds ++ d ∷ []) ≡ all_tokens ds ++ data_tokens d
all_more [] d = append-nil (data_tokens d)
all_more (e ∷ ds) d = ap (λ t. data_tokens e ++ t) (all_more ds d) ∙ sym (append_assoc (data_tokens e) (all_tokens ds) (data_tokens d))

closed : (ds : List Data) → items_tokens (items_outline (items_of ds)) ≡ all_tokens ds ++ end_array ∷ []
closed [] = refl
closed (d ∷ ds) = ap (λ t. data_tokens d ++ t) (closed ds) ∙ sym (append_assoc (data_tokens d) (all_tokens ds) (end_array ∷ []))

pub adds_one : {E : Type 0} {r : Result (Unit {0}) E} {x : Unit {0}} {a b : Written} {t : Token} → Writes r a b t → r ≡ Ok x → AddsTokens a b (t ∷ [])
adds_one {r = Ok y} w is = record { before = w.room.0; tokens = w.ok }
adds_one {r = Err e} w is = cc

pub adds_both : {a b c : Written} {xs ys : List Token} → AddsTokens a b xs → AddsTokens b c ys → AddsTokens a c (xs ++ ys)
adds_both {a = a} {xs = xs} {ys = ys} front back = record { before = back.before ∙ front.before; tokens = back.tokens ∙ ap (λ t. t ++ ys) front.tokens ∙ append_assoc a.tokens xs ys }

pub adds_then : {E : Type 0} (r : Result (Unit {0}) E) {a b : Written} {xs : List Token} (c : Written) (ys : List Token) → AddsTokens a b xs → OnOk r (AddsTokens b c ys) → OnOk r (AddsTokens a c (xs ++ ys))
adds_then (Ok x) c ys front back = adds_both front back
adds_then (Err e) c ys front back = tt

-- an array is written up to one item more
pub adds_item : (a b c : Written) (ds es : List Data) (d : Data) → AddsTokens a b (begin_array ∷ all_tokens ds) → AddsTokens b c (data_tokens d) → es ≡ ds ++ d ∷ [] → AddsTokens a c (begin_array ∷ all_tokens es)
adds_item a b c ds es d front here e = record {
  before = here.before ∙ front.before;
  tokens = here.tokens ∙ ap (λ t. t ++ data_tokens d) front.tokens ∙ append_assoc a.tokens (begin_array ∷ all_tokens ds) (data_tokens d)
      ∙ ap (λ t. a.tokens ++ (begin_array ∷ t)) (sym (all_more ds d) ∙ ap all_tokens (sym e));
}

-- and to its end
pub adds_array : {E : Type 0} (r : Result (Unit {0}) E) (a b c : Written) (ds es : List Data) → AddsTokens a b (begin_array ∷ all_tokens ds) → ds ≡ es → Writes r b c end_array → OnOk r (AddsTokens a c (data_tokens (array (items_of es))))
adds_array (Ok x) a b c ds es front e end = record {
  before = end.room.0 ∙ front.before;
  tokens = end.ok ∙ ap (λ t. t ++ end_array ∷ []) front.tokens ∙ append_assoc a.tokens (begin_array ∷ all_tokens ds) (end_array ∷ [])
      ∙ ap (λ t. a.tokens ++ (begin_array ∷ t)) (sym (closed ds) ∙ ap (λ l. items_tokens (items_outline (items_of l))) e);
}
adds_array (Err x) a b c ds es front e end = tt

-- what is made of one thing more
pub made_more : {X Y : Type 0} (f : X → Y) (g : Y → Data) (xs : List X) (i : ℕ) (x : X) → i < length xs → x ≡ get_or xs i x
    → map g (map f (take (i + 1) xs)) ≡ map g (map f (take i xs)) ++ g (f x) ∷ []
made_more {X} f g xs i x lt is =
    ap (λ (ys : List X). map g (map f ys)) (take_more xs i x lt ∙ ap (λ (y : X). take i xs ++ y ∷ []) (sym is))
    ∙ ap (map g) (map-append f (take i xs) (x ∷ [])) ∙ map-append g (map f (take i xs)) (f x ∷ [])

pub if_ok : {T E P : Type 0} (r : Result T E) → ((x : T) → r ≡ Ok x → P) → OnOk r P
if_ok (Ok x) f = f x refl
if_ok (Err e) f = tt

pub on_ok : {T E P : Type 0} (r : Result T E) → P → OnOk r P
on_ok (Ok x) p = p
on_ok (Err e) p = tt
