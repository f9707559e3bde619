-- The compact text of a simple value (rising keys, natural numbers, UTF-8) reads back as the value, is UTF-8, and has no line feed.
use Rattle.std.proofs.Common.{◌≡◌, ◌≢◌, ℕ, zero, suc, ◌+◌, ◌%◌, ◌^◌, ◌<◌, ◌≤◌, max, List, [], ◌∷◌, Bool, true, false, not, Some, option_map, option_and_then, inl, inr, refl, sym, ap, ap₂, ◌∙◌, subst, arith, Greater, nat_cmp, IsUtf8, append-nil, ◌&&◌, ◌==◌, decimal, true≢false}
use Rattle.proto_base.proofs.Common.{⊤, list_all, slice_cmp, and_parts, cases_lt, cases_eq, IsUtf8-append, IsUtf8-nil, IsUtf8-from_ascii, IsAscii-decimal, decimal_by_steps, All-nil, All-cons, All-append}
use Rattle.json.specs.Json as json
use Rattle.json.specs.Print.{escape_byte, escape, quoted}
use Rattle.json.specs.Tree as tree
use Rattle.json.specs.Tree.{json_tokens, HasNumbers, ItemsHaveNumbers, MembersHaveNumbers}
use Rattle.json.proofs.Printed.Trees.{value-json_tokens, ArePrintable-json_tokens}
use Rattle.json.proofs.Printed.Tokens.{tokens-print}
use Rattle.json.specs.Lex.{tokens}
use Rattle.json.proofs.Printed.Decimals.{IsNumber-decimal}
use Rattle.json.proofs.Printed.Strings.{escape_byte_plain}
use Rattle.json.proofs.Printed.Utf8.{IsUtf8-quoted, IsUtf8-are_ascii, are_ascii}
use Rattle.serde_json.specs.Data.{unsigned, negative, float, Data, null, boolean, number, string, array, object, Items, no_items, item, Members, no_members, member, put, depth, items_depth, members_depth}
use Rattle.serde_json.specs.Read.{of_json, of_items, of_members}
use Rattle.serde_json.specs.Written.{comma_if, items_text, members_text, outline, items_outline, members_outline, compact_text}
use Rattle.serde_json.proofs.Numbers.{number_of-decimal}
use Rattle.serde_json.proofs.Texts.{print-outline}
use Rattle.proto_journal_records.specs.Journals.{HasNoFeed}

-- the key is above each key of the members
abbrev pub IsAbove : List ℕ → Members → Type 0
IsAbove k no_members = ⊤
IsAbove k (member l d ms) = (slice_cmp nat_cmp k l ≡ Greater) × IsAbove k ms

-- the members with one more at the end
abbrev pub with_last : Members → List ℕ → Data → Members
with_last no_members k d = member k d no_members
with_last (member l e ms) k d = member l e (with_last ms k d)

-- each key is above those before it, where these were found before
abbrev pub KeysRise : Members → Members → Type 0
KeysRise found no_members = ⊤
KeysRise found (member k d ms) = IsAbove k found × KeysRise (with_last found k d) ms

abbrev joined : Members → Members → Members
joined no_members ms = ms
joined (member l e es) ms = member l e (joined es ms)

abbrev mutual
  pub IsSimple : Data → Type 0
  IsSimple null = ⊤
  IsSimple (boolean b) = ⊤
  IsSimple (number (unsigned n)) = n < 2 ^ 64
  IsSimple (number (negative z)) = ⊥
  IsSimple (number (float x)) = ⊥
  IsSimple (string s) = IsUtf8 s
  IsSimple (array ds) = AreSimple ds
  IsSimple (object ms) = KeysRise no_members ms × HasSimple ms

  pub AreSimple : Items → Type 0
  AreSimple no_items = ⊤
  AreSimple (item d ds) = IsSimple d × AreSimple ds

  pub HasSimple : Members → Type 0
  HasSimple no_members = ⊤
  HasSimple (member k d ms) = IsSimple d × HasSimple ms × IsUtf8 k

-- ---- it reads back, and its outline tells the value

put_above : (k : List ℕ) (d : Data) (found : Members) → IsAbove k found → put k d found ≡ with_last found k d
put_above k d no_members h = refl
put_above k d (member l e ms) h = rw (h.0) (ap (member l e) (put_above k d ms h.1))

joined-with_last : (found : Members) (k : List ℕ) (d : Data) (ms : Members) → joined (with_last found k d) ms ≡ joined found (member k d ms)
joined-with_last no_members k d ms = refl
joined-with_last (member l e es) k d ms = ap (member l e) (joined-with_last es k d ms)

joined-none : (found : Members) → joined found no_members ≡ found
joined-none no_members = refl
joined-none (member l e es) = ap (member l e) (joined-none es)

mutual
  pub reads : (d : Data) → IsSimple d → of_json (outline d) ≡ Some d
  reads null h = refl
  reads (boolean b) h = refl
  reads (number (unsigned n)) h = ap (option_map number) (number_of-decimal n h)
  reads (number (negative z)) h = absurd h
  reads (number (float x)) h = absurd h
  reads (string s) h = refl
  reads (array ds) h = ap (option_map array) (reads_items ds h)
  reads (object ms) h = ap (option_map object) (reads_members ms no_members h.0 h.1)

  reads_items : (ds : Items) → AreSimple ds → of_items (items_outline ds) ≡ Some ds
  reads_items no_items h = refl
  reads_items (item d ds) h =
      ap (option_and_then (λ e. option_map (item e) (of_items (items_outline ds)))) (reads d h.0) ∙ ap (option_map (item d)) (reads_items ds h.1)

  reads_members : (ms found : Members) → KeysRise found ms → HasSimple ms → of_members (members_outline ms) found ≡ Some (joined found ms)
  reads_members no_members found r h = ap Some (sym (joined-none found))
  reads_members (member k d ms) found r h =
      ap (option_and_then (λ e. of_members (members_outline ms) (put k e found))) (reads d h.0)
      ∙ ap (of_members (members_outline ms)) (put_above k d found r.0)
      ∙ reads_members ms (with_last found k d) r.1 h.1
      ∙ ap Some (joined-with_last found k d ms)

mutual
  numbers : (d : Data) → IsSimple d → HasNumbers (outline d)
  numbers null h = tt
  numbers (boolean b) h = tt
  numbers (number (unsigned n)) h = IsNumber-decimal n h
  numbers (number (negative z)) h = absurd h
  numbers (number (float x)) h = absurd h
  numbers (string s) h = tt
  numbers (array ds) h = numbers_items ds h
  numbers (object ms) h = numbers_members ms h.1

  numbers_items : (ds : Items) → AreSimple ds → ItemsHaveNumbers (items_outline ds)
  numbers_items no_items h = tt
  numbers_items (item d ds) h = (numbers d h.0, numbers_items ds h.1)

  numbers_members : (ms : Members) → HasSimple ms → MembersHaveNumbers (members_outline ms)
  numbers_members no_members h = tt
  numbers_members (member k d ms) h = (numbers d h.0, numbers_members ms h.1)

mutual
  deep : (d : Data) → tree.depth (outline d) ≡ depth d
  deep null = refl
  deep (boolean b) = refl
  deep (number n) = refl
  deep (string s) = refl
  deep (array ds) = ap suc (deep_items ds)
  deep (object ms) = ap suc (deep_members ms)

  deep_items : (ds : Items) → tree.items_depth (items_outline ds) ≡ items_depth ds
  deep_items no_items = refl
  deep_items (item d ds) = ap₂ max (deep d) (deep_items ds)

  deep_members : (ms : Members) → tree.members_depth (members_outline ms) ≡ members_depth ms
  deep_members no_members = refl
  deep_members (member k d ms) = ap₂ max (deep d) (deep_members ms)

pub document-compact_text : (d : Data) → IsSimple d → depth d ≤ 128 → json.document (compact_text d) ≡ Some (outline d)
document-compact_text d h shallow =
    let same : tokens (compact_text d) ≡ json_tokens (outline d) =
    ap tokens (sym (print-outline d)) ∙ tokens-print (json_tokens (outline d)) (ArePrintable-json_tokens (outline d) (numbers d h)) in
    ap (option_and_then (λ p. json.if_last p.0 p.1)) (ap (json.value 128) (same ∙ sym (append-nil _)) ∙ value-json_tokens (outline d) 128 [] (subst (λ n. n ≤ 128) (sym (deep d)) shallow))

-- ---- it is UTF-8

utf8_decimal : (n : ℕ) → n < 2 ^ 64 → IsUtf8 (decimal n)
utf8_decimal n h = IsUtf8-from_ascii _ (IsAscii-decimal n h)

ascii_before : (x : ℕ) (xs : List ℕ) → are_ascii (x ∷ []) ≡ true → IsUtf8 xs → IsUtf8 (x ∷ xs)
ascii_before x xs a h = IsUtf8-append (x ∷ []) xs (IsUtf8-are_ascii (x ∷ []) a) h

comma_utf8 : (later : Bool) → IsUtf8 (comma_if later)
comma_utf8 true = IsUtf8-are_ascii (44 ∷ []) refl
comma_utf8 false = IsUtf8-nil

mutual
  pub utf8 : (d : Data) → IsSimple d → IsUtf8 (compact_text d)
  utf8 null h = IsUtf8-are_ascii _ refl
  utf8 (boolean true) h = IsUtf8-are_ascii _ refl
  utf8 (boolean false) h = IsUtf8-are_ascii _ refl
  utf8 (number (unsigned n)) h = utf8_decimal n h
  utf8 (number (negative z)) h = absurd h
  utf8 (number (float x)) h = absurd h
  utf8 (string s) h = IsUtf8-quoted s h
  utf8 (array ds) h = ascii_before 91 _ refl (utf8_items false ds h)
  utf8 (object ms) h = ascii_before 123 _ refl (utf8_members false ms h.1)

  utf8_items : (later : Bool) (ds : Items) → AreSimple ds → IsUtf8 (items_text later ds)
  utf8_items later no_items h = IsUtf8-are_ascii _ refl
  utf8_items later (item d ds) h = IsUtf8-append (comma_if later) _ (comma_utf8 later) (IsUtf8-append (compact_text d) _ (utf8 d h.0) (utf8_items true ds h.1))

  utf8_members : (later : Bool) (ms : Members) → HasSimple ms → IsUtf8 (members_text later ms)
  utf8_members later no_members h = IsUtf8-are_ascii _ refl
  utf8_members later (member k d ms) h =
      IsUtf8-append (comma_if later) _ (comma_utf8 later)
      (IsUtf8-append (quoted k) _ (IsUtf8-quoted k h.2) (ascii_before 58 _ refl (IsUtf8-append (compact_text d) _ (utf8 d h.0) (utf8_members true ms h.1))))

-- ---- it has no line feed

abbrev is_no_feed : ℕ → Bool
is_no_feed b = not (b == 10)

no_feed_by_test : (xs : List ℕ) → list_all is_no_feed xs ≡ true → HasNoFeed xs
no_feed_by_test [] h = All-nil (λ b. b ≢ 10)
no_feed_by_test (x ∷ xs) h =
    let p = and_parts (is_no_feed x) (list_all is_no_feed xs) h in
    All-cons (λ b. b ≢ 10) x xs (λ e. true≢false (sym p.0 ∙ ap is_no_feed e)) (no_feed_by_test xs p.1)

-- the escapes of the bytes below n have none
abbrev escapes_below : ℕ → Bool
escapes_below zero = true
escapes_below (suc n) = list_all is_no_feed (escape_byte n) && escapes_below n

escape_below : (n : ℕ) → escapes_below n ≡ true → (x : ℕ) → x < n → list_all is_no_feed (escape_byte x) ≡ true
escape_below zero e x h = absurd (omega arith)
escape_below (suc n) e x h =
    let p = and_parts (list_all is_no_feed (escape_byte n)) (escapes_below n) e in
    elim (cases_eq x n) [ inl same ↦ rw same p.0 | inr other ↦ escape_below n p.1 x (omega arith) ]

all_below : escapes_below 128 ≡ true
unfolding escape_byte
all_below = refl

no_feed_byte : (x : ℕ) → HasNoFeed (escape_byte x)
no_feed_byte x = elim (cases_lt x 128) [
  | inl small ↦ no_feed_by_test (escape_byte x) (escape_below 128 all_below x small)
  | inr big ↦
      subst HasNoFeed (sym (escape_byte_plain x (λ e. omega arith) (λ e. omega arith) (omega arith)))
      (All-cons (λ b. b ≢ 10) x [] (λ e. omega arith) (All-nil (λ b. b ≢ 10)))
]

no_feed_escape : (s : List ℕ) → HasNoFeed (escape s)
no_feed_escape [] = All-nil (λ b. b ≢ 10)
no_feed_escape (x ∷ s) = All-append (λ b. b ≢ 10) (escape_byte x) (escape s) (no_feed_byte x) (no_feed_escape s)

no_feed_before : (x : ℕ) (xs : List ℕ) → is_no_feed x ≡ true → HasNoFeed xs → HasNoFeed (x ∷ xs)
no_feed_before x xs a h = All-cons (λ b. b ≢ 10) x xs (λ e. true≢false (sym a ∙ ap is_no_feed e)) h

no_feed_quoted : (s : List ℕ) → HasNoFeed (quoted s)
no_feed_quoted s = no_feed_before 34 _ refl (All-append (λ b. b ≢ 10) (escape s) (34 ∷ []) (no_feed_escape s) (no_feed_by_test (34 ∷ []) refl))

no_feed_decimal : (n : ℕ) → n < 2 ^ 64 → HasNoFeed (decimal n)
no_feed_decimal n h =
    decimal_by_steps (λ k ds. HasNoFeed ds)
    (λ k small. All-cons (λ b. b ≢ 10) (48 + k) [] (λ e. omega arith) (All-nil (λ b. b ≢ 10)))
    (λ k ds large before. All-append (λ b. b ≢ 10) ds ((48 + k % 10) ∷ []) before (All-cons (λ b. b ≢ 10) (48 + k % 10) [] (λ e. omega arith) (All-nil (λ b. b ≢ 10))))
    n h

no_feed_comma : (later : Bool) → HasNoFeed (comma_if later)
no_feed_comma true = no_feed_by_test (44 ∷ []) refl
no_feed_comma false = All-nil (λ b. b ≢ 10)

mutual
  pub no_feed : (d : Data) → IsSimple d → HasNoFeed (compact_text d)
  no_feed null h = no_feed_by_test (compact_text null) refl
  no_feed (boolean true) h = no_feed_by_test (compact_text (boolean true)) refl
  no_feed (boolean false) h = no_feed_by_test (compact_text (boolean false)) refl
  no_feed (number (unsigned n)) h = no_feed_decimal n h
  no_feed (number (negative z)) h = absurd h
  no_feed (number (float x)) h = absurd h
  no_feed (string s) h = no_feed_quoted s
  no_feed (array ds) h = no_feed_before 91 _ refl (no_feed_items false ds h)
  no_feed (object ms) h = no_feed_before 123 _ refl (no_feed_members false ms h.1)

  no_feed_items : (later : Bool) (ds : Items) → AreSimple ds → HasNoFeed (items_text later ds)
  no_feed_items later no_items h = no_feed_by_test (93 ∷ []) refl
  no_feed_items later (item d ds) h = All-append (λ b. b ≢ 10) (comma_if later) _ (no_feed_comma later) (All-append (λ b. b ≢ 10) (compact_text d) _ (no_feed d h.0) (no_feed_items true ds h.1))

  no_feed_members : (later : Bool) (ms : Members) → HasSimple ms → HasNoFeed (members_text later ms)
  no_feed_members later no_members h = no_feed_by_test (125 ∷ []) refl
  no_feed_members later (member k d ms) h =
      All-append (λ b. b ≢ 10) (comma_if later) _ (no_feed_comma later)
      (All-append (λ b. b ≢ 10) (quoted k) _ (no_feed_quoted k) (no_feed_before 58 _ refl (All-append (λ b. b ≢ 10) (compact_text d) _ (no_feed d h.0) (no_feed_members true ms h.1))))
