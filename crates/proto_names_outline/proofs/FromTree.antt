-- The tokens of a tree stand in order, so what it declares is spread over them, and each reference stands in a declaration (for the crates above).
use Rattle.std.proofs.Common.{◌≡◌, ◌≢◌, ℕ, suc, get_or, flat_map, Option, Some, None, ◌+◌, ◌<◌, ◌≤◌, true, List, [], ◌∷◌, ◌++◌, length, refl, sym, ◌∙◌, ap, subst, inl, inr, ◌⊎◌, arith, map, length-append, Contains, All, true≢false}
use Rattle.proto_base.proofs.Common.{Contains-append_left, Contains-append_right, Contains-append_cases, Contains-get_or, contains_head, contains_later, contains_cases}
use Rattle.proto_tree.specs.declared.class.Class.{Class}
use Rattle.proto_tree.specs.declared.class.Class.TheVariants as class
use Rattle.proto_tree.specs.declared.class.Expected.TheVariants as want
use Rattle.proto_tree.specs.declared.tree.Behind.{Behind}
use Rattle.proto_tree.specs.declared.tree.Separated.{Separated}
use Rattle.proto_tree.specs.declared.tree.FieldType.{FieldType}
use Rattle.proto_tree.specs.declared.tree.FieldType.TheVariants as field_type
use Rattle.proto_tree.specs.declared.tree.Field.{Field}
use Rattle.proto_tree.specs.declared.tree.MapField.{MapField}
use Rattle.proto_tree.specs.declared.tree.Package.{Package}
use Rattle.proto_tree.specs.declared.tree.Value.{Value}
use Rattle.proto_tree.specs.declared.tree.Reference.{Reference}
use Rattle.proto_tree.specs.declared.tree.Setting.{Setting}
use Rattle.proto_tree.specs.declared.tree.Setting.TheVariants as setting
use Rattle.proto_tree.specs.declared.tree.Settings.{Settings}
use Rattle.proto_tree.specs.declared.tree.Signature.{Signature}
use Rattle.proto_tree.specs.declared.piece.Statement.{Statement}
use Rattle.proto_tree.specs.declared.piece.Statement.TheVariants as statement
use Rattle.proto_tree.specs.declared.piece.Extending.{Extending}
use Rattle.proto_tree.specs.declared.piece.Heading.{Heading}
use Rattle.proto_tree.specs.declared.piece.Header.{Header}
use Rattle.proto_tree.specs.declared.piece.Header.TheVariants as header
use Rattle.proto_tree.specs.declared.context.Context.{Context}
use Rattle.proto_tree.specs.declared.context.Context.TheVariants as context
use Rattle.proto_tree.specs.declared.context.Kind.TheVariants as kind
use Rattle.proto_text.specs.Tokens.{Lexeme}
use Rattle.proto_tree.proofs.Common.{Mark, Fit, mark, one, name, only, flat_option, flat_all, flat_behind, flat_type, flat_settings, flat_separated, flat_package, flat_field, flat_map_field, flat_value, flat_signed, flat_method_type, flat_signature, flat_statement, flat_heading, flat_header, Tree, End, Leaf, Block, flat, allows, after, statement_kind, header_kind, IsWellFormed, Spells, dotted, classes_in}
use Rattle.proto_names_rules.specs.declared.kind.Kind.TheVariants.{Message, Service, Method}
use Rattle.proto_names_rules.specs.declared.wants.Wants.{Wants}
use Rattle.proto_names_rules.specs.declared.wants.Wants.TheVariants as wants
use Rattle.proto_names_rules.proofs.Common.{Source, Token, Used, Member, field, map_field, oneof, message, enum, service, extend, Members, no_members, member, Items, no_items, packaged, item, Placed, place, placed, all_placed, package_of, prefixes, items_placed, file_placed, Spans, AllSpan, Rises, ItemsSpan, IsGrown, prefix_whole, package_within}
use Rattle.proto_names_outline.specs.FromTree.{field_names, value_names, method_names, no_names, block_names, picked, add_statement, add_block, members_in, file_statement, file_block, items_in, option_uses, setting_uses, settings_uses, statement_uses, type_uses, used_as, signature_uses, header_uses, flat_uses, block_uses, member_uses, item_uses, file_names}
use Rattle.proto_base.specs.declared.profile.Profile.{Profile}

-- the indices of the marks are those from n on, in order
abbrev pub IsNumbered : ℕ → List Mark → Type 0
IsNumbered n [] = Unit {0}
IsNumbered n (m ∷ ms) = (m.at ≡ n) × IsNumbered (n + 1) ms

numbered_left : (n : ℕ) (xs ys : List Mark) → IsNumbered n (xs ++ ys) → IsNumbered n xs
numbered_left n [] ys h = tt
numbered_left n (x ∷ xs) ys h = (h.0, numbered_left (n + 1) xs ys h.1)

numbered_right : (n : ℕ) (xs ys : List Mark) → IsNumbered n (xs ++ ys) → IsNumbered (n + length xs) ys
numbered_right n [] ys h = let e : n ≡ n + 0 = omega arith in subst (λ k. IsNumbered k ys) e h
numbered_right n (x ∷ xs) ys h = let e : (n + 1) + length xs ≡ n + suc (length xs) = omega arith in subst (λ k. IsNumbered k ys) e (numbered_right (n + 1) xs ys h.1)

-- a mark's index is one of them
numbered_at : (n : ℕ) (xs : List Mark) → IsNumbered n xs → (m : Mark) → Contains xs m → (n ≤ m.at) × (m.at < n + length xs)
numbered_at n [] h m c = absurd (omega (arith, c.1))
numbered_at n (x ∷ xs) h m c = elim (contains_cases x m xs c) [
  | inl e ↦ let a : x.at ≡ m.at = ap (λ z. z.at) e in (omega (arith, h.0, a), omega (arith, h.0, a))
  | inr l ↦ let r = numbered_at (n + 1) xs h.1 m l in (omega (arith, r.0), omega (arith, r.1))
]

-- ---- marks of names

abbrev field_tail : Field → List Mark
field_tail f = one class.Equals f.equals ++ (one class.Number f.number ++ (flat_option flat_settings f.settings ++ one class.Semicolon f.semicolon))

field_mark : (f : Field) → Contains (flat_field f) (mark want.Name f.name)
field_mark f =
    Contains-append_right (flat_option (only want.Label) f.label) (flat_type f.kind ++ (name f.name ++ field_tail f)) (mark want.Name f.name)
    (Contains-append_right (flat_type f.kind) (name f.name ++ field_tail f) (mark want.Name f.name) (contains_head (mark want.Name f.name) (field_tail f)))

abbrev map_tail : MapField → List Mark
map_tail f = one class.Equals f.equals ++ (one class.Number f.number ++ (flat_option flat_settings f.settings ++ one class.Semicolon f.semicolon))

abbrev map_front : MapField → List Mark
map_front f = mark (want.One class.Map) f.keyword ∷ mark (want.One class.Less) f.open ∷ mark (want.One class.Scalar) f.key ∷ mark (want.One class.Comma) f.comma ∷ []

map_mark : (f : MapField) → Contains (flat_map_field f) (mark want.Name f.name)
map_mark f =
    Contains-append_right (map_front f) (flat_type f.value ++ (one class.Greater f.close ++ (name f.name ++ map_tail f))) (mark want.Name f.name)
    (Contains-append_right (flat_type f.value) (one class.Greater f.close ++ (name f.name ++ map_tail f)) (mark want.Name f.name)
    (Contains-append_right (one class.Greater f.close) (name f.name ++ map_tail f) (mark want.Name f.name) (contains_head (mark want.Name f.name) (map_tail f))))

value_mark : (v : Value) → Contains (flat_value v) (mark want.ValueName v.name)
value_mark v = contains_head (mark want.ValueName v.name) (one class.Equals v.equals ++ (flat_signed v.number ++ (flat_option flat_settings v.settings ++ one class.Semicolon v.semicolon)))

abbrev signature_tail : Signature → List Mark
signature_tail s = flat_method_type s.input ++ (one class.Returns s.returns ++ flat_method_type s.output)

signature_mark : (s : Signature) → Contains (flat_signature s) (mark want.Name s.name)
signature_mark s = Contains-append_right (one class.Rpc s.keyword) (name s.name ++ signature_tail s) (mark want.Name s.name) (contains_head (mark want.Name s.name) (signature_tail s))

heading_mark : (c : Class) (h : Heading) → Contains (flat_heading c h) (mark want.Name h.name)
heading_mark c h = Contains-append_right (one c h.keyword) (name h.name) (mark want.Name h.name) (contains_head (mark want.Name h.name) [])

-- a token that a statement gives is one of its marks
abbrev Gives : List ℕ → List Mark → Type 0
Gives names marks = (v : ℕ) → Contains names v → (m : Mark) × Contains marks m × (m.at ≡ v)

one_given : (x : ℕ) (marks : List Mark) (m : Mark) → Contains marks m → m.at ≡ x → Gives (x ∷ []) marks
one_given x marks m c e v cv = elim (contains_cases x v [] cv) [ inl q ↦ (m, c, e ∙ q) | inr n ↦ absurd (omega (arith, n.1)) ]

field_gives : (s : Statement) → Gives (field_names s) (flat_statement s)
field_gives (statement.Field f) = one_given f.name (flat_field f) (mark want.Name f.name) (field_mark f) refl
field_gives _ = λ v c. absurd (omega (arith, c.1))

value_gives : (s : Statement) → Gives (value_names s) (flat_statement s)
value_gives (statement.Value x) = one_given x.name (flat_value x) (mark want.ValueName x.name) (value_mark x) refl
value_gives _ = λ v c. absurd (omega (arith, c.1))

method_gives : (s : Statement) → Gives (method_names s) (flat_statement s)
method_gives (statement.Method x end) = one_given x.name (flat_statement (statement.Method x end)) (mark want.Name x.name) (Contains-append_left (flat_signature x) (one class.Semicolon end) (mark want.Name x.name) (signature_mark x)) refl
method_gives _ = λ v c. absurd (omega (arith, c.1))

no_gives : (h : Header) → Gives (no_names h) (flat_header h)
no_gives h = λ v c. absurd (omega (arith, c.1))

block_gives : (h : Header) → Gives (block_names h) (flat_header h)
block_gives (header.Method x) = one_given x.name (flat_signature x) (mark want.Name x.name) (signature_mark x) refl
block_gives _ = λ v c. absurd (omega (arith, c.1))

-- ---- blocks

record BlockParts (n : ℕ) (h : Header) (within rest : Tree) (whole : ℕ) : Type 0 where
  head : IsNumbered n (flat_header h)
  inner : IsNumbered (n + length (flat_header h) + 1) (flat within)
  behind : IsNumbered (n + length (flat_header h) + 1 + length (flat within) + 1) (flat rest)
  total : whole ≡ length (flat_header h) + 1 + length (flat within) + 1 + length (flat rest)

block_parts : (n : ℕ) (h : Header) (opens : ℕ) (within : Tree) (closes : ℕ) (rest : Tree) → IsNumbered n (flat (Block h opens within closes rest)) → BlockParts n h within rest (length (flat (Block h opens within closes rest)))
block_parts n h i within j rest num =
    let open' = flat_header h ++ one class.Open i in
    let after' = flat within ++ (one class.Close j ++ flat rest) in
    let first = numbered_left n (flat_header h ++ one class.Open i) (flat within ++ (one class.Close j ++ flat rest)) num in
    let behind = numbered_right n (flat_header h ++ one class.Open i) (flat within ++ (one class.Close j ++ flat rest)) num in
    let l1 = length-append (flat_header h) (one class.Open i) in
    let e1 : n + length (flat_header h ++ one class.Open i) ≡ n + length (flat_header h) + 1 = omega (arith, l1) in
    let behind' = subst (λ k. IsNumbered k (flat within ++ (one class.Close j ++ flat rest))) e1 behind in
    let last = numbered_right (n + length (flat_header h) + 1) (flat within) (one class.Close j ++ flat rest) behind' in
    let l2 = length-append (flat within) (one class.Close j ++ flat rest) in
    let l3 = length-append (one class.Close j) (flat rest) in
    let l4 = length-append (flat_header h ++ one class.Open i) (flat within ++ (one class.Close j ++ flat rest)) in
    record {
      head = numbered_left n (flat_header h) (one class.Open i) first;
      inner = numbered_left (n + length (flat_header h) + 1) (flat within) (one class.Close j ++ flat rest) behind';
      behind = last.1;
      total = omega (arith, l1, l2, l3, l4);
    }

picked_within : (of_leaf : Statement → List ℕ) (of_block : Header → List ℕ) → ((s : Statement) → Gives (of_leaf s) (flat_statement s)) → ((h : Header) → Gives (of_block h) (flat_header h))
    → (t : Tree) (n : ℕ) → IsNumbered n (flat t) → (v : ℕ) → Contains (picked of_leaf of_block t) v → (n ≤ v) × (v < n + length (flat t))
picked_within p g gp gg End n num v c = absurd (omega (arith, c.1))
picked_within p g gp gg (Leaf s rest) n num v c =
    let l = length-append (flat_statement s) (flat rest) in
    elim (Contains-append_cases (p s) (picked p g rest) v c) [
      | inl a ↦
          let m = gp s v a in
          let b = numbered_at n (flat_statement s) (numbered_left n (flat_statement s) (flat rest) num) m.0 m.1 in
          (omega (arith, b.0, m.2), omega (arith, b.1, m.2, l))
      | inr a ↦
          let r = picked_within p g gp gg rest (n + length (flat_statement s)) (numbered_right n (flat_statement s) (flat rest) num) v a in
          (omega (arith, r.0), omega (arith, r.1, l))
    ]
picked_within p g gp gg (Block h i within j rest) n num v c =
    let b = block_parts n h i within j rest num in
    elim (Contains-append_cases (g h) (picked p g rest) v c) [
      | inl a ↦
          let m = gg h v a in
          let q = numbered_at n (flat_header h) b.head m.0 m.1 in
          (omega (arith, q.0, m.2), omega (arith, q.1, m.2, b.total))
      | inr a ↦
          let r = picked_within p g gp gg rest (n + length (flat_header h) + 1 + length (flat within) + 1) b.behind v a in
          (omega (arith, r.0), omega (arith, r.1, b.total))
    ]

-- ---- spans

lies_all : (lo hi t mid : ℕ) (vs : List ℕ) → ((v : ℕ) → Contains vs v → (lo ≤ v) × (v < hi)) → t < lo → hi ≤ mid → All (λ v. (t < v) × (v < mid)) vs
lies_all lo hi t mid vs f a b = λ k d l. let r = f (get_or vs k d) (Contains-get_or vs k d l) in (omega (arith, r.0, a), omega (arith, r.1, b))

held_all : (lo hi low high : ℕ) (vs : List ℕ) → ((v : ℕ) → Contains vs v → (lo ≤ v) × (v < hi)) → low ≤ lo → hi ≤ high → All (λ v. (low ≤ v) × (v < high)) vs
held_all lo hi low high vs f a b = λ k d l. let r = f (get_or vs k d) (Contains-get_or vs k d l) in (omega (arith, r.0, a), omega (arith, r.1, b))

all_more : (t hi hi' : ℕ) (vs : List ℕ) → hi ≤ hi' → All (λ v. (t < v) × (v < hi)) vs → All (λ v. (t < v) × (v < hi')) vs
all_more t hi hi' vs a f = λ k d l. let r = f k d l in (r.0, omega (arith, r.1, a))

mutual
  span_within : (ms : Members) (lo hi lo' hi' : ℕ) → lo' ≤ lo → hi ≤ hi' → AllSpan lo hi ms → AllSpan lo' hi' ms
  span_within no_members lo hi lo' hi' a b s = omega (arith, a, b, s)
  span_within (member m ms) lo hi lo' hi' a b s = (s.0, omega (arith, s.1, b), omega (arith, s.2, a), one_within m lo s.0 lo' a s.3, span_within ms s.0 hi s.0 hi' (omega arith) b s.4)

  one_within : (m : Member) (lo hi lo' : ℕ) → lo' ≤ lo → Spans lo hi m → Spans lo' hi m
  one_within (field t) lo hi lo' a s = (omega (arith, a, s.0), s.1)
  one_within (map_field t) lo hi lo' a s = (omega (arith, a, s.0), s.1)
  one_within (oneof t fs) lo hi lo' a s = (omega (arith, a, s.0), s.1, s.2)
  one_within (message t ms) lo hi lo' a s = (omega (arith, a, s.0), s.1)
  one_within (enum t vs) lo hi lo' a s = (omega (arith, a, s.0), s.1, s.2)
  one_within (service t ms) lo hi lo' a s = (omega (arith, a, s.0), s.1, s.2)
  one_within (extend ts) lo hi lo' a s = λ k d l. let r = s k d l in (omega (arith, a, r.0), r.1)

rises_within : (ts : List ℕ) (lo hi lo' hi' : ℕ) → lo' ≤ lo → hi ≤ hi' → Rises lo hi ts → Rises lo' hi' ts
rises_within [] lo hi lo' hi' a b r = omega (arith, a, b, r)
rises_within (t ∷ ts) lo hi lo' hi' a b r = (omega (arith, a, r.0), omega (arith, b, r.1), rises_within ts (t + 1) hi (t + 1) hi' (omega arith) b r.2)

statement_span : (s : Statement) (n mid hi : ℕ) (ms : Members) → IsNumbered n (flat_statement s) → mid ≡ n + length (flat_statement s) → mid ≤ hi → AllSpan mid hi ms → AllSpan n hi (add_statement s ms)
statement_span (statement.Field f) n mid hi ms num e l span =
    let r = numbered_at n (flat_field f) num (mark want.Name f.name) (field_mark f) in
    (mid, l, omega (arith, e), (r.0, omega (arith, r.1, e)), span)
statement_span (statement.MapField f) n mid hi ms num e l span =
    let r = numbered_at n (flat_map_field f) num (mark want.Name f.name) (map_mark f) in
    (mid, l, omega (arith, e), (r.0, omega (arith, r.1, e)), span)
statement_span _ n mid hi ms num e l span = span_within ms mid hi n hi (omega (arith, e)) (omega arith) span

-- what a header names, and the places behind it
record HeadAt (n name a : ℕ) : Type 0 where
  low : n ≤ name
  high : name < a

heading_at : (c : Class) (h : Heading) (n a : ℕ) → IsNumbered n (flat_heading c h) → a ≡ n + length (flat_heading c h) + 1 → HeadAt n h.name a
heading_at c h n a num e = let r = numbered_at n (flat_heading c h) num (mark want.Name h.name) (heading_mark c h) in record { low = r.0; high = omega (arith, r.1, e) }

-- the extensions of a block stand between its braces
extensions_span : (e : Extending) (within : Tree) (n a b mid : ℕ) → a ≡ n + length (flat_header (header.Extend e)) + 1 → IsNumbered a (flat within) → b ≡ a + length (flat within) → mid ≡ b + 1 → Spans n mid (extend (picked field_names no_names within))
extensions_span e within n a b mid ea inside' eb em =
    held_all a (a + length (flat within)) n mid (picked field_names no_names within) (picked_within field_names no_names field_gives no_gives within a inside') (omega (arith, ea)) (omega (arith, eb, em))

block_span : (h : Header) (within : Tree) (inner rest : Members) (n a b mid hi : ℕ) → IsNumbered n (flat_header h) → a ≡ n + length (flat_header h) + 1 → IsNumbered a (flat within) → b ≡ a + length (flat within)
    → AllSpan a b inner → mid ≡ b + 1 → mid ≤ hi → AllSpan mid hi rest → AllSpan n hi (add_block h inner within rest)
block_span (header.Message h) within inner rest n a b mid hi num ea inside' eb span em l behind =
    let r = heading_at class.Message h n a num ea in
    (mid, l, omega (arith, ea, eb, em), (r.low, span_within inner a b (h.name + 1) mid (omega (arith, r.high)) (omega (arith, em)) span), behind)
block_span (header.Oneof h) within inner rest n a b mid hi num ea inside' eb span em l behind =
    let r = heading_at class.Oneof h n a num ea in
    (mid, l, omega (arith, ea, eb, em), (r.low, omega (arith, r.high, eb, em), lies_all a (a + length (flat within)) h.name mid (picked field_names no_names within) (picked_within field_names no_names field_gives no_gives within a inside') r.high (omega (arith, eb, em))), behind)
block_span (header.Enum h) within inner rest n a b mid hi num ea inside' eb span em l behind =
    let r = heading_at class.Enum h n a num ea in
    (mid, l, omega (arith, ea, eb, em), (r.low, omega (arith, r.high, eb, em), lies_all a (a + length (flat within)) h.name mid (picked value_names no_names within) (picked_within value_names no_names value_gives no_gives within a inside') r.high (omega (arith, eb, em))), behind)
block_span (header.Extend e) within inner rest n a b mid hi num ea inside' eb span em l behind = (mid, l, omega (arith, ea, eb, em), extensions_span e within n a b mid ea inside' eb em, behind)
block_span whole within inner rest n a b mid hi num ea inside' eb span em l behind = span_within rest mid hi n hi (omega (arith, ea, eb, em)) (omega arith) behind

pub members_span : (t : Tree) (n hi : ℕ) → IsNumbered n (flat t) → hi ≡ n + length (flat t) → AllSpan n hi (members_in t)
members_span End n hi num e = omega (arith, e)
members_span (Leaf s rest) n hi num e =
    let l = length-append (flat_statement s) (flat rest) in
    statement_span s n (n + length (flat_statement s)) hi (members_in rest) (numbered_left n (flat_statement s) (flat rest) num) refl (omega (arith, e, l))
    (members_span rest (n + length (flat_statement s)) hi (numbered_right n (flat_statement s) (flat rest) num) (omega (arith, e, l)))
members_span (Block h i within j rest) n hi num e =
    let p = block_parts n h i within j rest num in
    let a = n + length (flat_header h) + 1 in
    block_span h within (members_in within) (members_in rest) n a (a + length (flat within)) (a + length (flat within) + 1) hi p.head refl p.inner refl
    (members_span within (n + length (flat_header h) + 1) (n + length (flat_header h) + 1 + length (flat within)) p.inner refl) refl (omega (arith, e, p.total))
    (members_span rest (n + length (flat_header h) + 1 + length (flat within) + 1) hi p.behind (omega (arith, e, p.total)))

-- ---- packages

behind_rises : (bs : List (Behind ℕ)) (n hi : ℕ) → IsNumbered n (flat_all (flat_behind class.Dot name) bs) → hi ≡ n + length (flat_all (flat_behind class.Dot name) bs) → Rises n hi (map (λ b. b.item) bs)
behind_rises [] n hi num e = omega (arith, e)
behind_rises (b ∷ bs) n hi num e =
    let at : b.item ≡ n + 1 = num.1.0 in
    let e2 : n + 1 + 1 ≡ b.item + 1 = omega (arith, at) in
    let r = behind_rises bs (n + 1 + 1) hi num.1.1 (omega (arith, e)) in
    (omega (arith, at), omega (arith, at, e), subst (λ k. Rises k hi (map (λ b. b.item) bs)) e2 r)

dotted_rises : (d : Separated ℕ) (n hi : ℕ) → IsNumbered n (flat_separated class.Dot name d) → hi ≡ n + length (flat_separated class.Dot name d) → Rises n hi (dotted d)
dotted_rises d n hi num e =
    let at : d.first ≡ n = num.0 in
    let e2 : n + 1 ≡ d.first + 1 = omega (arith, at) in
    (omega (arith, at), omega (arith, at, e), subst (λ k. Rises k hi (map (λ b. b.item) d.rest)) e2 (behind_rises d.rest (n + 1) hi num.1 (omega (arith, e))))

package_rises : (p : Package) (n hi : ℕ) → IsNumbered n (flat_package p) → hi ≡ n + length (flat_package p) → Rises n hi (dotted p.name)
package_rises p n hi num e =
    let l1 = length-append (flat_separated class.Dot name p.name) (one class.Semicolon p.semicolon) in
    let l2 = length-append (one class.Package p.keyword) (flat_separated class.Dot name p.name ++ one class.Semicolon p.semicolon) in
    rises_within (dotted p.name) (n + 1) (n + 1 + length (flat_separated class.Dot name p.name)) n hi (omega arith) (omega (arith, e, l1, l2))
    (dotted_rises p.name (n + 1) (n + 1 + length (flat_separated class.Dot name p.name)) (numbered_left (n + 1) (flat_separated class.Dot name p.name) (one class.Semicolon p.semicolon) num.1) refl)

after_package : (c : Context) → allows c kind.Package ≡ true → after c kind.Package ≡ context.Packaged
after_package context.Start h = refl
after_package context.File h = refl
after_package context.Packaged h = absurd (true≢false (sym h))
after_package context.Message h = absurd (true≢false (sym h))
after_package context.Oneof h = absurd (true≢false (sym h))
after_package context.Enum h = absurd (true≢false (sym h))
after_package context.Service h = absurd (true≢false (sym h))
after_package context.Method h = absurd (true≢false (sym h))
after_package context.Extend h = absurd (true≢false (sym h))

no_package : (t : Tree) → IsWellFormed context.Packaged t → package_of (items_in t) ≡ []
no_package End w = refl
no_package (Leaf (statement.Package p) rest) w = absurd (true≢false (sym w.0))
no_package (Leaf _ rest) w = no_package rest w.1
no_package (Block (header.Message h) i within j rest) w = no_package rest w.2
no_package (Block whole i within j rest) w = no_package rest w.2

items_within : (is : Items) (lo hi lo' hi' : ℕ) → lo' ≤ lo → hi ≤ hi' → ItemsSpan lo hi is → ItemsSpan lo' hi' is
items_within no_items lo hi lo' hi' a b s = omega (arith, a, b, s)
items_within (packaged ts rest) lo hi lo' hi' a b s = (s.0, omega (arith, s.1, b), rises_within ts lo s.0 lo' s.0 a (omega arith) s.2, items_within rest s.0 hi s.0 hi' (omega arith) b s.3, s.4)
items_within (item m rest) lo hi lo' hi' a b s = (s.0, omega (arith, s.1, b), omega (arith, s.2, a), one_within m lo s.0 lo' a s.3, items_within rest s.0 hi s.0 hi' (omega arith) b s.4)

file_statement_span : (s : Statement) (n mid hi : ℕ) (is : Items) → IsNumbered n (flat_statement s) → mid ≡ n + length (flat_statement s) → mid ≤ hi → ((p : Package) → s ≡ statement.Package p → package_of is ≡ []) → ItemsSpan mid hi is → ItemsSpan n hi (file_statement s is)
file_statement_span (statement.Package p) n mid hi is num e l none span = (mid, l, package_rises p n mid num e, span, none p refl)
file_statement_span _ n mid hi is num e l none span = items_within is mid hi n hi (omega (arith, e)) (omega arith) span

file_block_span : (h : Header) (within : Tree) (rest : Items) (n a b mid hi : ℕ) → IsNumbered n (flat_header h) → a ≡ n + length (flat_header h) + 1 → IsNumbered a (flat within) → b ≡ a + length (flat within)
    → mid ≡ b + 1 → mid ≤ hi → ItemsSpan mid hi rest → ItemsSpan n hi (file_block h within rest)
file_block_span (header.Message h) within rest n a b mid hi num ea inside' eb em l behind =
    let r = heading_at class.Message h n a num ea in
    (mid, l, omega (arith, ea, eb, em), (r.low, span_within (members_in within) a b (h.name + 1) mid (omega (arith, r.high)) (omega (arith, em)) (members_span within a b inside' eb)), behind)
file_block_span (header.Enum h) within rest n a b mid hi num ea inside' eb em l behind =
    let r = heading_at class.Enum h n a num ea in
    (mid, l, omega (arith, ea, eb, em), (r.low, omega (arith, r.high, eb, em), lies_all a (a + length (flat within)) h.name mid (picked value_names no_names within) (picked_within value_names no_names value_gives no_gives within a inside') r.high (omega (arith, eb, em))), behind)
file_block_span (header.Service h) within rest n a b mid hi num ea inside' eb em l behind =
    let r = heading_at class.Service h n a num ea in
    (mid, l, omega (arith, ea, eb, em), (r.low, omega (arith, r.high, eb, em), lies_all a (a + length (flat within)) h.name mid (picked method_names block_names within) (picked_within method_names block_names method_gives block_gives within a inside') r.high (omega (arith, eb, em))), behind)
file_block_span (header.Extend e) within rest n a b mid hi num ea inside' eb em l behind = (mid, l, omega (arith, ea, eb, em), extensions_span e within n a b mid ea inside' eb em, behind)
file_block_span whole within rest n a b mid hi num ea inside' eb em l behind = items_within rest mid hi n hi (omega (arith, ea, eb, em)) (omega arith) behind

pub items_span : (t : Tree) (c : Context) (n hi : ℕ) → IsWellFormed c t → IsNumbered n (flat t) → hi ≡ n + length (flat t) → ItemsSpan n hi (items_in t)
items_span End c n hi w num e = omega (arith, e)
items_span (Leaf s rest) c n hi w num e =
    let l = length-append (flat_statement s) (flat rest) in
    file_statement_span s n (n + length (flat_statement s)) hi (items_in rest) (numbered_left n (flat_statement s) (flat rest) num) refl (omega (arith, e, l))
    (λ p q. no_package rest (subst (λ k. IsWellFormed k rest) (ap (λ z. after c (statement_kind z)) q ∙ after_package c (ap (λ z. allows c (statement_kind z)) (sym q) ∙ w.0)) w.1))
    (items_span rest (after c (statement_kind s)) (n + length (flat_statement s)) hi w.1 (numbered_right n (flat_statement s) (flat rest) num) (omega (arith, e, l)))
items_span (Block h i within j rest) c n hi w num e =
    let p = block_parts n h i within j rest num in
    let a = n + length (flat_header h) + 1 in
    file_block_span h within (items_in rest) n a (a + length (flat within)) (a + length (flat within) + 1) hi p.head refl p.inner refl refl (omega (arith, e, p.total))
    (items_span rest (after c (header_kind h)) (n + length (flat_header h) + 1 + length (flat within) + 1) hi w.2 p.behind (omega (arith, e, p.total)))

-- ---- scopes

-- a reference's scope is the path, or a declaration's name
abbrev pub Scoped : List (Source ℕ) → List Placed → Used ℕ → Type 0
Scoped path all u = (u.scope ≡ path) ⊎ ((p : Placed) × Contains all p × (p.above ++ p.last ∷ [] ≡ u.scope))

scoped_more : (path : List (Source ℕ)) (xs ys : List Placed) (u : Used ℕ) → ((p : Placed) → Contains xs p → Contains ys p) → Scoped path xs u → Scoped path ys u
scoped_more path xs ys u more s = elim s [ inl e ↦ inl e | inr p ↦ inr (p.0, more p.0 p.1, p.2) ]

no_use : {P : Type 0} (u : Used ℕ) → Contains [] u → P
no_use u c = absurd (omega (arith, c.1))

one_scope : (what : Wants) (r : Reference) (path : List (Source ℕ)) (u : Used ℕ) → Contains (used_as path what r ∷ []) u → u.scope ≡ path
one_scope what r path u c = elim (contains_cases (used_as path what r) u [] c) [ inl e ↦ sym (ap (λ (z : Used ℕ). z.scope) e) | inr n ↦ no_use u n ]

type_scope : (t : FieldType) (path : List (Source ℕ)) (u : Used ℕ) → Contains (type_uses path t) u → u.scope ≡ path
type_scope (field_type.Scalar i) path u c = no_use u c
type_scope (field_type.Reference r) path u c = one_scope wants.Type r path u c

signature_scope : (s : Signature) (path : List (Source ℕ)) (u : Used ℕ) → Contains (signature_uses path s) u → u.scope ≡ path
signature_scope s path u c = elim (contains_cases (used_as path wants.Message s.input.reference) u (used_as path wants.Message s.output.reference ∷ []) c) [
  | inl e ↦ sym (ap (λ (z : Used ℕ). z.scope) e)
  | inr d ↦ one_scope wants.Message s.output.reference path u d
]

setting_scope : (s : Setting) (path : List (Source ℕ)) (u : Used ℕ) → Contains (setting_uses path s) u → u.scope ≡ path
setting_scope (setting.Plain p) path u c = no_use u c
setting_scope (setting.Custom x) path u c = one_scope wants.Extension x.name path u c

settings_scope : (o : Option Settings) (path : List (Source ℕ)) (u : Used ℕ) → Contains (settings_uses path o) u → u.scope ≡ path
settings_scope None path u c = no_use u c
settings_scope (Some s) path u c = elim (Contains-append_cases (setting_uses path s.list.first) (flat_map (λ b. setting_uses path b.item) s.list.rest) u c) [
  | inl a ↦ setting_scope s.list.first path u a
  | inr b ↦ behind s.list.rest b
]
  where
    behind : (bs : List (Behind Setting)) → Contains (flat_map (λ b. setting_uses path b.item) bs) u → u.scope ≡ path
    behind [] d = no_use u d
    behind (b ∷ bs) d = elim (Contains-append_cases (setting_uses path b.item) (flat_map (λ b. setting_uses path b.item) bs) u d) [ inl e ↦ setting_scope b.item path u e | inr f ↦ behind bs f ]

-- a type, and the settings behind it
typed_scope : (t : FieldType) (o : Option Settings) (path : List (Source ℕ)) (u : Used ℕ) → Contains (type_uses path t ++ settings_uses path o) u → u.scope ≡ path
typed_scope t o path u c = elim (Contains-append_cases (type_uses path t) (settings_uses path o) u c) [ inl a ↦ type_scope t path u a | inr b ↦ settings_scope o path u b ]

option_scope : (s : Statement) (path : List (Source ℕ)) (u : Used ℕ) → Contains (option_uses path s) u → u.scope ≡ path
option_scope (statement.Option o) path u c = setting_scope o.setting path u c
option_scope _ path u c = no_use u c

-- the scope is the one around, or the one within
abbrev IsIn : List (Source ℕ) → List (Source ℕ) → Used ℕ → Type 0
IsIn around path u = (u.scope ≡ around) ⊎ (u.scope ≡ path)

statement_scope : (s : Statement) (around path : List (Source ℕ)) (u : Used ℕ) → Contains (statement_uses around path s) u → IsIn around path u
statement_scope (statement.Field f) around path u c = inr (typed_scope f.kind f.settings path u c)
statement_scope (statement.MapField f) around path u c = inr (typed_scope f.value f.settings path u c)
statement_scope (statement.Value v) around path u c = inr (settings_scope v.settings path u c)
statement_scope (statement.Method s end) around path u c = inr (signature_scope s path u c)
statement_scope (statement.Option o) around path u c = inl (option_scope (statement.Option o) around u c)
statement_scope _ around path u c = no_use u c

header_scope : (h : Header) (path : List (Source ℕ)) (u : Used ℕ) → Contains (header_uses path h) u → u.scope ≡ path
header_scope (header.Method s) path u c = signature_scope s path u c
header_scope (header.Extend e) path u c = one_scope wants.Message e.extendee path u c
header_scope _ path u c = no_use u c

same_scope : (path : List (Source ℕ)) (u : Used ℕ) → IsIn path path u → u.scope ≡ path
same_scope path u s = elim s [ inl e ↦ e | inr e ↦ e ]

flat_scope : (t : Tree) (around path : List (Source ℕ)) (u : Used ℕ) → Contains (flat_uses around path t) u → IsIn around path u
flat_scope End around path u c = no_use u c
flat_scope (Leaf s rest) around path u c = elim (Contains-append_cases (statement_uses around path s) (flat_uses around path rest) u c) [ inl a ↦ statement_scope s around path u a | inr b ↦ flat_scope rest around path u b ]
flat_scope (Block h i within j rest) around path u c = elim (Contains-append_cases (header_uses path h) (flat_uses path path within ++ flat_uses around path rest) u c) [
  | inl a ↦ inr (header_scope h path u a)
  | inr b ↦ elim (Contains-append_cases (flat_uses path path within) (flat_uses around path rest) u b) [
    | inl d ↦ inr (same_scope path u (flat_scope within path path u d))
    | inr d ↦ flat_scope rest around path u d
  ]
]

inner_scope : (t : Tree) (path : List (Source ℕ)) (u : Used ℕ) → Contains (flat_uses path path t) u → u.scope ≡ path
inner_scope t path u c = same_scope path u (flat_scope t path path u c)

extend_scope : (e : Extending) (within : Tree) (path : List (Source ℕ)) (u : Used ℕ) → Contains (block_uses path (header.Extend e) [] within) u → u.scope ≡ path
extend_scope e within path u c = elim (Contains-append_cases (header_uses path (header.Extend e)) (flat_uses path path within) u c) [ inl a ↦ header_scope (header.Extend e) path u a | inr b ↦ inner_scope within path u b ]

-- a statement adds to what is declared
statement_more : (s : Statement) (path : List (Source ℕ)) (ms : Members) (p : Placed) → Contains (all_placed path ms) p → Contains (all_placed path (add_statement s ms)) p
statement_more (statement.Field f) path ms p c = Contains-append_right (placed path (field f.name)) (all_placed path ms) p c
statement_more (statement.MapField f) path ms p c = Contains-append_right (placed path (map_field f.name)) (all_placed path ms) p c
statement_more _ path ms p c = c

block_more : (h : Header) (inner : Members) (within : Tree) (path : List (Source ℕ)) (ms : Members) (p : Placed) → Contains (all_placed path ms) p → Contains (all_placed path (add_block h inner within ms)) p
block_more (header.Message h) inner within path ms p c = Contains-append_right (placed path (message h.name inner)) (all_placed path ms) p c
block_more (header.Oneof h) inner within path ms p c = Contains-append_right (placed path (oneof h.name (picked field_names no_names within))) (all_placed path ms) p c
block_more (header.Enum h) inner within path ms p c = Contains-append_right (placed path (enum h.name (picked value_names no_names within))) (all_placed path ms) p c
block_more (header.Extend e) inner within path ms p c = Contains-append_right (placed path (extend (picked field_names no_names within))) (all_placed path ms) p c
block_more whole inner within path ms p c = c

-- a reference's scope is the one around, or the path, or a declaration's name
abbrev Inside : List (Source ℕ) → List (Source ℕ) → List Placed → Used ℕ → Type 0
Inside around path all u = (u.scope ≡ around) ⊎ Scoped path all u

inside_more : (around path : List (Source ℕ)) (xs ys : List Placed) (u : Used ℕ) → ((p : Placed) → Contains xs p → Contains ys p) → Inside around path xs u → Inside around path ys u
inside_more around path xs ys u more s = elim s [ inl e ↦ inl e | inr t ↦ inr (scoped_more path xs ys u more t) ]

is_inside : (around path : List (Source ℕ)) (all : List Placed) (u : Used ℕ) → IsIn around path u → Inside around path all u
is_inside around path all u s = elim s [ inl e ↦ inl e | inr e ↦ inr (inl e) ]

at_path : (path : List (Source ℕ)) (all : List Placed) (u : Used ℕ) → u.scope ≡ path → Scoped path all u
at_path path all u e = inl e

-- what is used in a message, given what is used in what it holds
message_scoped : (t : ℕ) (inner : Members) (rest : List Placed) (path : List (Source ℕ)) (u : Used ℕ) → Inside path (path ++ Token t ∷ []) (all_placed (path ++ Token t ∷ []) inner) u → Scoped path (placed path (message t inner) ++ rest) u
message_scoped t inner rest path u s =
    let whole = placed path (message t inner) in
    let head = place path (Token t) Message in
    elim s [
      | inl e ↦ inl e
      | inr i ↦ elim i [
        | inl e ↦ inr (head, Contains-append_left whole rest head (contains_head head (all_placed (path ++ Token t ∷ []) inner)), sym e)
        | inr p ↦ inr (p.0, Contains-append_left whole rest p.0 (contains_later head p.0 (all_placed (path ++ Token t ∷ []) inner) p.1), p.2)
      ]
    ]

pub members_scoped : (t : Tree) (around path : List (Source ℕ)) (u : Used ℕ) → Contains (member_uses around path t) u → Inside around path (all_placed path (members_in t)) u
members_scoped End around path u c = no_use u c
members_scoped (Leaf s rest) around path u c = elim (Contains-append_cases (statement_uses around path s) (member_uses around path rest) u c) [
  | inl a ↦ is_inside around path (all_placed path (members_in (Leaf s rest))) u (statement_scope s around path u a)
  | inr b ↦ inside_more around path (all_placed path (members_in rest)) (all_placed path (members_in (Leaf s rest))) u (statement_more s path (members_in rest)) (members_scoped rest around path u b)
]
members_scoped (Block (header.Message h) i within j rest) around path u c = elim (Contains-append_cases (member_uses path (path ++ Token h.name ∷ []) within) (member_uses around path rest) u c) [
  | inl a ↦ inr (message_scoped h.name (members_in within) (all_placed path (members_in rest)) path u (members_scoped within path (path ++ Token h.name ∷ []) u a))
  | inr b ↦ inside_more around path (all_placed path (members_in rest)) (all_placed path (members_in (Block (header.Message h) i within j rest))) u (block_more (header.Message h) (members_in within) within path (members_in rest)) (members_scoped rest around path u b)
]
members_scoped (Block (header.Oneof h) i within j rest) around path u c = elim (Contains-append_cases (flat_uses path path within) (member_uses around path rest) u c) [
  | inl a ↦ inr (at_path path (all_placed path (members_in (Block (header.Oneof h) i within j rest))) u (inner_scope within path u a))
  | inr b ↦ inside_more around path (all_placed path (members_in rest)) (all_placed path (members_in (Block (header.Oneof h) i within j rest))) u (block_more (header.Oneof h) (members_in within) within path (members_in rest)) (members_scoped rest around path u b)
]
members_scoped (Block (header.Enum h) i within j rest) around path u c = elim (Contains-append_cases (flat_uses path path within) (member_uses around path rest) u c) [
  | inl a ↦ inr (at_path path (all_placed path (members_in (Block (header.Enum h) i within j rest))) u (inner_scope within path u a))
  | inr b ↦ inside_more around path (all_placed path (members_in rest)) (all_placed path (members_in (Block (header.Enum h) i within j rest))) u (block_more (header.Enum h) (members_in within) within path (members_in rest)) (members_scoped rest around path u b)
]
members_scoped (Block (header.Extend e) i within j rest) around path u c = elim (Contains-append_cases (block_uses path (header.Extend e) [] within) (member_uses around path rest) u c) [
  | inl a ↦ inr (at_path path (all_placed path (members_in (Block (header.Extend e) i within j rest))) u (extend_scope e within path u a))
  | inr b ↦ inside_more around path (all_placed path (members_in rest)) (all_placed path (members_in (Block (header.Extend e) i within j rest))) u (block_more (header.Extend e) (members_in within) within path (members_in rest)) (members_scoped rest around path u b)
]
members_scoped (Block whole i within j rest) around path u c = members_scoped rest around path u c

file_more : (s : Statement) (path : List (Source ℕ)) (is : Items) (p : Placed) → Contains (items_placed path is) p → Contains (items_placed path (file_statement s is)) p
file_more (statement.Package q) path is p c = Contains-append_right (prefixes [] (dotted q.name)) (items_placed path is) p c
file_more _ path is p c = c

file_block_more : (h : Header) (within : Tree) (path : List (Source ℕ)) (is : Items) (p : Placed) → Contains (items_placed path is) p → Contains (items_placed path (file_block h within is)) p
file_block_more (header.Message h) within path is p c = Contains-append_right (placed path (message h.name (members_in within))) (items_placed path is) p c
file_block_more (header.Enum h) within path is p c = Contains-append_right (placed path (enum h.name (picked value_names no_names within))) (items_placed path is) p c
file_block_more (header.Service h) within path is p c = Contains-append_right (placed path (service h.name (picked method_names block_names within))) (items_placed path is) p c
file_block_more (header.Extend e) within path is p c = Contains-append_right (placed path (extend (picked field_names no_names within))) (items_placed path is) p c
file_block_more whole within path is p c = c

service_item : (t : ℕ) (ms : List ℕ) (rest : Items) (path : List (Source ℕ)) (u : Used ℕ) → IsIn path (path ++ Token t ∷ []) u → Scoped path (placed path (service t ms) ++ items_placed path rest) u
service_item t ms rest path u s =
    let head = place path (Token t) Service in
    elim s [
      | inl e ↦ inl e
      | inr e ↦ inr (head, Contains-append_left (placed path (service t ms)) (items_placed path rest) head (contains_head head (map (λ i. place (path ++ Token t ∷ []) (Token i) Method) ms)), sym e)
    ]

pub items_scoped : (t : Tree) (path : List (Source ℕ)) (u : Used ℕ) → Contains (item_uses path t) u → Scoped path (items_placed path (items_in t)) u
items_scoped End path u c = no_use u c
items_scoped (Leaf s rest) path u c = elim (Contains-append_cases (option_uses path s) (item_uses path rest) u c) [
  | inl a ↦ at_path path (items_placed path (items_in (Leaf s rest))) u (option_scope s path u a)
  | inr b ↦ scoped_more path (items_placed path (items_in rest)) (items_placed path (items_in (Leaf s rest))) u (file_more s path (items_in rest)) (items_scoped rest path u b)
]
items_scoped (Block (header.Message h) i within j rest) path u c = elim (Contains-append_cases (member_uses path (path ++ Token h.name ∷ []) within) (item_uses path rest) u c) [
  | inl a ↦ message_scoped h.name (members_in within) (items_placed path (items_in rest)) path u (members_scoped within path (path ++ Token h.name ∷ []) u a)
  | inr b ↦ scoped_more path (items_placed path (items_in rest)) (items_placed path (items_in (Block (header.Message h) i within j rest))) u (file_block_more (header.Message h) within path (items_in rest)) (items_scoped rest path u b)
]
items_scoped (Block (header.Service h) i within j rest) path u c = elim (Contains-append_cases (flat_uses path (path ++ Token h.name ∷ []) within) (item_uses path rest) u c) [
  | inl a ↦ service_item h.name (picked method_names block_names within) (items_in rest) path u (flat_scope within path (path ++ Token h.name ∷ []) u a)
  | inr b ↦ scoped_more path (items_placed path (items_in rest)) (items_placed path (items_in (Block (header.Service h) i within j rest))) u (file_block_more (header.Service h) within path (items_in rest)) (items_scoped rest path u b)
]
items_scoped (Block (header.Enum h) i within j rest) path u c = elim (Contains-append_cases (flat_uses path path within) (item_uses path rest) u c) [
  | inl a ↦ at_path path (items_placed path (items_in (Block (header.Enum h) i within j rest))) u (inner_scope within path u a)
  | inr b ↦ scoped_more path (items_placed path (items_in rest)) (items_placed path (items_in (Block (header.Enum h) i within j rest))) u (file_block_more (header.Enum h) within path (items_in rest)) (items_scoped rest path u b)
]
items_scoped (Block (header.Extend e) i within j rest) path u c = elim (Contains-append_cases (block_uses path (header.Extend e) [] within) (item_uses path rest) u c) [
  | inl a ↦ at_path path (items_placed path (items_in (Block (header.Extend e) i within j rest))) u (extend_scope e within path u a)
  | inr b ↦ scoped_more path (items_placed path (items_in rest)) (items_placed path (items_in (Block (header.Extend e) i within j rest))) u (file_block_more (header.Extend e) within path (items_in rest)) (items_scoped rest path u b)
]
items_scoped (Block whole i within j rest) path u c = items_scoped rest path u c

-- ---- a file

numbered_from : (profile : Profile) (n : ℕ) (ms : List Mark) (ls : List Lexeme) → Fit ms (classes_in profile n ls) → IsNumbered n ms
numbered_from profile n [] ls h = tt
numbered_from profile n (m ∷ ms) [] h = absurd h
numbered_from profile n (m ∷ ms) (l ∷ ls) h = let e : n + 1 ≡ suc n = omega arith in (sym h.1, subst (λ k. IsNumbered k ms) (sym e) (numbered_from profile (suc n) ms ls h.2))

pub tree_grown : (profile : Profile) (t : Tree) (ls : List Lexeme) → Spells t (classes_in profile 0 ls) → IsGrown (file_names t)
tree_grown profile t ls s = record {
  low = 0;
  high = length (flat t);
  span = items_span t context.Start 0 (length (flat t)) s.well_formed (numbered_from profile 0 (flat t) ls s.fits) (omega arith);
  scopes = λ u c ne. elim (items_scoped t (map (λ i. Token i) (package_of (items_in t))) u c) [
    | inl e ↦ package_scope (package_of (items_in t)) refl u e ne
    | inr p ↦ p
  ];
}
  where
    package_scope : (ts : List ℕ) → package_of (items_in t) ≡ ts → (u : Used ℕ) → u.scope ≡ map (λ i. Token i) (package_of (items_in t)) → u.scope ≢ [] → (p : Placed) × Contains (file_placed (items_in t)) p × (p.above ++ p.last ∷ [] ≡ u.scope)
    package_scope [] e u q ne = absurd (ne (q ∙ ap (map (λ i. Token i)) e))
    package_scope (x ∷ xs) e u q ne =
        let r = prefix_whole x xs [] in
        (r.0, package_within (items_in t) (map (λ i. Token i) (package_of (items_in t))) r.0 (subst (λ l. Contains (prefixes [] l) r.0) (sym e) r.1), sym r.2 ∙ ap (map (λ i. Token i)) (sym e) ∙ sym q)
