-- Pieces, and the readers that read exactly these.
use Rattle.std.proofs.Common.{◌≡◌, ℕ, Bool, true, false, List, [], ◌∷◌, ◌++◌, Option, Some, None, refl, sym, ap, subst, ◌∙◌, ◌⊎◌, inl, inr, ◌||◌, is_some, append_assoc}
use Rattle.proto_tree.specs.Common.{Class, Expected, Lexeme, Field, Signed, Signature, Heading, Extending, Header, Piece, fits, is_brace, Mark, mark, one, only, name, text_mark, Fit, flat_extensions, flat_field, flat_import, flat_map_field, flat_number, flat_option, flat_option_statement, flat_setting, flat_package, flat_ranges, flat_reserved, flat_reserved_list, flat_separated, flat_settings, flat_signed, flat_syntax, flat_type, flat_value, Settings, flat_signature, flat_extending, flat_heading, flat_header, flat_piece, Reader, ◌then◌, made, token, starts, either, extend_at, heading_at, block_start, stated, syntax_at, import_at, package_at, option_at, field_at, map_field_at, reserved_at, signed_at, extensions_at, value_at, signature_at, ending_at, method_piece, method_at, reference_at, extending_at, inner_piece_at, enum_piece_at, flat_modifier}
use Rattle.proto_tree.specs.declared.class.Class.TheVariants as class
use Rattle.proto_tree.specs.declared.class.Expected.TheVariants as want
use Rattle.proto_tree.specs.declared.tree.Syntax.{Syntax}
use Rattle.proto_tree.specs.declared.tree.Import.{Import}
use Rattle.proto_tree.specs.declared.tree.Package.{Package}
use Rattle.proto_tree.specs.declared.tree.Option_.{Option_}
use Rattle.proto_tree.specs.declared.tree.MapField.{MapField}
use Rattle.proto_tree.specs.declared.tree.Reserved.{Reserved}
use Rattle.proto_tree.specs.declared.tree.Extensions.{Extensions}
use Rattle.proto_tree.specs.declared.tree.Value.{Value}
use Rattle.proto_tree.specs.declared.piece.Statement.TheVariants as statement
use Rattle.proto_tree.specs.declared.piece.Header.TheVariants as header
use Rattle.proto_tree.specs.declared.piece.Ending.{Ending}
use Rattle.proto_tree.specs.declared.piece.Ending.TheVariants as ending
use Rattle.proto_tree.specs.declared.piece.Piece.TheVariants as piece
use Rattle.proto_tree.proofs.Exact.{IsExact, Begins, Stops, Calm, never, any_of, bind_ok, some_is, either_cases, begins_left, begins_right, starts_yes, starts_no, within, within_is, apart, apart_is, Fit-split, next, token_then, one_of, IsMade, Left, Right, tok, renamed, hushed, token-exact}
use Rattle.proto_tree.proofs.Rules.{syntax-exact, import-exact, package-exact, option-exact, field-exact, map_field-exact, reserved-exact, extensions-exact, enum_reserved-exact, value-exact, signature-exact, reference-exact, dots, starts_field}

-- a header and its brace
pub record IsOpening (text : List Lexeme) : Type 0 where
  pub front : List Lexeme
  pub last : Lexeme
  pub parts : text ≡ front ++ last ∷ []
  pub calm : Calm is_brace front
  pub opens : fits (want.One class.Open) last.class ≡ true

pub record IsClosing (text : List Lexeme) : Type 0 where
  pub only : Lexeme
  pub parts : text ≡ only ∷ []
  pub closes : fits (want.One class.Close) only.class ≡ true

-- the last token of a text, which is a `;`
pub record EndsInSemicolon (text : List Lexeme) : Type 0 where
  pub front : List Lexeme
  pub last : Lexeme
  pub parts : text ≡ front ++ last ∷ []
  pub ends : fits (want.One class.Semicolon) last.class ≡ true

pub record IsStated (text : List Lexeme) : Type 0 where
  pub calm : Calm is_brace text
  pub semicolon : EndsInSemicolon text

-- a statement leaves the depth as it was and ends in a `;`; the braces of blocks stand at the ends of the others
abbrev pub HasEnd : Piece → List Lexeme → Type 0
HasEnd (piece.Statement s) text = IsStated text
HasEnd (piece.Open h i) text = IsOpening text
HasEnd (piece.Close i) text = IsClosing text

-- p reads exactly the pieces of which P is true
pub record IsOn (P : Piece → Bool) (first : Class → Bool) (read : Reader Piece) : Type 0 where
  pub begins : (u : Piece) → P u ≡ true → (text : List Lexeme) → Fit (flat_piece u) text → Begins true first text
  pub end : (u : Piece) → P u ≡ true → (text : List Lexeme) → Fit (flat_piece u) text → HasEnd u text
  pub sound : (s : List Lexeme) (u : Piece) (r : List Lexeme) → read s ≡ Some (u, r) → (P u ≡ true) × (text : List Lexeme) × (s ≡ text ++ r) × Fit (flat_piece u) text
  pub complete : (u : Piece) → P u ≡ true → (text r : List Lexeme) → Fit (flat_piece u) text → read (text ++ r) ≡ Some (u, r)

stops_never : (r : List Lexeme) → Stops never r
stops_never [] = tt
stops_never (l ∷ r) = refl

-- looks for what makes a piece, and shows that it does
abbrev pub Finds : {A : Type 0} → (A → Piece) → Type 0
Finds {A = A} make = (u : Piece) → Option ((x : A) × (make x ≡ u))

-- whether a piece is made so
abbrev pub is : {A : Type 0} {make : A → Piece} → Finds make → Piece → Bool
is find u = is_some (find u)

found : {B : Type 0} (o : Option B) → is_some o ≡ true → B
found None e = absurd cc
found (Some x) e = x

-- what a reader of one kind of piece reads
pub made_on : {A : Type 0} {loud : Class → Bool} {first : Class → Bool} {p : Reader A} (make : A → Piece) (find : Finds make)
    → IsExact loud true first never (λ x. flat_piece (make x)) p → ((x : A) → is find (make x) ≡ true)
    → ((x : A) (text : List Lexeme) → Fit (flat_piece (make x)) text → HasEnd (make x) text) → IsOn (is find) first (made make p)
made_on {A = A} {first = first} {p = p} make find h finds ends = record {
  begins = λ u e text fit. let x = found (find u) e in h.begins x.0 text (rw x.1 fit);
  end = λ u e text fit. let x = found (find u) e in subst (λ v. HasEnd v text) x.1 (ends x.0 text (rw x.1 fit));
  sound = λ s u r e.
      let a = bind_ok (p s) (λ x. Some (make x.0, x.1)) (u, r) e in
      let Q : Piece × List Lexeme → Type 0 = λ y. (is find y.0 ≡ true) × (text : List Lexeme) × (s ≡ text ++ y.1) × Fit (flat_piece y.0) text in
      let t = h.sound s a.0.0 a.0.1 a.1 in
      subst Q (some_is (make a.0.0, a.0.1) (u, r) a.2) (finds a.0.0, t.0, t.1, t.2);
  complete = λ u e text r fit.
      let x = found (find u) e in
      let f : p (text ++ r) ≡ Some (x.0, r) = h.complete x.0 text r (rw x.1 fit) (stops_never r) in
      rw (f, x.1) refl;
}

abbrev pub either_of : (Piece → Bool) → (Piece → Bool) → Piece → Bool
either_of P Q u = P u || Q u

true_or : (a b : Bool) → (a || b) ≡ true → (a ≡ true) ⊎ (b ≡ true)
true_or true b e = inl refl
true_or false b e = inr e

or_left : (a b : Bool) → a ≡ true → (a || b) ≡ true
or_left true b e = refl
or_left false b e = absurd cc

or_right : (a b : Bool) → b ≡ true → (a || b) ≡ true
or_right true b e = refl
or_right false b e = e

-- one kind of piece or another, by the first token
pub or_on : {P Q : Piece → Bool} {first_p first_q : Class → Bool} {p q : Reader Piece} (w : Expected)
    → IsOn P first_p p → IsOn Q first_q q → within first_p (fits w) ≡ true → apart first_q (fits w) ≡ true
    → IsOn (either_of P Q) (any_of first_p first_q) (either w p q)
or_on {P = P} {Q = Q} {first_p = first_p} {first_q = first_q} {p = p} {q = q} w hp hq a b = record {
  begins = λ u e text fit. elim (true_or (P u) (Q u) e) [ inl h ↦ begins_left first_p first_q text (hp.begins u h text fit) | inr h ↦ begins_right first_p first_q text (hq.begins u h text fit) ];
  end = λ u e text fit. elim (true_or (P u) (Q u) e) [ inl h ↦ hp.end u h text fit | inr h ↦ hq.end u h text fit ];
  sound = λ s u r e. elim (either_cases (starts w s) (p s) (q s) (Some (u, r)) e) [
    | inl g ↦ let t = hp.sound s u r g.1 in (or_left (P u) (Q u) t.0, t.1, t.2, t.3)
    | inr g ↦ let t = hq.sound s u r g.1 in (or_right (P u) (Q u) t.0, t.1, t.2, t.3)
  ];
  complete = λ u e text r fit. elim (true_or (P u) (Q u) e) [
    | inl h ↦ rw (starts_yes w first_p text r (within_is first_p (fits w) a) (hp.begins u h text fit)) (hp.complete u h text r fit)
    | inr h ↦ rw (starts_no w first_q text r (apart_is first_q (fits w) b) (hq.begins u h text fit)) (hq.complete u h text r fit)
  ];
}

-- ---- the kinds of pieces

abbrev pub find_close : Finds (λ (x : ℕ). piece.Close x)
find_close (piece.Close i) = Some (i, refl)
find_close _ = None

abbrev pub find_syntax : Finds (λ (x : Syntax). piece.Statement (statement.Syntax x))
find_syntax (piece.Statement (statement.Syntax x)) = Some (x, refl)
find_syntax _ = None

abbrev pub find_import : Finds (λ (x : Import). piece.Statement (statement.Import x))
find_import (piece.Statement (statement.Import x)) = Some (x, refl)
find_import _ = None

abbrev pub find_package : Finds (λ (x : Package). piece.Statement (statement.Package x))
find_package (piece.Statement (statement.Package x)) = Some (x, refl)
find_package _ = None

abbrev pub find_option : Finds (λ (x : Option_). piece.Statement (statement.Option x))
find_option (piece.Statement (statement.Option x)) = Some (x, refl)
find_option _ = None

abbrev pub find_field : Finds (λ (x : Field). piece.Statement (statement.Field x))
find_field (piece.Statement (statement.Field x)) = Some (x, refl)
find_field _ = None

abbrev pub find_map_field : Finds (λ (x : MapField). piece.Statement (statement.MapField x))
find_map_field (piece.Statement (statement.MapField x)) = Some (x, refl)
find_map_field _ = None

abbrev pub find_reserved : Finds (λ (x : Reserved ℕ). piece.Statement (statement.Reserved x))
find_reserved (piece.Statement (statement.Reserved x)) = Some (x, refl)
find_reserved _ = None

abbrev pub find_extensions : Finds (λ (x : Extensions). piece.Statement (statement.Extensions x))
find_extensions (piece.Statement (statement.Extensions x)) = Some (x, refl)
find_extensions _ = None

abbrev pub find_value : Finds (λ (x : Value). piece.Statement (statement.Value x))
find_value (piece.Statement (statement.Value x)) = Some (x, refl)
find_value _ = None

abbrev pub find_enum_reserved : Finds (λ (x : Reserved Signed). piece.Statement (statement.EnumReserved x))
find_enum_reserved (piece.Statement (statement.EnumReserved x)) = Some (x, refl)
find_enum_reserved _ = None

abbrev pub find_empty : Finds (λ (x : ℕ). piece.Statement (statement.Empty x))
find_empty (piece.Statement (statement.Empty x)) = Some (x, refl)
find_empty _ = None

abbrev pub find_message : Finds (λ (x : Heading × ℕ). piece.Open (header.Message x.0) x.1)
find_message (piece.Open (header.Message h) i) = Some ((h, i), refl)
find_message _ = None

abbrev pub find_oneof : Finds (λ (x : Heading × ℕ). piece.Open (header.Oneof x.0) x.1)
find_oneof (piece.Open (header.Oneof h) i) = Some ((h, i), refl)
find_oneof _ = None

abbrev pub find_enum : Finds (λ (x : Heading × ℕ). piece.Open (header.Enum x.0) x.1)
find_enum (piece.Open (header.Enum h) i) = Some ((h, i), refl)
find_enum _ = None

abbrev pub find_service : Finds (λ (x : Heading × ℕ). piece.Open (header.Service x.0) x.1)
find_service (piece.Open (header.Service h) i) = Some ((h, i), refl)
find_service _ = None

abbrev pub method_of : Signature × Ending → Piece
method_of x = method_piece x.0 x.1

abbrev pub find_method : Finds method_of
find_method (piece.Statement (statement.Method s i)) = Some ((s, ending.Semicolon i), refl)
find_method (piece.Open (header.Method s) i) = Some ((s, ending.Open i), refl)
find_method _ = None

abbrev pub extend_of : Extending × ℕ → Piece
extend_of x = piece.Open (header.Extend x.0) x.1

abbrev pub find_extend : Finds extend_of
find_extend (piece.Open (header.Extend x) i) = Some ((x, i), refl)
find_extend _ = None

-- ---- their ends

one_closing : (i : ℕ) (text : List Lexeme) → Fit (one class.Close i) text → IsClosing text
one_closing i [] h = absurd h
one_closing i (l ∷ []) h = record { only = l; parts = refl; closes = h.0 }
one_closing i (l ∷ k ∷ t) h = absurd h.2

one_last : (i : ℕ) (t : List Lexeme) → Fit (one class.Open i) t → (l : Lexeme) × (t ≡ l ∷ []) × (fits (want.One class.Open) l.class ≡ true)
one_last i [] h = absurd h
one_last i (l ∷ []) h = (l, refl, h.0)
one_last i (l ∷ k ∷ t) h = absurd h.2

opening : (flat_h : List Mark) (i : ℕ) (text : List Lexeme) → ((t : List Lexeme) → Fit flat_h t → Calm is_brace t) → Fit (flat_h ++ one class.Open i) text → IsOpening text
opening flat_h i text calm fit =
    let s = Fit-split flat_h (one class.Open i) text fit in
    let l = one_last i s.1 s.4 in
    record { front = s.0; last = l.0; parts = s.2 ∙ ap (λ (u : List Lexeme). s.0 ++ u) l.1; calm = calm s.0 s.3; opens = l.2 }

heading_calm : (c : Class) → apart (fits (want.One c)) is_brace ≡ true → (h : Heading) (t : List Lexeme) → Fit (flat_heading c h) t → Calm is_brace t
heading_calm c e h t fit =
    let rule : IsExact is_brace true (fits (want.One c)) never (λ x. one c x.0 ++ mark want.Name x.1 ∷ []) (token (want.One c) then token want.Name) = next (tok (want.One c) e) (tok want.Name refl) refl in
    rule.calm (h.keyword, h.name) t fit

-- ---- statements end in a `;`

abbrev Ends : List Mark → Type 0
Ends ms = (text : List Lexeme) → Fit ms text → EndsInSemicolon text

semicolon_ends : (i : ℕ) → Ends (one class.Semicolon i)
semicolon_ends i [] h = absurd h
semicolon_ends i (l ∷ []) h = record { front = []; last = l; parts = refl; ends = h.0 }
semicolon_ends i (l ∷ k ∷ t) h = absurd h.2

ends_behind : (a b : List Mark) → Ends b → Ends (a ++ b)
ends_behind a b h text fit =
    let s = Fit-split a b text fit in
    let e = h s.1 s.4 in
    record { front = s.0 ++ e.front; last = e.last; parts = s.2 ∙ ap (λ (u : List Lexeme). s.0 ++ u) e.parts ∙ sym (append_assoc s.0 e.front (e.last ∷ [])); ends = e.ends }

syntax_ends : (x : Syntax) → Ends (flat_syntax x)
syntax_ends x = ends_behind (one class.Syntax x.keyword) (one class.Equals x.equals ++ (one class.ProtoText x.text ++ one class.Semicolon x.semicolon)) (ends_behind (one class.Equals x.equals) (one class.ProtoText x.text ++ one class.Semicolon x.semicolon) (ends_behind (one class.ProtoText x.text) (one class.Semicolon x.semicolon) (semicolon_ends x.semicolon)))

import_ends : (x : Import) → Ends (flat_import x)
import_ends x = ends_behind (one class.Import x.keyword) (flat_option flat_modifier x.modifier ++ (text_mark x.path ++ one class.Semicolon x.semicolon)) (ends_behind (flat_option flat_modifier x.modifier) (text_mark x.path ++ one class.Semicolon x.semicolon) (ends_behind (text_mark x.path) (one class.Semicolon x.semicolon) (semicolon_ends x.semicolon)))

package_ends : (x : Package) → Ends (flat_package x)
package_ends x = ends_behind (one class.Package x.keyword) (flat_separated class.Dot name x.name ++ one class.Semicolon x.semicolon) (ends_behind (flat_separated class.Dot name x.name) (one class.Semicolon x.semicolon) (semicolon_ends x.semicolon))

option_ends : (x : Option_) → Ends (flat_option_statement x)
option_ends x = ends_behind (one class.Option x.keyword) (flat_setting x.setting ++ one class.Semicolon x.semicolon) (ends_behind (flat_setting x.setting) (one class.Semicolon x.semicolon) (semicolon_ends x.semicolon))

-- from the name of a field on
abbrev tail_of : ℕ → ℕ → ℕ → Option Settings → ℕ → List Mark
tail_of n e k s i = name n ++ (one class.Equals e ++ (one class.Number k ++ (flat_option flat_settings s ++ one class.Semicolon i)))

tail_ends : (n e k : ℕ) (s : Option Settings) (i : ℕ) → Ends (tail_of n e k s i)
tail_ends n e k s i = ends_behind (name n) (one class.Equals e ++ (one class.Number k ++ (flat_option flat_settings s ++ one class.Semicolon i))) (ends_behind (one class.Equals e) (one class.Number k ++ (flat_option flat_settings s ++ one class.Semicolon i)) (ends_behind (one class.Number k) (flat_option flat_settings s ++ one class.Semicolon i) (ends_behind (flat_option flat_settings s) (one class.Semicolon i) (semicolon_ends i))))

field_ends : (x : Field) → Ends (flat_field x)
field_ends x = ends_behind (flat_option (only want.Label) x.label) (flat_type x.kind ++ tail_of x.name x.equals x.number x.settings x.semicolon) (ends_behind (flat_type x.kind) (tail_of x.name x.equals x.number x.settings x.semicolon) (tail_ends x.name x.equals x.number x.settings x.semicolon))

map_field_ends : (x : MapField) → Ends (flat_map_field x)
map_field_ends x =
    let tail : List Mark = tail_of x.name x.equals x.number x.settings x.semicolon in
    ends_behind (one class.Map x.keyword) (one class.Less x.«open» ++ (one class.Scalar x.key ++ (one class.Comma x.comma ++ (flat_type x.value ++ (one class.Greater x.close ++ tail)))))
    (ends_behind (one class.Less x.«open») (one class.Scalar x.key ++ (one class.Comma x.comma ++ (flat_type x.value ++ (one class.Greater x.close ++ tail))))
    (ends_behind (one class.Scalar x.key) (one class.Comma x.comma ++ (flat_type x.value ++ (one class.Greater x.close ++ tail)))
    (ends_behind (one class.Comma x.comma) (flat_type x.value ++ (one class.Greater x.close ++ tail))
    (ends_behind (flat_type x.value) (one class.Greater x.close ++ tail)
    (ends_behind (one class.Greater x.close) tail (tail_ends x.name x.equals x.number x.settings x.semicolon))))))

reserved_ends : {N : Type 0} (flat_n : N → List Mark) (x : Reserved N) → Ends (flat_reserved flat_n x)
reserved_ends flat_n x = ends_behind (one class.Reserved x.keyword) (flat_reserved_list flat_n x.list ++ one class.Semicolon x.semicolon) (ends_behind (flat_reserved_list flat_n x.list) (one class.Semicolon x.semicolon) (semicolon_ends x.semicolon))

extensions_ends : (x : Extensions) → Ends (flat_extensions x)
extensions_ends x = ends_behind (one class.Extensions x.keyword) (flat_ranges flat_number x.ranges ++ one class.Semicolon x.semicolon) (ends_behind (flat_ranges flat_number x.ranges) (one class.Semicolon x.semicolon) (semicolon_ends x.semicolon))

value_ends : (x : Value) → Ends (flat_value x)
value_ends x = ends_behind (only want.ValueName x.name) (one class.Equals x.equals ++ (flat_signed x.number ++ (flat_option flat_settings x.settings ++ one class.Semicolon x.semicolon))) (ends_behind (one class.Equals x.equals) (flat_signed x.number ++ (flat_option flat_settings x.settings ++ one class.Semicolon x.semicolon)) (ends_behind (flat_signed x.number) (flat_option flat_settings x.settings ++ one class.Semicolon x.semicolon) (ends_behind (flat_option flat_settings x.settings) (one class.Semicolon x.semicolon) (semicolon_ends x.semicolon))))

-- what is read of a statement leaves the depth, and ends so
stated_ends : {A : Type 0} (flat_a : A → List Mark) → ((x : A) (text : List Lexeme) → Fit (flat_a x) text → Calm is_brace text) → ((x : A) → Ends (flat_a x)) → (x : A) (text : List Lexeme) → Fit (flat_a x) text → IsStated text
stated_ends flat_a calm ends x text fit = record { calm = calm x text fit; semicolon = ends x text fit }

-- ---- the readers

abbrev quiet : (w : Expected) → IsExact never true (fits w) never (λ i. mark w i ∷ []) (token w)
quiet w = token-exact never w (λ c e. refl)

close_on : IsOn (is find_close) (fits (want.One class.Close)) (made piece.Close (token (want.One class.Close)))
close_on = made_on piece.Close find_close (quiet (want.One class.Close)) (λ x. refl) one_closing

heading-exact : (c : Class) → IsExact never true (fits (want.One c)) never (λ x. flat_heading c x.0 ++ one class.Open x.1) (heading_at c)
heading-exact c = renamed (λ x. flat_heading c x.0 ++ one class.Open x.1) (λ x. (record { keyword = x.0; name = x.1.0 }, x.1.1)) (λ x. (x.0.keyword, (x.0.name, x.1))) (λ x. refl)
    (token_then (quiet (want.One c)) (token_then (quiet want.Name) (quiet (want.One class.Open))))

opened_on : (c : Class) (make : Heading → Header) (find : Finds (λ (x : Heading × ℕ). piece.Open (make x.0) x.1)) → apart (fits (want.One c)) is_brace ≡ true → ((h : Heading) → flat_heading c h ≡ flat_header (make h)) → ((h : Heading) (i : ℕ) → is find (piece.Open (make h) i) ≡ true)
    → IsOn (is find) (fits (want.One c)) (block_start make c)
opened_on c make find e same finds = made_on (λ x. piece.Open (make x.0) x.1) find opened-exact (λ x. finds x.0 x.1)
    (λ x text fit. opening (flat_header (make x.0)) x.1 text (λ t h. heading_calm c e x.0 t (subst (λ ms. Fit ms t) (sym (same x.0)) h)) fit) where
      opened-exact : IsExact never true (fits (want.One c)) never (λ x. flat_piece (piece.Open (make x.0) x.1)) (heading_at c)
      opened-exact = let same_flat : (λ (x : Heading × ℕ). flat_heading c x.0 ++ one class.Open x.1) ≡ (λ x. flat_header (make x.0) ++ one class.Open x.1) = λ i x. same x.0 i ++ one class.Open x.1 in subst (λ f. IsExact never true (fits (want.One c)) never f (heading_at c)) same_flat (heading-exact c)

message_on : IsOn (is find_message) (fits (want.One class.Message)) (block_start header.Message class.Message)
message_on = opened_on class.Message header.Message find_message refl (λ h. refl) (λ h i. refl)

oneof_on : IsOn (is find_oneof) (fits (want.One class.Oneof)) (block_start header.Oneof class.Oneof)
oneof_on = opened_on class.Oneof header.Oneof find_oneof refl (λ h. refl) (λ h i. refl)

enum_on : IsOn (is find_enum) (fits (want.One class.Enum)) (block_start header.Enum class.Enum)
enum_on = opened_on class.Enum header.Enum find_enum refl (λ h. refl) (λ h i. refl)

service_on : IsOn (is find_service) (fits (want.One class.Service)) (block_start header.Service class.Service)
service_on = opened_on class.Service header.Service find_service refl (λ h. refl) (λ h i. refl)

empty_on : IsOn (is find_empty) (fits (want.One class.Semicolon)) (stated statement.Empty (token (want.One class.Semicolon)))
empty_on =
    let rule : IsExact is_brace true (fits (want.One class.Semicolon)) never (λ i. one class.Semicolon i) (token (want.One class.Semicolon)) = tok (want.One class.Semicolon) refl in
    made_on (λ i. piece.Statement (statement.Empty i)) find_empty rule (λ x. refl) (stated_ends (λ (i : ℕ). one class.Semicolon i) rule.calm semicolon_ends)

syntax_on : IsOn (is find_syntax) (fits (want.One class.Syntax)) (stated statement.Syntax syntax_at)
syntax_on = made_on (λ x. piece.Statement (statement.Syntax x)) find_syntax syntax-exact (λ x. refl) (stated_ends (flat_syntax) syntax-exact.calm syntax_ends)

import_on : IsOn (is find_import) (fits (want.One class.Import)) (stated statement.Import import_at)
import_on = made_on (λ x. piece.Statement (statement.Import x)) find_import import-exact (λ x. refl) (stated_ends (flat_import) import-exact.calm import_ends)

package_on : IsOn (is find_package) (fits (want.One class.Package)) (stated statement.Package package_at)
package_on = made_on (λ x. piece.Statement (statement.Package x)) find_package package-exact (λ x. refl) (stated_ends (flat_package) package-exact.calm package_ends)

option_on : IsOn (is find_option) (fits (want.One class.Option)) (stated statement.Option option_at)
option_on = made_on (λ x. piece.Statement (statement.Option x)) find_option option-exact (λ x. refl) (stated_ends (flat_option_statement) option-exact.calm option_ends)

field_on : IsOn (is find_field) starts_field (stated statement.Field field_at)
field_on = made_on (λ x. piece.Statement (statement.Field x)) find_field field-exact (λ x. refl) (stated_ends (flat_field) field-exact.calm field_ends)

map_field_on : IsOn (is find_map_field) (fits (want.One class.Map)) (stated statement.MapField map_field_at)
map_field_on = made_on (λ x. piece.Statement (statement.MapField x)) find_map_field map_field-exact (λ x. refl) (stated_ends (flat_map_field) map_field-exact.calm map_field_ends)

reserved_on : IsOn (is find_reserved) (fits (want.One class.Reserved)) (stated statement.Reserved (reserved_at (token (want.One class.Number))))
reserved_on = made_on (λ x. piece.Statement (statement.Reserved x)) find_reserved reserved-exact (λ x. refl) (stated_ends (flat_reserved flat_number) reserved-exact.calm (reserved_ends flat_number))

extensions_on : IsOn (is find_extensions) (fits (want.One class.Extensions)) (stated statement.Extensions extensions_at)
extensions_on = made_on (λ x. piece.Statement (statement.Extensions x)) find_extensions extensions-exact (λ x. refl) (stated_ends (flat_extensions) extensions-exact.calm extensions_ends)

value_on : IsOn (is find_value) (fits want.ValueName) (stated statement.Value value_at)
value_on = made_on (λ x. piece.Statement (statement.Value x)) find_value value-exact (λ x. refl) (stated_ends (flat_value) value-exact.calm value_ends)

enum_reserved_on : IsOn (is find_enum_reserved) (fits (want.One class.Reserved)) (stated statement.EnumReserved (reserved_at signed_at))
enum_reserved_on = made_on (λ x. piece.Statement (statement.EnumReserved x)) find_enum_reserved enum_reserved-exact (λ x. refl) (stated_ends (flat_reserved flat_signed) enum_reserved-exact.calm (reserved_ends flat_signed))

abbrev flat_ending : Ending → List Mark
flat_ending (ending.Semicolon i) = one class.Semicolon i
flat_ending (ending.Open i) = one class.Open i

ending_made : (x : Ending) → IsMade ending.Semicolon ending.Open x
ending_made (ending.Semicolon i) = Left i
ending_made (ending.Open i) = Right i

abbrev ends_method : Class → Bool
ends_method = any_of (fits (want.One class.Semicolon)) (fits (want.One class.Open))

abbrev no_class : Class → Bool
no_class = any_of never never

flat_method : (s : Signature) (x : Ending) → flat_signature s ++ flat_ending x ≡ flat_piece (method_piece s x)
flat_method s (ending.Semicolon i) = refl
flat_method s (ending.Open i) = refl

method-exact : IsExact never true (fits (want.One class.Rpc)) never (λ x. flat_piece (method_of x)) (signature_at then ending_at)
unfolding ending_at
method-exact =
    let ending-exact : IsExact never true ends_method no_class flat_ending ending_at = one_of (want.One class.Semicolon) flat_ending ending.Semicolon ending.Open ending_made (quiet (want.One class.Semicolon)) (quiet (want.One class.Open)) refl refl in
    let rule : IsExact never true (fits (want.One class.Rpc)) no_class (λ x. flat_signature x.0 ++ flat_ending x.1) (signature_at then ending_at) = token_then (hushed signature-exact) ending-exact in
    let same_flat : (λ (x : Signature × Ending). flat_signature x.0 ++ flat_ending x.1) ≡ (λ x. flat_piece (method_of x)) = λ i x. flat_method x.0 x.1 i in
    subst (λ f. IsExact never true (fits (want.One class.Rpc)) never f (signature_at then ending_at)) same_flat rule

method_ends : (x : Signature × Ending) (text : List Lexeme) → Fit (flat_piece (method_of x)) text → HasEnd (method_of x) text
method_ends (s, ending.Semicolon i) text fit =
    let rule : IsExact is_brace true (fits (want.One class.Rpc)) never (λ x. flat_signature x.0 ++ one class.Semicolon x.1) (signature_at then token (want.One class.Semicolon)) = token_then signature-exact (tok (want.One class.Semicolon) refl) in
    record { calm = rule.calm (s, i) text fit; semicolon = ends_behind (flat_signature s) (one class.Semicolon i) (semicolon_ends i) text fit }
method_ends (s, ending.Open i) text fit = opening (flat_signature s) i text (λ t h. signature-exact.calm s t h) fit

method_on : IsOn (is find_method) (fits (want.One class.Rpc)) method_at
unfolding method_at
method_on = made_on method_of find_method method-exact is_yes method_ends
  where
    is_yes : (x : Signature × Ending) → is find_method (method_of x) ≡ true
    is_yes (s, ending.Semicolon i) = refl
    is_yes (s, ending.Open i) = refl

extending-exact : IsExact is_brace true (fits (want.One class.Extend)) (any_of dots dots) flat_extending (made (λ x. record { keyword = x.0; extendee = x.1 }) (token (want.One class.Extend) then reference_at))
extending-exact = renamed flat_extending (λ x. record { keyword = x.0; extendee = x.1 }) (λ e. (e.keyword, e.extendee)) (λ e. refl) (token_then (tok (want.One class.Extend) refl) reference-exact)

extend-exact : IsExact never true (fits (want.One class.Extend)) never (λ x. flat_piece (extend_of x)) extend_at
extend-exact = renamed (λ x. flat_piece (extend_of x)) (λ x. (record { keyword = x.0; extendee = x.1.0 }, x.1.1)) (λ x. (x.0.keyword, (x.0.extendee, x.1))) (λ x. refl)
    (token_then (quiet (want.One class.Extend)) (next (hushed reference-exact) (quiet (want.One class.Open)) refl))

extend_on : IsOn (is find_extend) (fits (want.One class.Extend)) extending_at
unfolding extending_at
extend_on = made_on extend_of find_extend extend-exact (λ x. refl) (λ x text fit. opening (flat_extending x.0) x.1 text (λ t h. extending-exact.calm x.0 t h) fit)

abbrev pub enum_pieces : Piece → Bool
enum_pieces = either_of (is find_close) (either_of (is find_empty) (either_of (is find_option) (either_of (is find_enum_reserved) (is find_value))))

abbrev pub begins_enum_piece : Class → Bool
begins_enum_piece = any_of (fits (want.One class.Close)) (any_of (fits (want.One class.Semicolon)) (any_of (fits (want.One class.Option)) (any_of (fits (want.One class.Reserved)) (fits want.ValueName))))

abbrev pub elsewhere : Piece → Bool
elsewhere = either_of (is find_close) (either_of (is find_empty) (either_of (is find_message) (either_of (is find_oneof) (either_of (is find_enum) (either_of (is find_service) (either_of (is find_syntax) (either_of (is find_import) (either_of (is find_package) (either_of (is find_option) (either_of (is find_map_field) (either_of (is find_reserved) (either_of (is find_extensions) (either_of (is find_method) (either_of (is find_extend) (is find_field)))))))))))))))

abbrev pub begins_elsewhere : Class → Bool
begins_elsewhere = any_of (fits (want.One class.Close)) (any_of (fits (want.One class.Semicolon)) (any_of (fits (want.One class.Message)) (any_of (fits (want.One class.Oneof)) (any_of (fits (want.One class.Enum)) (any_of (fits (want.One class.Service)) (any_of (fits (want.One class.Syntax)) (any_of (fits (want.One class.Import)) (any_of (fits (want.One class.Package)) (any_of (fits (want.One class.Option)) (any_of (fits (want.One class.Map)) (any_of (fits (want.One class.Reserved)) (any_of (fits (want.One class.Extensions)) (any_of (fits (want.One class.Rpc)) (any_of (fits (want.One class.Extend)) (starts_field)))))))))))))))

pub enum_piece_on : IsOn enum_pieces begins_enum_piece enum_piece_at
unfolding enum_piece_at
enum_piece_on = or_on (want.One class.Close) close_on (or_on (want.One class.Semicolon) empty_on (or_on (want.One class.Option) option_on (or_on (want.One class.Reserved) enum_reserved_on (value_on) refl refl) refl refl) refl refl) refl refl

pub piece_on : IsOn elsewhere begins_elsewhere inner_piece_at
unfolding inner_piece_at
piece_on = or_on (want.One class.Close) close_on (or_on (want.One class.Semicolon) empty_on (or_on (want.One class.Message) message_on (or_on (want.One class.Oneof) oneof_on (or_on (want.One class.Enum) enum_on (or_on (want.One class.Service) service_on (or_on (want.One class.Syntax) syntax_on (or_on (want.One class.Import) import_on (or_on (want.One class.Package) package_on (or_on (want.One class.Option) option_on (or_on (want.One class.Map) map_field_on (or_on (want.One class.Reserved) reserved_on (or_on (want.One class.Extensions) extensions_on (or_on (want.One class.Rpc) method_on (or_on (want.One class.Extend) extend_on (field_on) refl refl) refl refl) refl refl) refl refl) refl refl) refl refl) refl refl) refl refl) refl refl) refl refl) refl refl) refl refl) refl refl) refl refl) refl refl
