-- The texts that are put in are segments and UTF-8, and their tokens fit their statements (for the crates above).
use Rattle.std.proofs.Common.{◌≡◌, ℕ, ◌<◌, ◌≤◌, ◌^◌, Bool, true, false, ◌&&◌, ◌||◌, eqb, ltb, List, [], ◌∷◌, ◌++◌, inl, inr, cond, refl, sym, ap, ◌∙◌, arith, codes, decimal, if◌then◌else◌, IsAscii, IsUtf8, eqb-true, ltb-true}
use Rattle.proto_base.proofs.Common.{and_parts, both_ways, cases_lt, false_from_ne_true, nat_tests, IsAscii-decimal, IsUtf8-append, IsUtf8-from_ascii, IsAscii-cons, IsAscii-nil}
use Rattle.proto_text.specs.declared.class.Class.TheVariants.{Letter, Quote, Mark, Slash, Other}
use Rattle.proto_text.specs.declared.kind.PieceKind.TheVariants.{Solid}
use Rattle.proto_text.specs.declared.kind.TokenKind.TheVariants.{Word, Number, Text, Punctuation}
use Rattle.proto_text.proofs.Common.{EachByte, class_of, extends_word, is_digit, is_identifier, is_letter, is_mark, is_space, IsLexeme, IsRun, IsSegment, is_plain, quoted, IsString, Lexeme, StandsFor, says}
use Rattle.proto_tree.specs.declared.class.Class.TheVariants as class
use Rattle.proto_tree.specs.declared.class.Expected.TheVariants as want
use Rattle.proto_tree.proofs.Common.{fits, is_brace, Fit, flat, class_by, classes_in}
use Rattle.proto_edit_statement_laws.specs.Statements.{import_tree, import_tokens, reservation, reservation_tokens, semicolon_token, token_of_text}
use Rattle.proto_edit_rules.specs.AddImport.{import_text}
use Rattle.proto_edit_rules.specs.DeleteField.{reservation_text}
use Rattle.proto_edit_statement_laws.proofs.TextLaws.{Laws}
use Rattle.proto_tree.specs.Words.{class_as}
use Rattle.proto_base.specs.declared.profile.Profile.{Profile}
use Rattle.proto_base.specs.declared.profile.Profile.TheVariants.{AsWritten, Core}
use Rattle.proto_edit_statement_laws.specs.Reading.{HaveNoBrace}

-- ---- segments

reserved_word : IsLexeme (Solid Word) (codes "reserved")
unfolding class_of
reserved_word = (refl, (refl, (refl, (refl, (refl, (refl, (refl, (refl, tt))))))))

import_word : IsLexeme (Solid Word) (codes "import")
unfolding class_of
import_word = (refl, (refl, (refl, (refl, (refl, (refl, tt))))))

semicolon_mark : IsLexeme (Solid Punctuation) (59 ∷ [])
unfolding class_of
semicolon_mark = (59, refl, refl)

space_apart : is_identifier 32 ≡ false
unfolding class_of
space_apart = refl

semicolon_apart : is_identifier 59 ≡ false
unfolding class_of
semicolon_apart = refl

module _ (laws : Laws) where
  semicolon_segment : IsSegment (codes ";") (semicolon_token ∷ [])
  semicolon_segment = laws.token Punctuation (codes ";") semicolon_mark tt

  -- a string and a semicolon
  named_segment : (name : List ℕ) → IsString (quoted name) → IsSegment (quoted name ++ codes ";") (token_of_text Text (quoted name) ∷ semicolon_token ∷ [])
  named_segment name is = laws.join (quoted name) (codes ";") (token_of_text Text (quoted name) ∷ []) (semicolon_token ∷ []) (laws.token Text (quoted name) is tt) semicolon_segment

  pub spaced : (bytes : List ℕ) (ls : List Lexeme) → IsSegment bytes ls → IsSegment (32 ∷ bytes) ls
  spaced bytes ls h = laws.join (32 ∷ []) bytes [] ls (laws.space 32 refl) h

  pub import_segment : (path : List ℕ) → IsString (quoted path) → IsSegment (import_text path) (import_tokens path)
  import_segment path is = laws.before Word (codes "import") 32 (quoted path ++ codes ";") _ import_word space_apart (spaced _ _ (named_segment path is))

  pub reservation_segment : (number : ℕ) (name : List ℕ) → number < 2 ^ 64 → IsString (quoted name) → IsSegment (reservation_text number name) (reservation_tokens number name)
  reservation_segment number name small is =
      let again = laws.before Word (codes "reserved") 32 (quoted name ++ codes ";") _ reserved_word space_apart (spaced _ _ (named_segment name is)) in
      let ended = laws.join (codes ";") (32 ∷ (codes "reserved" ++ 32 ∷ (quoted name ++ codes ";"))) (semicolon_token ∷ []) _ semicolon_segment (spaced _ _ again) in
      let counted = laws.before Number (decimal number) 59 (32 ∷ (codes "reserved" ++ 32 ∷ (quoted name ++ codes ";"))) _ (laws.decimal number small) semicolon_apart ended in
      laws.before Word (codes "reserved") 32 (decimal number ++ 59 ∷ (32 ∷ (codes "reserved" ++ 32 ∷ (quoted name ++ codes ";")))) _ reserved_word space_apart (spaced _ _ counted)

-- ---- what fits

text_fits : (profile : Profile) (w : List ℕ) → fits want.Text (class_as profile (class_by Text w)) ≡ true
text_fits profile w = by profile (says w (codes "proto2") || says w (codes "proto3"))
  where
    by : (profile : Profile) (b : Bool) → fits want.Text (class_as profile (cond b class.ProtoText class.OtherText)) ≡ true
    by AsWritten true = refl
    by AsWritten false = refl
    by Core true = refl
    by Core false = refl

pub reservation_fits : (profile : Profile) (i number : ℕ) (name : List ℕ) → Fit (flat (reservation i)) (classes_in profile i (reservation_tokens number name))
reservation_fits AsWritten i number name = (
  refl,
  refl,
  (refl, omega arith, (refl, omega arith, (refl, omega arith, (text_fits AsWritten (quoted name), omega arith, (refl, omega arith, tt))))),
)
reservation_fits Core i number name = (
  refl,
  refl,
  (refl, omega arith, (refl, omega arith, (refl, omega arith, (text_fits Core (quoted name), omega arith, (refl, omega arith, tt))))),
)

pub import_fits : (profile : Profile) (i : ℕ) (path : List ℕ) → Fit (flat (import_tree i)) (classes_in profile i (import_tokens path))
import_fits AsWritten i path = (refl, refl, (text_fits AsWritten (quoted path), omega arith, (refl, omega arith, tt)))
import_fits Core i path = (refl, refl, (text_fits Core (quoted path), omega arith, (refl, omega arith, tt)))

-- ---- no brace is in what is put in

text_no_brace : (w : List ℕ) → is_brace (class_by Text w) ≡ false
text_no_brace w = by (says w (codes "proto2") || says w (codes "proto3"))
  where
    by : (b : Bool) → is_brace (cond b class.ProtoText class.OtherText) ≡ false
    by true = refl
    by false = refl

pub reservation_has_no_brace : (number : ℕ) (name : List ℕ) → HaveNoBrace (reservation_tokens number name)
reservation_has_no_brace number name = (refl, (refl, (refl, (refl, (text_no_brace (quoted name), (refl, tt))))))

pub import_has_no_brace : (path : List ℕ) → HaveNoBrace (import_tokens path)
import_has_no_brace path = (refl, (text_no_brace (quoted path), (refl, tt)))

-- ---- a word stands for itself in quotes

apart_from : (b n : ℕ) → is_identifier n ≡ false → is_identifier b ≡ true → eqb b n ≡ false
apart_from b n e h = false_from_ne_true (eqb b n) (λ t. both_ways (is_identifier n) e (ap is_identifier (sym (eqb-true b n t)) ∙ h))

no_identifiers : (is_identifier 34 ≡ false) × (is_identifier 39 ≡ false) × (is_identifier 92 ≡ false) × (is_identifier 10 ≡ false) × (is_identifier 0 ≡ false)
unfolding class_of
no_identifiers = (refl, refl, refl, refl, refl)

plain : (b : ℕ) → is_identifier b ≡ true → is_plain b ≡ true
plain b h = rw (apart_from b 34 no_identifiers.0 h, apart_from b 39 no_identifiers.1 h, apart_from b 92 no_identifiers.2 h, apart_from b 10 no_identifiers.3 h, apart_from b 0 no_identifiers.4 h) refl

no_space : (b : ℕ) → 128 ≤ b → is_space b ≡ false
no_space b h = grind (arith, nat_tests)

no_letter : (b : ℕ) → 128 ≤ b → is_letter b ≡ false
no_letter b h = grind (arith, nat_tests)

no_digit : (b : ℕ) → 128 ≤ b → is_digit b ≡ false
no_digit b h = grind (arith, nat_tests)

other_class : (x y z : Bool) → extends_word (if x then Quote else (if y then Mark else (if z then Slash else Other))) ≡ false
other_class true y z = refl
other_class false true z = refl
other_class false false true = refl
other_class false false false = refl

high_is_none : (b : ℕ) → 128 ≤ b → is_identifier b ≡ false
unfolding class_of
high_is_none b h = rw (no_space b h, no_letter b h, no_digit b h) (other_class (eqb b 34 || eqb b 39) (is_mark b) (eqb b 47))

ascii : (b : ℕ) → is_identifier b ≡ true → b < 128
ascii b h = elim (cases_lt b 128) [
  | inl lt ↦ lt
  | inr ge ↦ absurd (both_ways (is_identifier b) (high_is_none b ge) h)
]

each_plain : (w : List ℕ) → EachByte is_identifier w → EachByte is_plain w
each_plain [] h = tt
each_plain (b ∷ w) h = (plain b h.0, each_plain w h.1)

each_ascii : (w : List ℕ) → EachByte is_identifier w → IsAscii w
each_ascii [] h = IsAscii-nil
each_ascii (b ∷ w) h = IsAscii-cons b w (ascii b h.0) (each_ascii w h.1)

letter_extends : (b : ℕ) → class_of b ≡ Letter → is_identifier b ≡ true
letter_extends b e = ap extends_word e

each_of_run : (w : List ℕ) → IsRun Letter w → EachByte is_identifier w
each_of_run [] h = absurd h
each_of_run (b ∷ w) h = (letter_extends b h.0, h.1)

pub word_is_string : Laws → (w : List ℕ) → IsRun Letter w → IsString (quoted w) × StandsFor (quoted w) w
word_is_string laws w run = let each = each_of_run w run in laws.quoted w (each_plain w each) (IsUtf8-from_ascii w (each_ascii w each))

-- ---- encoding

abbrev are_low : List ℕ → Bool
are_low [] = true
are_low (b ∷ w) = ltb b 128 && are_low w

low_ascii : (w : List ℕ) → are_low w ≡ true → IsAscii w
low_ascii [] h = IsAscii-nil
low_ascii (b ∷ w) h = let p = and_parts (ltb b 128) (are_low w) h in IsAscii-cons b w (ltb-true b 128 p.0) (low_ascii w p.1)

low_utf8 : (w : List ℕ) → are_low w ≡ true → IsUtf8 w
low_utf8 w h = IsUtf8-from_ascii w (low_ascii w h)

quoted_utf8 : (value : List ℕ) → IsUtf8 value → IsUtf8 (quoted value)
quoted_utf8 value h = IsUtf8-append (codes "\"") (value ++ codes "\"") (low_utf8 _ refl) (IsUtf8-append value (codes "\"") h (low_utf8 _ refl))

pub import_utf8 : (path : List ℕ) → IsUtf8 path → IsUtf8 (import_text path)
import_utf8 path h = IsUtf8-append (codes "import ") (quoted path ++ codes ";") (low_utf8 _ refl) (IsUtf8-append (quoted path) (codes ";") (quoted_utf8 path h) (low_utf8 _ refl))

pub reservation_utf8 : (number : ℕ) (name : List ℕ) → number < 2 ^ 64 → IsRun Letter name → IsUtf8 (reservation_text number name)
reservation_utf8 number name small run =
    IsUtf8-append (codes "reserved ") (decimal number ++ (codes "; reserved " ++ (quoted name ++ codes ";"))) (low_utf8 _ refl)
    (IsUtf8-append (decimal number) (codes "; reserved " ++ (quoted name ++ codes ";")) (IsUtf8-from_ascii (decimal number) (IsAscii-decimal number small))
    (IsUtf8-append (codes "; reserved ") (quoted name ++ codes ";") (low_utf8 _ refl)
    (IsUtf8-append (quoted name) (codes ";") (quoted_utf8 name (IsUtf8-from_ascii name (each_ascii name (each_of_run name run)))) (low_utf8 _ refl))))

pub spaced_utf8 : (bytes : List ℕ) → IsUtf8 bytes → IsUtf8 (codes " " ++ bytes)
spaced_utf8 bytes h = IsUtf8-append (codes " ") bytes (low_utf8 _ refl) h

pub feed_utf8 : IsUtf8 (codes "\n")
feed_utf8 = low_utf8 _ refl
