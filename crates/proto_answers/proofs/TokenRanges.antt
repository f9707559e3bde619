-- Where tokens stand.
use Rattle.std.proofs.Common.{◌≡◌, ℕ, zero, suc, ◌<◌, ◌≤◌, List, [], ◌∷◌, length, get_or, refl, ap, ◌∙◌, arith, inl, inr}
use Rattle.proto_base.proofs.Common.{Text, cases_lt, get_or_past}
use Rattle.proto_text.proofs.Common.{AreTokens, end_before, offset_at, one_token_list, tokens_are_in_order}
use Rattle.proto_text.specs.declared.lexer.Token.{Token}
use Rattle.proto_text.specs.declared.source.Span.{Span}
use Rattle.proto_files.proofs.Common.{AreRead, FileOf, ReadOf, file_at, read_at}
use Rattle.proto_names_rules.specs.Grown.{at}
use Rattle.proto_positions.specs.declared.encoding.Encoding.{Encoding}
use Rattle.proto_answers.specs.Common.{location_of, no_token, range_of, span_of}
use Rattle.proto_answers.specs.declared.ranges.Location.{Location}
use Rattle.proto_answers.specs.declared.ranges.Range.{Range}

pub start_is : (ts : List Token) (i : ℕ) (d : Token) → i < length ts → offset_at ts i ≡ (get_or ts i d).span.start
start_is [] i d l = absurd (omega (arith, l))
start_is (t ∷ ts) zero d l = refl
start_is (t ∷ ts) (suc i) d l = start_is ts i d (omega (arith, l))

pub end_is : (ts : List Token) (i : ℕ) (d : Token) → i < length ts → end_before ts (suc i) ≡ (get_or ts i d).span.end
end_is [] i d l = absurd (omega (arith, l))
end_is (t ∷ ts) zero d l = refl
end_is (t ∷ ts) (suc i) d l = end_is ts i d (omega (arith, l))

-- each token lies in the text
pub span_within : (text : Text) (tokens : List Token) → AreTokens text tokens → (i : ℕ) → ((span_of tokens i).start ≤ length text) × ((span_of tokens i).end ≤ length text)
span_within text tokens are i = elim (cases_lt i (length tokens)) [
  | inl l ↦
      let o = tokens_are_in_order text tokens are in
      let some = o.some i l in
      let within = o.within (suc i) (omega (arith, l)) in
      let s = start_is tokens i no_token l in
      let z = end_is tokens i no_token l in
      (omega (arith, some, within, s, z), omega (arith, within, z))
  | inr past ↦
      let none = get_or_past tokens i no_token past in
      let s = ap (λ (t : Token). t.span.start) none in
      let z = ap (λ (t : Token). t.span.end) none in
      (omega (arith, s), omega (arith, z))
]

-- the same of a span that was asked for
pub spans_within : (bytes : Text) (tokens : List Token) → AreTokens bytes tokens → (text : Text) → text ≡ bytes → (i : ℕ) (span : Span) → span ≡ span_of tokens i → (span.start ≤ length text) × (span.end ≤ length text)
spans_within bytes tokens are text same i span is =
    let w = span_within bytes tokens are i in
    let n = ap length same in
    let s = ap (λ (x : Span). x.start) is in
    let z = ap (λ (x : Span). x.end) is in
    let a = w.0 in
    let b = w.1 in
    (omega (arith, a, n, s), omega (arith, b, n, z))

abbrev placed : ℕ → Range → Location
placed file range = record { file = file; range = range }

-- a range of a token is where it stands, however the file is read
pub range_stands : (e : Encoding) (files : List FileOf) (reads : List ReadOf) → AreRead files reads → (file token : ℕ) → file < length files → (text : Text) (tokens : List Token) (span : Span) (range : Range)
    → text ≡ (file_at files file).bytes → AreTokens (file_at files file).bytes tokens → span ≡ span_of tokens token → range ≡ range_of e text span
    → placed file range ≡ location_of e files reads (at file token)
range_stands e files reads are file token within text tokens span range text_is lexed span_is range_is =
    let bytes = (file_at files file).bytes in
    let same : tokens ≡ (read_at reads file).tokens = one_token_list bytes tokens (read_at reads file).tokens lexed (are.tokens file within) in
    ap (placed file) (range_is ∙ ap (λ (t : Text). range_of e t span) text_is ∙ ap (range_of e bytes) (span_is ∙ ap (λ (ts : List Token). span_of ts token) same))
