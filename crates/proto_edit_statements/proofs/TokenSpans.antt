-- From the start of one token to the end of another.
use Rattle.std.proofs.Common.{◌≡◌, ℕ, zero, suc, ◌<◌, ◌≤◌, List, [], ◌∷◌, length, get_or, refl, sym, subst, ◌∙◌, arith, IsCharBoundary}
use Rattle.proto_text.proofs.Common.{end_before, IsSpan, offset_at, AreTokens, tokens_are_in_order}
use Rattle.proto_text.specs.declared.lexer.Token.{Token}
use Rattle.proto_text.specs.declared.source.Span.{Span}
use Rattle.proto_text.proofs.Spans.{token_spans}

pub offset_is : (ts : List Token) (i : ℕ) (d : Token) → i < length ts → offset_at ts i ≡ (get_or ts i d).span.start
offset_is [] i d l = absurd (omega (arith, l))
offset_is (t ∷ ts) zero d l = refl
offset_is (t ∷ ts) (suc i) d l = offset_is ts i d (omega (arith, l))

pub end_is : (ts : List Token) (i : ℕ) (d : Token) → i < length ts → end_before ts (suc i) ≡ (get_or ts i d).span.end
end_is [] i d l = absurd (omega (arith, l))
end_is (t ∷ ts) zero d l = refl
end_is (t ∷ ts) (suc i) d l = end_is ts i d (omega (arith, l))

-- the text of some tokens can be asked for
pub spans_tokens : (text : List ℕ) (ts : List Token) → AreTokens text ts → (i j : ℕ) (d : Token) → i ≤ j → j < length ts → (span : Span) → span.start ≡ (get_or ts i d).span.start → span.end ≡ (get_or ts j d).span.end → IsSpan text span
spans_tokens text ts are i j d le l span from to =
    let spans = token_spans text ts are in
    let order = tokens_are_in_order text ts are in
    let inside : i < length ts = omega (arith, le, l) in
    let some = order.some i inside in
    let rising = order.rising (suc i) (suc j) (omega (arith, le)) (omega (arith, l)) in
    let e1 = offset_is ts i d inside in
    let e2 = end_is ts j d l in
    let first = spans i d inside in
    let last = spans j d l in
    record {
      ordered = omega (arith, some, rising, e1, e2, from, to);
      starts = subst (IsCharBoundary text) (sym from) first.starts;
      ends = subst (IsCharBoundary text) (sym to) last.ends;
    }

-- so can what stands between the ends of two
pub spans_between : (text : List ℕ) (ts : List Token) → AreTokens text ts → (i j : ℕ) (d : Token) → i ≤ j → j < length ts → (span : Span) → span.start ≡ (get_or ts i d).span.end → span.end ≡ (get_or ts j d).span.end → IsSpan text span
spans_between text ts are i j d le l span from to =
    let spans = token_spans text ts are in
    let inside : i < length ts = omega (arith, le, l) in
    let rising = (tokens_are_in_order text ts are).rising (suc i) (suc j) (omega (arith, le)) (omega (arith, l)) in
    let e1 = end_is ts i d inside in
    let e2 = end_is ts j d l in
    record {
      ordered = omega (arith, rising, e1, e2, from, to);
      starts = subst (IsCharBoundary text) (sym from) (spans i d inside).ends;
      ends = subst (IsCharBoundary text) (sym to) (spans j d l).ends;
    }

-- and from the start of one to the end of another, as other readings tell it
pub spans_told : (text : List ℕ) (ts : List Token) → AreTokens text ts → (i j : ℕ) (d : Token) → i ≤ j → j < length ts → (span : Span) → span.start ≡ offset_at ts i → span.end ≡ end_before ts (suc j) → IsSpan text span
spans_told text ts are i j d le l span from to =
    let inside : i < length ts = omega (arith, le, l) in
    spans_tokens text ts are i j d le l span (from ∙ offset_is ts i d inside) (to ∙ end_is ts j d l)
