-- Tokens begin and end at offsets that have positions of their own.
use Rattle.std.proofs.Common.{◌≡◌, ◌≢◌, ℕ, zero, suc, ◌+◌, ◌-◌, ◌<◌, ◌≤◌, Bool, true, false, List, [], ◌∷◌, ◌++◌, length, get_or, take, drop, refl, sym, ap, subst, ◌∙◌, arith, inl, inr, append-nil, drop-cons, length-drop}
use Rattle.std.proofs.lemmas.List.{get_or-drop}
use Rattle.proto_base.proofs.Common.{Text, cases_lt, take_more}
use Rattle.proto_base.specs.Ascii as ascii
use Rattle.proto_text.specs.declared.class.Class.{Class}
use Rattle.proto_text.specs.declared.class.Class.TheVariants as class
use Rattle.proto_text.specs.declared.kind.PieceKind.TheVariants.{Solid}
use Rattle.proto_text.specs.declared.kind.TokenKind.{TokenKind}
use Rattle.proto_text.specs.declared.kind.TokenKind.TheVariants as kind
use Rattle.proto_text.specs.declared.lexer.Token.{Token}
use Rattle.proto_text.proofs.Common.{AreTokens, EachByte, IsLexeme, end_before, is_identifier, offset_at, text_at, token_is_lexeme, tokens_are_in_order}
use Rattle.proto_text.specs.Classes.{class_of}
use Rattle.proto_text.proofs.Spans.{boundary, token_spans}
use Rattle.proto_text.specs.Pieces.{pieces_text}
use Rattle.proto_positions.specs.Positions.{HasPosition}
use Rattle.proto_answers.proofs.TokenRanges.{end_is, start_is}
use Rattle.proto_answers.specs.Common.{no_token}

-- ---- bytes of line ends are white space

feed_is_space : class_of 10 ≡ class.Space
unfolding class_of
feed_is_space = refl

return_is_space : class_of 13 ≡ class.Space
unfolding class_of
return_is_space = refl

return_extends_none : is_identifier 13 ≡ false
unfolding class_of
return_extends_none = refl

pub no_feed : (b : ℕ) (k : Class) → class_of b ≡ k → (k ≡ class.Space → ⊥) → b ≢ ascii.line_feed
no_feed b k is other feed = other (sym is ∙ ap class_of feed ∙ feed_is_space)

pub no_return : (b : ℕ) (k : Class) → class_of b ≡ k → (k ≡ class.Space → ⊥) → b ≢ ascii.carriage_return
no_return b k is other is_cr = other (sym is ∙ ap class_of is_cr ∙ return_is_space)

feed_extends_none : is_identifier 10 ≡ false
unfolding class_of
feed_extends_none = refl

pub extends_no_feed : (b : ℕ) → is_identifier b ≡ true → b ≢ ascii.line_feed
extends_no_feed b is feed = differ (sym feed_extends_none ∙ sym (ap is_identifier feed) ∙ is)
  where
    differ : false ≡ true → ⊥
    differ e = cc

pub extends_no_return : (b : ℕ) → is_identifier b ≡ true → b ≢ ascii.carriage_return
extends_no_return b is is_cr = differ (sym return_extends_none ∙ sym (ap is_identifier is_cr) ∙ is)
  where
    differ : false ≡ true → ⊥
    differ e = cc

pub letter≢space : class.Letter ≡ class.Space → ⊥
letter≢space e = cc

digit≢space : class.Digit ≡ class.Space → ⊥
digit≢space e = cc

quote≢space : class.Quote ≡ class.Space → ⊥
quote≢space e = cc

mark≢space : class.Mark ≡ class.Space → ⊥
mark≢space e = cc

-- ---- the first and the last byte of a token

head_same : (a b : ℕ) (x y : List ℕ) → a ∷ x ≡ b ∷ y → a ≡ b
head_same a b x y e = cc

tail_same : (a b : ℕ) (x y : List ℕ) → a ∷ x ≡ b ∷ y → x ≡ y
tail_same a b x y e = cc

last_same : (xs ys : List ℕ) (a b : ℕ) → xs ++ a ∷ [] ≡ ys ++ b ∷ [] → a ≡ b
last_same [] [] a b e = head_same a b [] [] e
last_same [] (y ∷ []) a b e = absurd cc
last_same [] (y ∷ z ∷ ys) a b e = absurd cc
last_same (x ∷ []) [] a b e = absurd cc
last_same (x ∷ z ∷ xs) [] a b e = absurd cc
last_same (x ∷ xs) (y ∷ ys) a b e = last_same xs ys a b (tail_same x y (xs ++ a ∷ []) (ys ++ b ∷ []) e)

each_last : (p : ℕ → Bool) (xs front : List ℕ) (b : ℕ) → EachByte p xs → xs ≡ front ++ b ∷ [] → p b ≡ true
each_last p [] [] b each e = absurd cc
each_last p [] (y ∷ front) b each e = absurd cc
each_last p (x ∷ xs) [] b each e = ap p (sym (head_same x b xs [] e)) ∙ each.0
each_last p (x ∷ xs) (y ∷ front) b each e = each_last p xs front b each.1 (tail_same x y xs (front ++ b ∷ []) e)

first_is : (k : TokenKind) (b : ℕ) (rest : List ℕ) → IsLexeme (Solid k) (b ∷ rest) → b ≢ ascii.line_feed
first_is kind.Word b rest is = no_feed b class.Letter is.0 letter≢space
first_is kind.Number b rest is = no_feed b class.Digit is.0.0 digit≢space
first_is kind.Text b rest is = no_feed b class.Quote (ap class_of (head_same b is.0 rest (is.1 ++ is.0 ∷ []) is.2.1) ∙ is.2.0) quote≢space
first_is kind.Punctuation b rest is = no_feed b class.Mark (ap class_of (head_same b is.0 rest [] is.1) ∙ is.2) mark≢space

-- of identifier characters
run_last : (k : Class) → (k ≡ class.Space → ⊥) → (x : ℕ) (xs front : List ℕ) (b : ℕ) → class_of x ≡ k → EachByte is_identifier xs → x ∷ xs ≡ front ++ b ∷ [] → b ≢ ascii.carriage_return
run_last k other x xs [] b first each e = no_return b k (ap class_of (sym (head_same x b xs [] e)) ∙ first) other
run_last k other x xs (y ∷ front) b first each e = extends_no_return b (each_last is_identifier xs front b each (tail_same x y xs (front ++ b ∷ []) e))

last_is : (k : TokenKind) (bytes front : List ℕ) (b : ℕ) → IsLexeme (Solid k) bytes → bytes ≡ front ++ b ∷ [] → b ≢ ascii.carriage_return
last_is kind.Word [] front b is e = absurd is
last_is kind.Word (x ∷ xs) front b is e = run_last class.Letter letter≢space x xs front b is.0 is.1 e
last_is kind.Number [] front b is e = absurd is.0
last_is kind.Number (x ∷ xs) front b is e = run_last class.Digit digit≢space x xs front b is.0.0 is.0.1 e
last_is kind.Text bytes front b is e = no_return b class.Quote (ap class_of (sym (last_same (is.0 ∷ is.1) front is.0 b (sym is.2.1 ∙ e))) ∙ is.2.0) quote≢space
last_is kind.Punctuation bytes front b is e = no_return b class.Mark (ap class_of (sym (last_same [] front is.0 b (sym is.1 ∙ e))) ∙ is.2) mark≢space

-- ---- the ends of tokens

at_zero : (text : Text) (tokens : List Token) → AreTokens text tokens → (o : ℕ) → o ≡ 0 → HasPosition text o
at_zero text tokens are o is =
    let whole : text ≡ [] ++ pieces_text are.0 = are.1.1 ∙ append-nil (pieces_text are.0) in
    subst (HasPosition text) (sym is) (record { boundary = boundary text [] are.0 are.1.0 whole; whole = λ some within cr feed. absurd (omega (arith, some)) })

module _ (text : Text) (tokens : List Token) (are : AreTokens text tokens) (i : ℕ) (l : i < length tokens) where
  starts : offset_at tokens i ≡ (get_or tokens i no_token).span.start
  starts = start_is tokens i no_token l

  ends : end_before tokens (suc i) ≡ (get_or tokens i no_token).span.end
  ends = end_is tokens i no_token l

  lexeme : IsLexeme (Solid (get_or tokens i no_token).kind) (text_at text (get_or tokens i no_token).span)
  lexeme = token_is_lexeme text tokens i no_token are l

  -- from its start its text stands in the text
  some : (get_or tokens i no_token).span.start < (get_or tokens i no_token).span.end
  some = let o = (tokens_are_in_order text tokens are).some i l in omega (arith, o, starts, ends)

  inside : (get_or tokens i no_token).span.end ≤ length text
  inside = let o = (tokens_are_in_order text tokens are).within (suc i) (omega (arith, l)) in omega (arith, o, ends)

  pub start_has_position : HasPosition text (offset_at tokens i)
  start_has_position = subst (HasPosition text) (sym starts) (record { boundary = (token_spans text tokens are i no_token l).starts; whole = λ above below cr feed. first_is (get_or tokens i no_token).kind (get_or text (get_or tokens i no_token).span.start 0) (take ((get_or tokens i no_token).span.end - (get_or tokens i no_token).span.start - 1) (drop (suc (get_or tokens i no_token).span.start) text)) text_begins feed })
    where
      text_begins : IsLexeme (Solid (get_or tokens i no_token).kind) (get_or text (get_or tokens i no_token).span.start 0 ∷ take ((get_or tokens i no_token).span.end - (get_or tokens i no_token).span.start - 1) (drop (suc (get_or tokens i no_token).span.start) text))
      text_begins =
          let from = (get_or tokens i no_token).span.start in
          let n = (get_or tokens i no_token).span.end - from - 1 in
          let more : (get_or tokens i no_token).span.end - from ≡ suc n = omega (arith, some) in
          let within : from < length text = omega (arith, some, inside) in
          subst (IsLexeme (Solid (get_or tokens i no_token).kind)) (ap (λ (m : ℕ). take m (drop from text)) more ∙ ap (take (suc n)) (drop-cons text from 0 within)) lexeme

  pub end_has_position : HasPosition text (end_before tokens (suc i))
  end_has_position = subst (HasPosition text) (sym ends) (record { boundary = (token_spans text tokens are i no_token l).ends; whole = λ above below cr feed. last_is (get_or tokens i no_token).kind (text_at text (get_or tokens i no_token).span) (take ((get_or tokens i no_token).span.end - (get_or tokens i no_token).span.start - 1) (drop (get_or tokens i no_token).span.start text)) (get_or text ((get_or tokens i no_token).span.end - 1) 0) lexeme text_ends cr })
    where
      text_ends : text_at text (get_or tokens i no_token).span ≡ take ((get_or tokens i no_token).span.end - (get_or tokens i no_token).span.start - 1) (drop (get_or tokens i no_token).span.start text) ++ get_or text ((get_or tokens i no_token).span.end - 1) 0 ∷ []
      text_ends =
          let from = (get_or tokens i no_token).span.start in
          let to = (get_or tokens i no_token).span.end in
          let n = to - from - 1 in
          let more : to - from ≡ n + 1 = omega (arith, some) in
          let left : n < length (drop from text) = (let d = length-drop from text in omega (arith, d, some, inside)) in
          let last : from + n ≡ to - 1 = omega (arith, some) in
          ap (λ (m : ℕ). take m (drop from text)) more
          ∙ take_more (drop from text) n 0 left
          ∙ ap (λ (b : ℕ). take n (drop from text) ++ b ∷ []) (get_or-drop from text n 0 ∙ ap (λ (m : ℕ). get_or text m 0) last)

-- ---- where edits begin and end: at the beginning of a token, or behind one

offset_past : (ts : List Token) (i : ℕ) → length ts ≤ i → offset_at ts i ≡ 0
offset_past [] i l = refl
offset_past (t ∷ ts) zero l = absurd (omega (arith, l))
offset_past (t ∷ ts) (suc i) l = offset_past ts i (omega (arith, l))

end_past : (ts : List Token) (i : ℕ) → length ts < i → end_before ts i ≡ 0
end_past ts zero l = refl
end_past [] (suc i) l = refl
end_past (t ∷ ts) (suc zero) l = absurd (omega (arith, l))
end_past (t ∷ ts) (suc (suc i)) l = end_past ts (suc i) (omega (arith, l))

module _ (text : Text) (tokens : List Token) (are : AreTokens text tokens) where
  pub offset_has_position : (i : ℕ) → HasPosition text (offset_at tokens i)
  offset_has_position i = elim (cases_lt i (length tokens)) [
    | inl l ↦ start_has_position text tokens are i l
    | inr past ↦ at_zero text tokens are (offset_at tokens i) (offset_past tokens i past)
  ]

  pub end_before_has_position : (i : ℕ) → HasPosition text (end_before tokens i)
  end_before_has_position zero = at_zero text tokens are (end_before tokens zero) refl
  end_before_has_position (suc i) = elim (cases_lt i (length tokens)) [
    | inl l ↦ end_has_position text tokens are i l
    | inr past ↦ at_zero text tokens are (end_before tokens (suc i)) (end_past tokens (suc i) (omega (arith, past)))
  ]

  -- each lies in the text
  pub offset_within : (i : ℕ) → offset_at tokens i ≤ length text
  offset_within i = (offset_has_position i).boundary.0

  pub end_within : (i : ℕ) → end_before tokens i ≤ length text
  end_within i = (end_before_has_position i).boundary.0
