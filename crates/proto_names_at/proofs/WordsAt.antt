-- Which word covers an offset, or ends there.
use Rattle.std.proofs.Common.{◌≡◌, ◌↔◌, ℕ, zero, suc, ◌+◌, ◌<◌, ◌≤◌, true, false, List, [], ◌∷◌, length, get_or, slice_get, Option, Some, None, sym, ap, subst, ◌∙◌, inl, inr, arith, nat_le, le-leb, leb-true, true≢false}
use Rattle.proto_base.proofs.Common.{IsPartitionPoint, IsPartitionedBy, cases_lt, get_or_from_slice_get, none-some, same_Some, slice_get-get_or, slice_get_within}
use Rattle.proto_text.specs.Segments.{AreInOrder, end_before}
use Rattle.proto_text.specs.Texts.{offset_at}
use Rattle.proto_text.specs.Tokens.{AreTokens}
use Rattle.proto_text.specs.declared.kind.TokenKind.TheVariants.{Word}
use Rattle.proto_text.specs.declared.lexer.Token.{Token}
use Rattle.proto_text.proofs.Order.{tokens_are_in_order}
use Rattle.proto_names_at.specs.Tokens.{AreBegun, Covers, IsWordAt, IsWordUpTo, StandApart}

-- ---- tokens of a text

offset_is : (ts : List Token) (i : ℕ) (t : Token) → slice_get ts i ≡ Some t → offset_at ts i ≡ t.span.start
offset_is [] i t e = absurd (none-some t e)
offset_is (x ∷ ts) zero t e = ap (λ (z : Token). z.span.start) (same_Some x t e)
offset_is (x ∷ ts) (suc i) t e = offset_is ts i t e

end_is : (ts : List Token) (i : ℕ) (t : Token) → slice_get ts i ≡ Some t → end_before ts (suc i) ≡ t.span.end
end_is [] i t e = absurd (none-some t e)
end_is (x ∷ ts) zero t e = ap (λ (z : Token). z.span.end) (same_Some x t e)
end_is (x ∷ ts) (suc i) t e = end_is ts i t e

pub stand_apart : (text : List ℕ) (tokens : List Token) → AreTokens text tokens → StandApart tokens
stand_apart text tokens are =
    let o = tokens_are_in_order text tokens are in
    record {
      some = λ i t e. (let l = slice_get_within tokens i t e in let a = o.some i l in let s = offset_is tokens i t e in let z = end_is tokens i t e in omega (arith, a, s, z));
      apart = λ i j t u e f below.
          (let l = slice_get_within tokens j u f in
          let r = o.rising (suc i) j (omega (arith, below)) (omega (arith, l)) in
          let a = o.apart j l in
          let z = end_is tokens i t e in
          let s = offset_is tokens j u f in
          omega (arith, r, a, z, s));
    }

few : (text : List ℕ) (tokens : List Token) → AreInOrder text tokens → (n : ℕ) → n ≤ length tokens → n ≤ end_before tokens n
few text tokens o zero l = omega arith
few text tokens o (suc n) l =
    let a = few text tokens o n (omega (arith, l)) in
    let b = o.apart n (omega (arith, l)) in
    let c = o.some n (omega (arith, l)) in
    omega (arith, a, b, c)

pub few_tokens : (text : List ℕ) (tokens : List Token) → AreTokens text tokens → length tokens ≤ length text
few_tokens text tokens are =
    let o = tokens_are_in_order text tokens are in
    let a = few text tokens o (length tokens) (omega arith) in
    let b = o.within (length tokens) (omega arith) in
    omega (arith, a, b)

-- ---- words that touch an offset

-- the token with this index is a word that begins at the offset or before it, and does not end before it
record Touches (tokens : List Token) (offset i : ℕ) : Type 0 where
  t : Token
  is : slice_get tokens i ≡ Some t
  word : t.kind ≡ Word
  before : t.span.start ≤ offset
  behind : offset ≤ t.span.end

touches : (tokens : List Token) → StandApart tokens → (offset i : ℕ) → IsWordAt tokens offset i → Touches tokens offset i
touches tokens apart offset i (inl c) = let a = c.begins in let b = c.ends in record { t = c.token; is = c.is; word = c.word; before = a; behind = omega (arith, b) }
touches tokens apart offset i (inr e) = let a = apart.some i e.0.token e.0.is in let b = e.0.ends in record { t = e.0.token; is = e.0.is; word = e.0.word; before = omega (arith, a, b); behind = omega (arith, b) }

-- none is past the text
pub none_past : (text : List ℕ) (tokens : List Token) → AreTokens text tokens → (offset : ℕ) → length text < offset → (i : ℕ) → IsWordAt tokens offset i → ⊥
none_past text tokens are offset past i at =
    let o = tokens_are_in_order text tokens are in
    let x = touches tokens (stand_apart text tokens are) offset i at in
    let l = slice_get_within tokens i x.t x.is in
    let w = o.within (suc i) (omega (arith, l)) in
    let z = end_is tokens i x.t x.is in
    let b = x.behind in
    omega (arith, w, z, b, past)

one_token : (tokens : List Token) (i j : ℕ) (t u : Token) → slice_get tokens i ≡ Some t → slice_get tokens j ≡ Some u → i ≡ j → t ≡ u
one_token tokens i j t u e f at = same_Some t u (sym e ∙ ap (slice_get tokens) at ∙ f)

-- the word at the offset is the last that touches it
module _ (tokens : List Token) (apart : StandApart tokens) (offset i : ℕ) where
  last_touching : Touches tokens offset i → ((j : ℕ) → Touches tokens offset j → j ≤ i) → IsWordAt tokens offset i
  last_touching x last = elim (cases_lt offset x.t.span.end) [
    | inl l ↦ inl (record { token = x.t; is = x.is; word = x.word; begins = x.before; ends = l })
    | inr ge ↦
        let a = x.behind in
        let e : x.t.span.end ≡ offset = omega (arith, a, ge) in
        inr (record { token = x.t; is = x.is; word = x.word; ends = e }, none e)
  ]
    where
      none : x.t.span.end ≡ offset → (other : ℕ) → Covers tokens offset other → ⊥
      none e other c =
          let l = last other (touches tokens apart offset other (inl c)) in
          let b = c.ends in
          let s = x.before in
          elim (cases_lt other i) [
            | inl below ↦ (let a = apart.apart other i c.token x.t c.is x.is below in omega (arith, a, b, s))
            | inr ge ↦ (let q = ap (λ (z : Token). z.span.end) (one_token tokens other i c.token x.t c.is x.is (omega (arith, l, ge))) in omega (arith, q, b, e))
          ]

  none_later : IsWordAt tokens offset i → (j : ℕ) → Touches tokens offset j → j ≤ i
  none_later at j y = elim (cases_lt i j) [
    | inr le ↦ le
    | inl below ↦ absurd (early at below)
  ]
    where
      early : IsWordAt tokens offset i → i < j → ⊥
      early (inl c) below = let a = apart.apart i j c.token y.t c.is y.is below in let b = c.ends in let s = y.before in omega (arith, a, b, s)
      early (inr e) below =
          let a = apart.apart i j e.0.token y.t e.0.is y.is below in
          let b = e.0.ends in
          let s = y.before in
          let some = apart.some j y.t y.is in
          e.1 j (record { token = y.t; is = y.is; word = y.word; begins = s; ends = omega (arith, a, b, s, some) })

-- ---- those that have begun

rise : (tokens : List Token) → StandApart tokens → (i j : ℕ) (t u : Token) → slice_get tokens i ≡ Some t → slice_get tokens j ≡ Some u → i ≤ j → t.span.start ≤ u.span.start
rise tokens apart i j t u e f le = elim (cases_lt i j) [
  | inl below ↦ (let a = apart.some i t e in let b = apart.apart i j t u e f below in omega (arith, a, b))
  | inr past ↦
      let same : i ≡ j = omega (arith, le, past) in
      let one : t ≡ u = same_Some t u (sym e ∙ ap (slice_get tokens) same ∙ f) in
      let starts = ap (λ (z : Token). z.span.start) one in
      omega (arith, starts)
]

pub partitioned : (tokens : List Token) → StandApart tokens → (offset : ℕ) → IsPartitionedBy (λ (t : Token). nat_le t.span.start offset) tokens
partitioned tokens apart offset i j d le lt h =
    let a = rise tokens apart i j (get_or tokens i d) (get_or tokens j d) (slice_get-get_or tokens i d (omega (arith, le, lt))) (slice_get-get_or tokens j d lt) le in
    let b = leb-true (get_or tokens j d).span.start offset h in
    le-leb (get_or tokens i d).span.start offset (omega (arith, a, b))

pub are_begun : (tokens : List Token) (offset count : ℕ) → count ≤ length tokens → IsPartitionPoint (λ (t : Token). nat_le t.span.start offset ≡ true) (λ (t : Token). nat_le t.span.start offset ≡ false) tokens count → AreBegun tokens offset count
are_begun tokens offset count le p = record {
  within = le;
  begun = λ i t e below.
      leb-true t.span.start offset (subst (λ (z : Token). nat_le z.span.start offset ≡ true) (get_or_from_slice_get tokens i t t e) (p.0 i t (omega arith) below));
  later = λ i t e past.
      (let not : nat_le t.span.start offset ≡ false = subst (λ (z : Token). nat_le z.span.start offset ≡ false) (get_or_from_slice_get tokens i t t e) (p.1 i t past (slice_get_within tokens i t e)) in
      elim (cases_lt offset t.span.start) [
        | inl l ↦ l
        | inr g ↦ absurd (true≢false (sym (le-leb t.span.start offset g) ∙ not))
      ]);
}

-- ---- the last two of them

module _ (tokens : List Token) (apart : StandApart tokens) (offset : ℕ) where
  no_word : ((i : ℕ) → Touches tokens offset i → ⊥) → (i : ℕ) → ◌≡◌ {A = Option ℕ} None (Some i) ↔ IsWordAt tokens offset i
  no_word never i = (λ e. absurd (none-some i e), λ at. absurd (never i (touches tokens apart offset i at)))

  one_word : (k : ℕ) → Touches tokens offset k → ((j : ℕ) → Touches tokens offset j → j ≤ k) → (i : ℕ) → (Some k ≡ Some i) ↔ IsWordAt tokens offset i
  one_word k x last i = (
    λ e. subst (IsWordAt tokens offset) (same_Some k i e) (last_touching tokens apart offset k x last),
    λ at.
        (let a = last i (touches tokens apart offset i at) in
        let b = none_later tokens apart offset i at k x in
        let same : k ≡ i = omega (arith, a, b) in
        ap (λ (z : ℕ). Some z) same),
  )

  module _ (count : ℕ) (are : AreBegun tokens offset count) where
    begins : (i : ℕ) → Touches tokens offset i → i < count
    begins i x = elim (cases_lt i count) [
      | inl l ↦ l
      | inr past ↦ (let a = are.later i x.t x.is past in let b = x.before in absurd (omega (arith, a, b)))
    ]

    pub none_begun : count ≡ 0 → (i : ℕ) → ◌≡◌ {A = Option ℕ} None (Some i) ↔ IsWordAt tokens offset i
    none_begun none = no_word (λ i x. (let l = begins i x in omega (arith, l, none)))

    module _ (last : ℕ) (t : Token) (count_is : count ≡ last + 1) (is : slice_get tokens last ≡ Some t) where
      starts : t.span.start ≤ offset
      starts = are.begun last t is (omega (arith, count_is))

      pub last_one : IsWordUpTo t offset → (i : ℕ) → (Some last ≡ Some i) ↔ IsWordAt tokens offset i
      last_one w = one_word last (record { t = t; is = is; word = w.word; before = starts; behind = w.ends }) (λ j x. (let l = begins j x in omega (arith, l, count_is)))

      module _ (other : IsWordUpTo t offset → ⊥) where
        -- what touches the offset is before the last
        earlier : (i : ℕ) → Touches tokens offset i → i < last
        earlier i x = elim (cases_lt i last) [
          | inl below ↦ below
          | inr ge ↦
              let l = begins i x in
              let same : x.t ≡ t = one_token tokens i last x.t t x.is is (omega (arith, l, ge, count_is)) in
              absurd (other (subst (λ (z : Token). IsWordUpTo z offset) same (record { word = x.word; ends = x.behind })))
        ]

        pub none_before : last ≡ 0 → (i : ℕ) → ◌≡◌ {A = Option ℕ} None (Some i) ↔ IsWordAt tokens offset i
        none_before none = no_word (λ i x. (let l = earlier i x in omega (arith, l, none)))

        module _ (before : ℕ) (u : Token) (last_is : last ≡ before + 1) (at : slice_get tokens before ≡ Some u) where
          pub one_before : IsWordUpTo u offset → (i : ℕ) → (Some before ≡ Some i) ↔ IsWordAt tokens offset i
          one_before w =
              one_word before (record { t = u; is = at; word = w.word; before = are.begun before u at (omega (arith, count_is, last_is)); behind = w.ends })
              (λ j x. (let l = earlier j x in omega (arith, l, last_is)))

          pub neither : (IsWordUpTo u offset → ⊥) → (i : ℕ) → ◌≡◌ {A = Option ℕ} None (Some i) ↔ IsWordAt tokens offset i
          neither not_u = no_word never
            where
              never : (i : ℕ) → Touches tokens offset i → ⊥
              never i x = elim (cases_lt i before) [
                -- it ends before the one before the last begins, which is not empty
                | inl below ↦
                    let a = apart.apart i before x.t u x.is at below in
                    let s = apart.some before u at in
                    let z = apart.apart before last u t at is (omega (arith, last_is)) in
                    let b = x.behind in
                    omega (arith, a, s, z, b, starts)
                | inr ge ↦
                    let l = earlier i x in
                    let same : x.t ≡ u = one_token tokens i before x.t u x.is at (omega (arith, l, ge, last_is)) in
                    not_u (subst (λ (z : Token). IsWordUpTo z offset) same (record { word = x.word; ends = x.behind }))
              ]
