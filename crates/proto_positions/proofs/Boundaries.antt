-- Each position leads to where a character begins, not within a line end.
use Rattle.std.proofs.Common.{◌≡◌, ◌≢◌, ℕ, zero, suc, ◌+◌, ◌-◌, ◌<◌, ◌≤◌, Bool, true, false, List, [], ◌∷◌, length, get_or, take, drop, cond, refl, sym, ap, subst, ◌∙◌, arith, length-drop, drop-cons}
use Rattle.std.specs.Prelude.{◌⊎◌}
use Rattle.std.proofs.Common.{inl, inr}
use Rattle.std.proofs.lemmas.Bool.Decides.{nat_tests}
use Rattle.std.proofs.lemmas.List.Sums.{fold_more}
use Rattle.std.proofs.lemmas.Str.{IsCharBoundary-after_ascii, IsCharBoundary-before_ascii}
use Rattle.proto_base.specs.Ascii as ascii
use Rattle.proto_positions.specs.declared.encoding.Encoding.{Encoding}
use Rattle.proto_positions.specs.declared.position.Position.{Position}
use Rattle.proto_positions.specs.declared.walk.Walk.{Walk}
use Rattle.proto_positions.specs.Positions.{start as begin, HasPosition, walk_of, is_reached, offset_from, step}
use Rattle.proto_positions.specs.TextEdits.{AsciiHasPositions, OffsetsHavePositions}
use Rattle.proto_positions.proofs.Walks.{drop_head}

chosen : (b : Bool) (x y : ℕ) → ((b ≡ true) × (cond b x y ≡ x)) ⊎ ((b ≡ false) × (cond b x y ≡ y))
chosen true x y = inl (refl, refl)
chosen false x y = inr (refl, refl)

-- what is reached
reached_is : (w : Walk) (b : ℕ) (p : Position) → is_reached w b p ≡ true → (128 ≤ b → 192 ≤ b) × (w.follows_return ≡ true → b ≡ ascii.line_feed → ⊥)
reached_is w b p is = (grind (arith, nat_tests), grind (arith, nat_tests))

return_is_followed : (e : Encoding) (w : Walk) (b : ℕ) → b ≡ ascii.carriage_return → (step e w b).follows_return ≡ true
return_is_followed e w b is = grind (arith, nat_tests)

-- after a carriage return
follows_from : (e : Encoding) (text : List ℕ) (o : ℕ) → o ≤ length text → 0 < o → get_or text (o - 1) 0 ≡ ascii.carriage_return → (walk_of e (take o text)).follows_return ≡ true
follows_from e text zero within some is = absurd (omega arith)
follows_from e text (suc i) within some is =
    let lt : i < length text = omega arith in
    let more : walk_of e (take (i + 1) text) ≡ step e (walk_of e (take i text)) (get_or text i 0) = fold_more (step e) begin text i 0 lt in
    let one : i + 1 ≡ suc i = omega arith in
    let less : suc i - 1 ≡ i = omega arith in
    let last : get_or text i 0 ≡ ascii.carriage_return = subst (λ n. get_or text n 0 ≡ ascii.carriage_return) less is in
    subst (λ n. (walk_of e (take n text)).follows_return ≡ true) one
    (subst (λ (w : Walk). w.follows_return ≡ true) (sym more) (return_is_followed e (walk_of e (take i text)) (get_or text i 0) last))

at_end : (text : List ℕ) (o : ℕ) → o ≡ length text → HasPosition text o
at_end text o is = record { boundary = (omega arith, λ lt. absurd (omega arith)); whole = λ some lt. absurd (omega arith) }

position_from : (e : Encoding) (text : List ℕ) (p : Position) (o : ℕ) (rest : List ℕ) → o ≤ length text → drop o text ≡ rest → HasPosition text (o + offset_from e (walk_of e (take o text)) rest p)
position_from e text p o [] within is = at_end text (o + 0) (omega (arith, length-drop o text, ap length is))
position_from e text p o (b ∷ bs) within is =
    let head = drop_head text o b bs is in
    let w : Walk = walk_of e (take o text) in
    elim (chosen (is_reached w b p) 0 (offset_from e (step e w b) bs p + 1)) [
      | inl c ↦
          let r = reached_is w b p c.0 in
          let there : o + offset_from e w (b ∷ bs) p ≡ o = omega (arith, c.1) in
          subst (HasPosition text) (sym there) (record {
            boundary = (within, λ lt. subst (λ n. 128 ≤ n → 192 ≤ n) (sym head.1) r.0);
            whole = λ some lt cr feed. r.1 (follows_from e text o within some cr) (sym head.1 ∙ feed);
          })
      | inr c ↦
          let more : walk_of e (take (o + 1) text) ≡ step e w (get_or text o 0) = fold_more (step e) begin text o 0 head.0 in
          let left : drop (o + 1) text ≡ bs = tail_is text o b bs head.0 is in
          let next = position_from e text p (o + 1) bs (omega (arith, head.0)) left in
          let at : walk_of e (take (o + 1) text) ≡ step e w b = more ∙ ap (step e w) head.1 in
          let same : (o + 1) + offset_from e (walk_of e (take (o + 1) text)) bs p ≡ o + offset_from e w (b ∷ bs) p =
          omega (arith, c.1, ap (λ (v : Walk). offset_from e v bs p) at) in
          subst (HasPosition text) same next
    ]
  where
    tail_is : (text : List ℕ) (o b : ℕ) (bs : List ℕ) → o < length text → drop o text ≡ b ∷ bs → drop (o + 1) text ≡ bs
    tail_is text o b bs lt is =
        let one : o + 1 ≡ suc o = omega arith in
        let cut : drop o text ≡ get_or text o 0 ∷ drop (suc o) text = drop-cons text o 0 lt in
        ap (λ n. drop n text) one ∙ cc

pub offsets_have_positions : OffsetsHavePositions
offsets_have_positions e text p =
    let from : HasPosition text (0 + offset_from e begin text p) = position_from e text p 0 text (omega arith) refl in
    let none : 0 + offset_from e begin text p ≡ offset_from e begin text p = omega arith in
    subst (HasPosition text) none from

pub ascii_has_positions : AsciiHasPositions
ascii_has_positions text o utf8 lt low = (before, after)
  where
    before : get_or text o 0 ≢ ascii.line_feed → HasPosition text o
    before no_feed = record { boundary = IsCharBoundary-before_ascii text o lt low; whole = λ some within cr feed. no_feed feed }

    after : get_or text o 0 ≢ ascii.carriage_return → HasPosition text (o + 1)
    after no_return =
        let less : o + 1 - 1 ≡ o = omega arith in
        record { boundary = IsCharBoundary-after_ascii text o utf8 lt low; whole = λ some within cr feed. no_return (sym (ap (λ n. get_or text n 0) less) ∙ cr) }
