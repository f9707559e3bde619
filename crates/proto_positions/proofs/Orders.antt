-- The text edits of edits in order are in order.
use Rattle.std.proofs.Common.{◌≡◌, ℕ, zero, suc, ◌+◌, ◌-◌, ◌<◌, ◌≤◌, Bool, true, false, List, [], ◌∷◌, length, take, map, nat_lt, refl, inl, inr, arith}
use Rattle.std.specs.List.{fold}
use Rattle.std.proofs.lemmas.Bool.Decides.{nat_tests}
use Rattle.proto_text.specs.Edits.{AreShort, Edit}
use Rattle.proto_positions.specs.declared.encoding.Encoding.{Encoding}
use Rattle.proto_positions.specs.declared.walk.Walk.{Walk}
use Rattle.proto_positions.specs.Positions.{position_of, start as begin, step}
use Rattle.proto_positions.specs.TextEdits.{AreInOrder, IsUpTo, TextEditsAreInOrder, text_edit}
use Rattle.proto_positions.proofs.Walks.{AtStart, IsLater, fold_later, step_starts, position_at}

same_walk : (w : Walk) → IsLater w w
same_walk w = record { line = omega arith; column = λ _. omega arith }

-- a walk over more bytes of a text is a later one
later_take : (e : Encoding) (w : Walk) (bs : List ℕ) (a b : ℕ) → a ≤ b → AtStart w → IsLater (fold (step e) w (take a bs)) (fold (step e) w (take b bs))
later_take e w bs zero b le start = fold_later e w (take b bs) start
later_take e w bs (suc a) zero le start = absurd (omega arith)
later_take e w [] (suc a) (suc b) le start = same_walk w
later_take e w (x ∷ bs) (suc a) (suc b) le start = later_take e (step e w x) bs a b (omega arith) (step_starts e w x start)

up_to : (w v : Walk) → IsLater w v → IsUpTo (position_at w) (position_at v)
up_to w v later = go (nat_lt w.line v.line) refl
  where
    go : (t : Bool) → nat_lt w.line v.line ≡ t → IsUpTo (position_at w) (position_at v)
    go true is = let less : w.line < v.line = grind (arith, nat_tests, is) in inl less
    go false is =
        let more : v.line ≤ w.line = grind (arith, nat_tests, is) in
        let same : w.line ≡ v.line = omega (arith, later.line, more) in
        let back : v.line ≡ w.line = omega (arith, same) in
        inr (same, later.column back)

rises : (e : Encoding) (text : List ℕ) (a b : ℕ) → a ≤ b → IsUpTo (position_of e text a) (position_of e text b)
rises e text a b le = up_to (fold (step e) begin (take a text)) (fold (step e) begin (take b text)) (later_take e begin text a b le (λ _. refl))

in_order : (e : Encoding) (text : List ℕ) (to from : ℕ) (es : List Edit) → AreShort to from es → AreInOrder (position_of e text from) (map (text_edit e text) es)
in_order e text to from [] are = tt
in_order e text to from (d ∷ ds) are =
    (rises e text from d.at are.0, rises e text d.at (d.at + length d.old) (omega arith), in_order e text ((to + (d.at - from)) + length d.new) (d.at + length d.old) ds are.3)

pub text_edits_are_in_order : TextEditsAreInOrder
text_edits_are_in_order e text es are = in_order e text 0 0 es are
