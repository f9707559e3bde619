-- Walks through a text: how they go on, and that a position is found again.
use Rattle.std.proofs.lemmas.List.{take-append-drop, length-take-le}
use Rattle.std.proofs.lemmas.List.Sums.{fold_more}
use Rattle.proto_positions.specs.TextEdits.{PositionsLeadBack}
use Rattle.std.proofs.Common.{zero, length-drop, drop-cons, ◌≡◌, ℕ, ◌+◌, ◌-◌, ◌<◌, ◌≤◌, Bool, true, false, List, [], ◌∷◌, ◌++◌, length, get_or, take, drop, cond, refl, ap, subst, ◌∙◌, arith, suc}
use Rattle.std.specs.List.{fold}
use Rattle.std.proofs.lemmas.Bool.Decides.{nat_tests}
use Rattle.proto_base.specs.Ascii as ascii
use Rattle.proto_positions.specs.declared.encoding.Encoding.{Encoding}
use Rattle.proto_positions.specs.declared.position.Position.{Position}
use Rattle.proto_positions.specs.declared.walk.Walk.{Walk}
use Rattle.proto_positions.specs.Positions.{start as begin, position_of, step, is_reached, offset_from}

-- after a carriage return a line has only begun
abbrev pub AtStart : Walk → Type 0
AtStart w = w.follows_return ≡ true → w.column ≡ 0

-- a later walk: of a later line, or of the same and no earlier column
pub record IsLater (w v : Walk) : Type 0 where
  pub line : w.line ≤ v.line
  pub column : v.line ≡ w.line → w.column ≤ v.column

-- the position of a walk
abbrev pub position_at : Walk → Position
position_at w = record { line = w.line; character = w.column }

pub step_starts : (e : Encoding) (w : Walk) (b : ℕ) → AtStart w → AtStart (step e w b)
step_starts e w b start = grind (arith, nat_tests)

pub step_later : (e : Encoding) (w : Walk) (b : ℕ) → AtStart w → IsLater w (step e w b)
step_later e w b start = record { line = grind (arith, nat_tests); column = grind (arith, nat_tests) }

pub later_later : (u v w : Walk) → IsLater u v → IsLater v w → IsLater u w
later_later u v w a b = record { line = omega (arith, a.line, b.line); column = λ same. omega (arith, a.line, b.line, a.column, b.column) }

pub fold_later : (e : Encoding) (w : Walk) (bs : List ℕ) → AtStart w → IsLater w (fold (step e) w bs)
fold_later e w [] start = record { line = omega arith; column = λ _. omega arith }
fold_later e w (b ∷ bs) start = later_later w (step e w b) (fold (step e) (step e w b) bs) (step_later e w b start) (fold_later e (step e w b) bs (step_starts e w b start))

-- a walk that goes on has not come to what follows its next byte
pub not_reached : (e : Encoding) (w v : Walk) (b : ℕ) → AtStart w → IsLater (step e w b) v → is_reached w b (position_at v) ≡ false
not_reached e w v b start later = grind (arith, nat_tests, later.line, later.column)

pub if_true : (b : Bool) (x y : ℕ) → b ≡ true → cond b x y ≡ x
if_true true x y is = refl
if_true false x y is = cc

pub if_false : (b : Bool) (x y : ℕ) → b ≡ false → cond b x y ≡ y
if_false true x y is = cc
if_false false x y is = refl

-- what follows a prefix is found again, where the walk stops there
pub found_again : (e : Encoding) (w : Walk) (prefix rest : List ℕ) → AtStart w
    → ((b : ℕ) (bs : List ℕ) → rest ≡ b ∷ bs → is_reached (fold (step e) w prefix) b (position_at (fold (step e) w prefix)) ≡ true)
    → offset_from e w (prefix ++ rest) (position_at (fold (step e) w prefix)) ≡ length prefix
found_again e w [] [] start stops = refl
found_again e w [] (b ∷ bs) start stops = if_true _ _ _ (stops b bs refl)
found_again e w (b ∷ prefix) rest start stops =
    if_false _ _ _ (not_reached e w (fold (step e) (step e w b) prefix) b start (fold_later e (step e w b) prefix (step_starts e w b start)))
    ∙ (let more = found_again e (step e w b) prefix rest (step_starts e w b start) stops in omega (arith, more))

-- a walk that follows a carriage return
pub step_follows : (e : Encoding) (w : Walk) (b : ℕ) → (step e w b).follows_return ≡ true → b ≡ ascii.carriage_return
step_follows e w b is = grind (arith, nat_tests)

-- a walk stops where a character begins, not within a line end
reached : (w : Walk) (b : ℕ) → (128 ≤ b → 192 ≤ b) → (w.follows_return ≡ true → b ≡ ascii.line_feed → ⊥) → is_reached w b (position_at w) ≡ true
reached w b boundary whole = grind (arith, nat_tests)

-- what is left begins with what stands there
pub drop_head : (xs : List ℕ) (i b : ℕ) (bs : List ℕ) → drop i xs ≡ b ∷ bs → (i < length xs) × (get_or xs i 0 ≡ b)
drop_head xs i b bs is =
    let some : i < length xs = omega (arith, length-drop i xs, ap length is) in
    let head : drop i xs ≡ get_or xs i 0 ∷ drop (suc i) xs = drop-cons xs i 0 some in
    (some, cc)

-- after what ends in a carriage return
pub ends_in_cr : (e : Encoding) (text : List ℕ) (o : ℕ) → o ≤ length text → (fold (step e) begin (take o text)).follows_return ≡ true
    → (0 < o) × (get_or text (o - 1) 0 ≡ ascii.carriage_return)
ends_in_cr e text zero within is = cc
ends_in_cr e text (suc i) within is =
    let lt : i < length text = omega arith in
    let more : fold (step e) begin (take (i + 1) text) ≡ step e (fold (step e) begin (take i text)) (get_or text i 0) = fold_more (step e) begin text i 0 lt in
    let one : suc i ≡ i + 1 = omega arith in
    let less : suc i - 1 ≡ i = omega arith in
    let there : (step e (fold (step e) begin (take i text)) (get_or text i 0)).follows_return ≡ true =
    subst (λ (w : Walk). w.follows_return ≡ true) more (subst (λ n. (fold (step e) begin (take n text)).follows_return ≡ true) one is) in
    (omega arith, ap (λ n. get_or text n 0) less ∙ step_follows e (fold (step e) begin (take i text)) (get_or text i 0) there)

pub positions_lead_back : PositionsLeadBack
positions_lead_back e text o is =
    subst (λ (t : List ℕ). offset_from e begin t (position_of e text o) ≡ o) (take-append-drop o text)
    (found_again e begin (take o text) (drop o text) (λ no. refl) stops ∙ length-take-le o text is.boundary.0)
  where
    stops : (b : ℕ) (bs : List ℕ) → drop o text ≡ b ∷ bs → is_reached (fold (step e) begin (take o text)) b (position_at (fold (step e) begin (take o text))) ≡ true
    stops b bs left =
        let head = drop_head text o b bs left in
        let outer : 128 ≤ b → 192 ≤ b = subst (λ n. 128 ≤ n → 192 ≤ n) head.1 (is.boundary.1 head.0) in
        reached (fold (step e) begin (take o text)) b outer
        (λ cr feed. let last = ends_in_cr e text o is.boundary.0 cr in is.whole last.0 head.0 last.1 (head.1 ∙ feed))
