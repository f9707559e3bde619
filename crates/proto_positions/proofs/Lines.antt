-- Positions count lines, and lead to the ends of lines.
use Rattle.std.proofs.Common.{◌≡◌, ◌≢◌, ℕ, zero, suc, ◌+◌, ◌<◌, ◌≤◌, Bool, true, false, cond, [], ◌∷◌, ◌++◌, length, take, refl, sym, ap, subst, ◌∙◌, append_assoc, take_at, length-append, arith, inl, inr}
use Rattle.std.specs.List.{AllByRecursion, fold, sum_by}
use Rattle.std.specs.Prelude.{◌⊎◌}
use Rattle.std.proofs.lemmas.Bool.Decides.{nat_tests}
use Rattle.std.proofs.lemmas.List.{append-nil}
use Rattle.std.proofs.lemmas.List.Sums.{fold-append, sum_by_from}
use Rattle.proto_base.specs.Ascii as ascii
use Rattle.proto_base.specs.Texts.{Text}
use Rattle.proto_positions.specs.declared.encoding.Encoding.{Encoding}
use Rattle.proto_positions.specs.declared.encoding.Encoding.TheVariants.{Utf8, Utf16}
use Rattle.proto_positions.specs.declared.position.Position.{Position}
use Rattle.proto_positions.specs.declared.walk.Walk.{Walk}
use Rattle.proto_positions.specs.Positions.{is_inner, is_reached, offset_from, start as begin, step, units}
use Rattle.proto_positions.specs.Lines.{AreLines, BeginsNoFeed, BeginsNoInner, ColumnsEndWithTheCharacter, ColumnsEndWithTheLine, HasNoEnd, IsAtLineEnd, IsCharacter, IsLineEnd, LinesEndWithTheText, PositionsCountLines}
use Rattle.proto_positions.proofs.Walks.{if_false, if_true, position_at, step_follows}

-- ---- a line without its end

-- no line feed follows a carriage return that the walk follows
abbrev Fresh : Walk → Text → Type 0
Fresh w text = w.follows_return ≡ true → BeginsNoFeed text

no_end_walk : (e : Encoding) (w : Walk) (line : Text) → HasNoEnd line
    → ((fold (step e) w line).line ≡ w.line) × ((fold (step e) w line).column ≡ w.column + sum_by (units e) line)
no_end_walk e w [] clean = (refl, omega arith)
no_end_walk e w (b ∷ line) clean =
    let same : (step e w b).line ≡ w.line = grind (arith, nat_tests, clean.0.0, clean.0.1) in
    let adds : (step e w b).column ≡ w.column + units e b = grind (arith, nat_tests, clean.0.0, clean.0.1) in
    let more = no_end_walk e (step e w b) line clean.1 in
    let sum : sum_by (units e) (b ∷ line) ≡ (0 + units e b) + sum_by (units e) line = sum_by_from (units e) (0 + units e b) line in
    (more.0 ∙ same, omega (arith, more.1, adds, sum))

no_end_fresh : (e : Encoding) (w : Walk) (line text : Text) → HasNoEnd line → Fresh w (line ++ text) → Fresh (fold (step e) w line) text
no_end_fresh e w [] text clean fresh = fresh
no_end_fresh e w (b ∷ line) text clean fresh =
    no_end_fresh e (step e w b) line text clean.1 (λ follows. absurd (clean.0.0 (step_follows e w b follows)))

-- ---- a line end

-- after a line end
record Ended (w v : Walk) (rest : Text) : Type 0 where
  line : v.line ≡ w.line + 1
  column : v.column ≡ 0
  fresh : Fresh v rest

feed_ends : (e : Encoding) (w : Walk) (rest : Text) → Fresh w (ascii.line_feed ∷ rest) → Ended w (step e w ascii.line_feed) rest
feed_ends e w rest fresh = go w.follows_return refl
  where
    go : (b : Bool) → w.follows_return ≡ b → Ended w (step e w ascii.line_feed) rest
    go true is = absurd (fresh is refl)
    go false is = record {
      line = ap (λ (b : Bool). cond b w.line (w.line + 1)) is;
      column = refl;
      fresh = λ follows. absurd cc;
    }

end_walk : (e : Encoding) (w : Walk) (end rest : Text) → IsLineEnd end rest → Fresh w (end ++ rest) → Ended w (fold (step e) w end) rest
end_walk e w end rest is fresh =
    elim is [
      | inl pair ↦
          subst (λ (t : Text). Ended w (fold (step e) w t) rest) (sym pair) (record { line = refl; column = refl; fresh = λ follows. absurd cc })
      | inr other ↦
          elim other [
            | inl feed ↦
                subst (λ (t : Text). Ended w (fold (step e) w t) rest) (sym feed) (feed_ends e w rest (subst (λ (t : Text). Fresh w (t ++ rest)) feed fresh))
            | inr lone ↦
                subst (λ (t : Text). Ended w (fold (step e) w t) rest) (sym lone.0) (record { line = refl; column = refl; fresh = λ follows. lone.1 })
          ]
    ]

-- ---- bytes before a position

-- before none of these bytes the walk has reached the position
abbrev Passes : Encoding → Walk → Text → Position → Type 0
Passes e w [] p = Unit {0}
Passes e w (b ∷ bs) p = (is_reached w b p ≡ false) × Passes e (step e w b) bs p

passes_both : (e : Encoding) (w : Walk) (a b : Text) (p : Position) → Passes e w a p → Passes e (fold (step e) w a) b p → Passes e w (a ++ b) p
passes_both e w [] b p x y = y
passes_both e w (c ∷ a) b p x y = (x.0, passes_both e (step e w c) a b p x.1 y)

passed : (e : Encoding) (w : Walk) (prefix rest : Text) (p : Position) → Passes e w prefix p
    → offset_from e w (prefix ++ rest) p ≡ length prefix + offset_from e (fold (step e) w prefix) rest p
passed e w [] rest p x = omega arith
passed e w (b ∷ prefix) rest p x =
    let more = passed e (step e w b) prefix rest p x.1 in
    if_false (is_reached w b p) 0 (offset_from e (step e w b) (prefix ++ rest) p + 1) x.0 ∙ omega (arith, more)

line_passes : (e : Encoding) (w : Walk) (line : Text) (p : Position) → HasNoEnd line → w.line < p.line → Passes e w line p
line_passes e w [] p clean less = tt
line_passes e w (b ∷ line) p clean less =
    let same : (step e w b).line ≡ w.line = grind (arith, nat_tests, clean.0.0, clean.0.1) in
    (grind (arith, nat_tests, less), line_passes e (step e w b) line p clean.1 (omega (arith, same, less)))

end_passes : (e : Encoding) (w : Walk) (end rest : Text) (p : Position) → IsLineEnd end rest → w.line < p.line → Passes e w end p
end_passes e w end rest p is less =
    let first : (b : ℕ) → is_reached w b p ≡ false = λ b. grind (arith, nat_tests, less) in
    elim is [
      | inl pair ↦
          let second : is_reached (step e w ascii.carriage_return) ascii.line_feed p ≡ false = grind (arith, nat_tests) in
          subst (λ (t : Text). Passes e w t p) (sym pair) (first ascii.carriage_return, (second, tt))
      | inr other ↦
          elim other [
            | inl feed ↦ subst (λ (t : Text). Passes e w t p) (sym feed) (first ascii.line_feed, tt)
            | inr lone ↦ subst (λ (t : Text). Passes e w t p) (sym lone.0) (first ascii.carriage_return, tt)
          ]
    ]

-- ---- whole lines

-- after so many lines
record Walked (e : Encoding) (w : Walk) (n : ℕ) (before rest : Text) : Type 0 where
  line : (fold (step e) w before).line ≡ w.line + n
  column : (fold (step e) w before).column ≡ 0
  fresh : Fresh (fold (step e) w before) rest
  passes : (p : Position) → w.line + n ≤ p.line → Passes e w before p

lines_walk : (e : Encoding) (w : Walk) (n : ℕ) (before rest : Text) → AreLines n before rest → Fresh w (before ++ rest) → w.column ≡ 0 → Walked e w n before rest
lines_walk e w zero before rest are fresh column =
    subst (λ (t : Text). Walked e w 0 t rest) (sym are) (record {
      line = omega arith;
      column = column;
      fresh = subst (λ (t : Text). Fresh w (t ++ rest)) are fresh;
      passes = λ p le. tt;
    })
lines_walk e w (suc n) before rest are fresh column =
    let line : Text = are.0 in
    let end : Text = are.1 in
    let more : Text = are.2 in
    let w1 : Walk = fold (step e) w line in
    let w2 : Walk = fold (step e) w1 end in
    let joined : (line ++ (end ++ more)) ++ rest ≡ line ++ (end ++ (more ++ rest)) =
    append_assoc line (end ++ more) rest ∙ ap (λ (t : Text). line ++ t) (append_assoc end more rest) in
    let here : Fresh w (line ++ (end ++ (more ++ rest))) = subst (Fresh w) joined (subst (λ (t : Text). Fresh w (t ++ rest)) are.3 fresh) in
    let one = no_end_walk e w line are.4 in
    let ended = end_walk e w1 end (more ++ rest) are.5 (no_end_fresh e w line (end ++ (more ++ rest)) are.4 here) in
    let later = lines_walk e w2 n more rest are.6 ended.fresh ended.column in
    let whole : fold (step e) w (line ++ (end ++ more)) ≡ fold (step e) w2 more = fold-append (step e) w line (end ++ more) ∙ fold-append (step e) w1 end more in
    let all : Walked e w (suc n) (line ++ (end ++ more)) rest =
    record {
      line = ap (λ (v : Walk). v.line) whole ∙ omega (arith, later.line, ended.line, one.0);
      column = ap (λ (v : Walk). v.column) whole ∙ later.column;
      fresh = subst (λ (v : Walk). Fresh v rest) (sym whole) later.fresh;
      passes = λ p le.
          passes_both e w line (end ++ more) p (line_passes e w line p are.4 (omega (arith, le)))
          (passes_both e w1 end more p (end_passes e w1 end (more ++ rest) p are.5 (omega (arith, le, one.0))) (later.passes p (omega (arith, le, one.0, ended.line))));
    } in
    subst (λ (t : Text). Walked e w (suc n) t rest) (sym are.3) all

from_beginning : (e : Encoding) (n : ℕ) (before rest : Text) → AreLines n before rest → Walked e begin n before rest
from_beginning e n before rest are = lines_walk e begin n before rest are (λ follows. absurd cc) refl

-- ---- the laws

abbrev position : ℕ → ℕ → Position
position l c = record { line = l; character = c }

pub positions_count_lines : PositionsCountLines
positions_count_lines e n before line rest are clean =
    let walked = from_beginning e n before (line ++ rest) are in
    let w : Walk = fold (step e) begin before in
    let one = no_end_walk e w line clean in
    let sum : length (before ++ line) ≡ length before + length line = length-append before line in
    let taken : take (length before + length line) (before ++ (line ++ rest)) ≡ before ++ line =
    ap (take (length before + length line)) (sym (append_assoc before line rest)) ∙ take_at (before ++ line) rest (length before + length line) sum in
    let there : fold (step e) begin (take (length before + length line) (before ++ (line ++ rest))) ≡ fold (step e) w line =
    ap (fold (step e) begin) taken ∙ fold-append (step e) begin before line in
    let is_line : (fold (step e) w line).line ≡ n = one.0 ∙ omega (arith, walked.line) in
    let is_column : (fold (step e) w line).column ≡ sum_by (units e) line = omega (arith, one.1, walked.column) in
    ap position_at there
    ∙ (ap (λ l. position l (fold (step e) w line).column) is_line
    ∙ ap (position n) is_column)

units_some : (e : Encoding) (b : ℕ) → is_inner b ≡ false → 1 ≤ units e b
units_some Utf8 b first = omega arith
units_some Utf16 b first = grind (arith, nat_tests, first)

-- a byte that ends no line, before a column that is not yet there
byte_passes : (e : Encoding) (w : Walk) (b : ℕ) (p : Position) → b ≢ ascii.carriage_return → b ≢ ascii.line_feed → w.column + units e b ≤ p.character → is_reached w b p ≡ false
byte_passes e w b p no_return no_feed le = go (is_inner b) refl
  where
    go : (inner : Bool) → is_inner b ≡ inner → is_reached w b p ≡ false
    go true is = grind (arith, nat_tests, no_return, no_feed, is)
    go false is = let some = units_some e b is in grind (arith, nat_tests, no_return, no_feed, le, some)

columns_pass : (e : Encoding) (w : Walk) (line : Text) (p : Position) → HasNoEnd line → w.column + sum_by (units e) line ≤ p.character → Passes e w line p
columns_pass e w [] p clean le = tt
columns_pass e w (b ∷ line) p clean le =
    let adds : (step e w b).column ≡ w.column + units e b = grind (arith, nat_tests, clean.0.0, clean.0.1) in
    let sum : sum_by (units e) (b ∷ line) ≡ (0 + units e b) + sum_by (units e) line = sum_by_from (units e) (0 + units e b) line in
    (byte_passes e w b p clean.0.0 clean.0.1 (omega (arith, le, sum)), columns_pass e (step e w b) line p clean.1 (omega (arith, le, sum, adds)))

-- before a line end that no carriage return came before, the walk has reached each column of its line
end_reached : (w : Walk) (b : ℕ) (p : Position) → (b ≡ ascii.carriage_return) ⊎ (b ≡ ascii.line_feed) → (w.follows_return ≡ true → b ≢ ascii.line_feed) → w.line ≡ p.line → is_reached w b p ≡ true
end_reached w b p is fresh same = go w.follows_return refl
  where
    go : (follows : Bool) → w.follows_return ≡ follows → is_reached w b p ≡ true
    go true now = let no_feed : b ≢ ascii.line_feed = fresh now in grind (arith, nat_tests, is, no_feed, same, now)
    go false now = grind (arith, nat_tests, is, same, now)

at_line_end : (e : Encoding) (w : Walk) (rest : Text) (p : Position) → IsAtLineEnd rest → Fresh w rest → w.line ≡ p.line → offset_from e w rest p ≡ 0
at_line_end e w [] p is fresh same = refl
at_line_end e w (b ∷ bs) p is fresh same = if_true (is_reached w b p) 0 (offset_from e (step e w b) bs p + 1) (end_reached w b p is fresh same)

pub columns_end_with_the_line : ColumnsEndWithTheLine
columns_end_with_the_line e n before line rest p are clean at_end is_line past =
    let walked = from_beginning e n before (line ++ rest) are in
    let w : Walk = fold (step e) begin before in
    let one = no_end_walk e w line clean in
    let first = passed e begin before (line ++ rest) p (walked.passes p (omega (arith, is_line))) in
    let second = passed e w line rest p (columns_pass e w line p clean (omega (arith, walked.column, past))) in
    let none = at_line_end e (fold (step e) w line) rest p at_end (no_end_fresh e w line rest clean walked.fresh) (omega (arith, one.0, walked.line, is_line)) in
    omega (arith, first, second, none)

pub lines_end_with_the_text : LinesEndWithTheText
lines_end_with_the_text e n before line p are clean past =
    let walked = from_beginning e n before line are in
    let w : Walk = fold (step e) begin before in
    let first = passed e begin before line p (walked.passes p (omega (arith, past))) in
    let second = passed e w line [] p (line_passes e w line p clean (omega (arith, walked.line, past))) in
    let whole : offset_from e w line p ≡ offset_from e w (line ++ []) p = ap (λ (t : Text). offset_from e w t p) (sym (append-nil line)) in
    let none : offset_from e (fold (step e) w line) [] p ≡ 0 = refl in
    omega (arith, first, second, whole, none)

-- ---- within a character

-- inner bytes are never where a position leads, unless they end a line
inner_pass : (e : Encoding) (w : Walk) (bs : Text) (p : Position) → HasNoEnd bs → AllByRecursion (λ c. is_inner c ≡ true) bs → Passes e w bs p
inner_pass e w [] p clean inner = tt
inner_pass e w (b ∷ bs) p clean inner = (grind (arith, nat_tests, clean.0.0, clean.0.1, inner.0), inner_pass e (step e w b) bs p clean.1 inner.1)

character_passes : (e : Encoding) (w : Walk) (character : Text) (p : Position) → HasNoEnd character → IsCharacter character → w.column < p.character → Passes e w character p
character_passes e w [] p clean is less = absurd is
character_passes e w (b ∷ bs) p clean is less = (grind (arith, nat_tests, clean.0.0, clean.0.1, less), inner_pass e (step e w b) bs p clean.1 is.1)

-- after a byte that ends no line the walk follows no carriage return
no_return_after : (e : Encoding) (w : Walk) (line : Text) → HasNoEnd line → 0 < length line → (fold (step e) w line).follows_return ≡ false
no_return_after e w [] clean some = absurd (omega arith)
no_return_after e w (b ∷ []) clean some = grind (arith, nat_tests, clean.0.0, clean.0.1)
no_return_after e w (b ∷ c ∷ line) clean some = no_return_after e (step e w b) (c ∷ line) clean.1 (omega arith)

there_reached : (w : Walk) (b : ℕ) (p : Position) → w.follows_return ≡ false → is_inner b ≡ false → w.line ≡ p.line → p.character ≤ w.column → is_reached w b p ≡ true
there_reached w b p follows first same le = grind (arith, nat_tests, follows, first, same, le)

there : (e : Encoding) (w : Walk) (rest : Text) (p : Position) → BeginsNoInner rest → w.follows_return ≡ false → w.line ≡ p.line → p.character ≤ w.column → offset_from e w rest p ≡ 0
there e w [] p is follows same le = refl
there e w (b ∷ bs) p is follows same le = if_true (is_reached w b p) 0 (offset_from e (step e w b) bs p + 1) (there_reached w b p follows is same le)

some_byte : (character : Text) → IsCharacter character → 0 < length character
some_byte [] is = absurd is
some_byte (b ∷ bs) is = omega arith

pub columns_end_with_the_character : ColumnsEndWithTheCharacter
columns_end_with_the_character e n before line character rest p are clean_line clean_character is begins is_line after up_to =
    let walked = from_beginning e n before ((line ++ character) ++ rest) are in
    let w : Walk = fold (step e) begin before in
    let w1 : Walk = fold (step e) w line in
    let w2 : Walk = fold (step e) w1 character in
    let one = no_end_walk e w line clean_line in
    let two = no_end_walk e w1 character clean_character in
    let first = passed e begin before ((line ++ character) ++ rest) p (walked.passes p (omega (arith, is_line))) in
    let passes : Passes e w (line ++ character) p =
    passes_both e w line character p (columns_pass e w line p clean_line (omega (arith, walked.column, after)))
    (character_passes e w1 character p clean_character is (omega (arith, one.1, walked.column, after))) in
    let second = passed e w (line ++ character) rest p passes in
    let joined : fold (step e) w (line ++ character) ≡ w2 = fold-append (step e) w line character in
    let none : offset_from e w2 rest p ≡ 0 =
    there e w2 rest p begins (no_return_after e w1 character clean_character (some_byte character is)) (omega (arith, two.0, one.0, walked.line, is_line)) (omega (arith, two.1, one.1, walked.column, up_to)) in
    let last : offset_from e (fold (step e) w (line ++ character)) rest p ≡ 0 = ap (λ (v : Walk). offset_from e v rest p) joined ∙ none in
    omega (arith, first, second, last, length-append line character)
