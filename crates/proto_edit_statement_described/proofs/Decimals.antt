-- A number in decimal is read as itself.
use Rattle.std.proofs.Common.{◌≡◌, ℕ, zero, suc, ◌+◌, ◌-◌, ◌*◌, ◌<◌, ◌≤◌, Bool, true, false, ◌&&◌, ◌||◌, eqb, List, [], ◌∷◌, length, drop, get_or, refl, ap, ◌∙◌, arith, if◌then◌else◌, nat_le, decimal}
use Rattle.proto_base.proofs.Common.{IsInRange, cond-false, nat_tests, decimal_digit, decimal_nonempty, digits_value-decimal, first_decimal, FoldsDigits, IsNumeralModel, numerals_by_fold, tells_by_index}
use Rattle.proto_text.proofs.Common.{is_digit, number_in}
use Rattle.proto_ast.specs.Numbers.{number_value}
use Rattle.proto_edit_statement_described.specs.Numbers.{DecimalsAreNumbers}

a_digit : (c : ℕ) → IsInRange 48 57 c → is_digit c ≡ true
a_digit c r = let lo : 48 ≤ c = r.0 in let hi : c ≤ 57 = r.1 in grind (arith, nat_tests)

folds : FoldsDigits (number_in 10)
folds = record {
  empty = λ n. refl;
  more = λ n c cs r. ap (λ (b : Bool). number_in 10 (n * 10 + (if b then c - 48 else (if nat_le 97 c then c - 87 else c - 55))) cs) (a_digit c r);
}

model : IsNumeralModel (λ ds. (i : ℕ) → i < length ds → IsInRange 48 57 (get_or ds i 0)) (number_in 10 0)
model = numerals_by_fold (λ ds. (i : ℕ) → i < length ds → IsInRange 48 57 (get_or ds i 0)) tells_by_index (number_in 10) folds

not_zero : (b : ℕ) → 48 < b → eqb b 48 ≡ false
not_zero b lt = grind (arith, nat_tests)

-- a first digit past 0 makes a decimal number
of_decimal : (ds : List ℕ) → 0 < length ds → 48 < get_or ds 0 0 → number_value ds ≡ number_in 10 0 ds
of_decimal [] some first = absurd (omega (arith, some))
of_decimal (d ∷ []) some first = cond-false (eqb d 48) (number_in 8 0 (d ∷ [])) (number_in 10 0 (d ∷ [])) (not_zero d first)
of_decimal (d ∷ x ∷ ds) some first =
    ap (λ (b : Bool). if b && (eqb x 120 || eqb x 88) then number_in 16 0 (drop 2 (d ∷ x ∷ ds)) else (if b then number_in 8 0 (d ∷ x ∷ ds) else number_in 10 0 (d ∷ x ∷ ds))) (not_zero d first)

pub decimals_are_numbers : DecimalsAreNumbers
decimals_are_numbers zero small = ap number_value (decimal_digit 0 (omega arith))
decimals_are_numbers (suc n) small = of_decimal (decimal (suc n)) (decimal_nonempty (suc n) small) (first_decimal (suc n) (omega arith) small) ∙ digits_value-decimal model (suc n) small
