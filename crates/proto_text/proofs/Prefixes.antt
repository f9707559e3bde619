-- The loops over bytes: those that count the bytes at the front that pass a test, and those that read digits.
use Rattle.std.proofs.Common.{◌≡◌, ℕ, ◌+◌, ◌*◌, ◌<◌, ◌≤◌, Bool, true, false, List, length, get_or, drop, sym, ap, ◌∙◌, arith}
use Rattle.proto_base.proofs.Common.{prefix_len, drop_more, prefix_len-drop_yes, prefix_len-drop_no, prefix_len-drop_all}
use Rattle.proto_text.specs.Strings.{digit_value, number_in}

module _ (test : ℕ → Bool) (xs : List ℕ) (i : ℕ) (so_far : i + prefix_len test (drop i xs) ≡ prefix_len test xs) where
  pub goes_on : i < length xs → test (get_or xs i 0) ≡ true → (i + 1) + prefix_len test (drop (i + 1) xs) ≡ prefix_len test xs
  goes_on lt passes = let more = prefix_len-drop_yes test xs i 0 lt passes in omega (arith, more, so_far)

  pub stops : i < length xs → test (get_or xs i 0) ≡ false → i ≡ prefix_len test xs
  stops lt fails = let none = prefix_len-drop_no test xs i 0 lt fails in omega (arith, none, so_far)

  pub runs_out : length xs ≤ i → i ≤ length xs → length xs ≡ prefix_len test xs
  runs_out past within = let none = prefix_len-drop_all test xs i past in omega (arith, none, so_far, past, within)

pub digit_turn : (base front digit : ℕ) (ds : List ℕ) (i whole : ℕ) → i < length ds → digit ≡ digit_value (get_or ds i 0) → number_in base front (drop i ds) ≡ whole → number_in base (front * base + digit) (drop (i + 1) ds) ≡ whole
digit_turn base front digit ds i whole lt is so_far =
    ap (λ (d : ℕ). number_in base (front * base + d) (drop (i + 1) ds)) is ∙ sym (ap (number_in base front) (drop_more ds i 0 lt)) ∙ so_far
