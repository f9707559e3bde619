-- The test of a word is the relation (for the crates above).
use Rattle.std.proofs.Common.{◌≡◌, ℕ, Bool, true, false, ◌&&◌, List, [], ◌∷◌, refl, sym, ap, ◌∙◌, IsTrue, ◌↔◌}
use Rattle.std.specs.List.{list_all}
use Rattle.proto_text.specs.Common.{Class, Space, Letter, Digit, Quote, Mark, Slash, Other, class_of, is_identifier, EachByte, IsRun}
use Rattle.proto_text.specs.Words.{may_begin_word, is_run}

letter_is : (k : Class) → may_begin_word k ≡ true → k ≡ Letter
letter_is Letter h = refl
letter_is Space h = absurd (cc)
letter_is Digit h = absurd (cc)
letter_is Quote h = absurd (cc)
letter_is Mark h = absurd (cc)
letter_is Slash h = absurd (cc)
letter_is Other h = absurd (cc)

both : (a b : Bool) → (a && b) ≡ true → (a ≡ true) × (b ≡ true)
both true b h = (refl, h)
both false b h = absurd (cc)

joins : (a b : Bool) → a ≡ true → b ≡ true → (a && b) ≡ true
joins true b h k = k
joins false b h k = absurd (cc)

each_from : (bytes : List ℕ) → list_all is_identifier bytes ≡ true → EachByte is_identifier bytes
each_from [] h = tt
each_from (b ∷ bytes) h = let r = both (is_identifier b) (list_all is_identifier bytes) h in (r.0, each_from bytes r.1)

each_to : (bytes : List ℕ) → EachByte is_identifier bytes → list_all is_identifier bytes ≡ true
each_to [] h = refl
each_to (b ∷ bytes) h = joins (is_identifier b) (list_all is_identifier bytes) h.0 (each_to bytes h.1)

pub run_is : (bytes : List ℕ) → is_run bytes ≡ true → IsRun Letter bytes
run_is [] h = absurd (cc)
run_is (b ∷ bytes) h = let r = both (may_begin_word (class_of b)) (list_all is_identifier bytes) h in (letter_is (class_of b) r.0, each_from bytes r.1)

pub is_run_again : (bytes : List ℕ) → IsRun Letter bytes → is_run bytes ≡ true
is_run_again [] h = absurd h
is_run_again (b ∷ bytes) h = joins (may_begin_word (class_of b)) (list_all is_identifier bytes) (ap may_begin_word h.0) (each_to bytes h.1)

pub word_test : (bytes : List ℕ) (test : Bool) → test ≡ is_run bytes → IsTrue test ↔ IsRun Letter bytes
word_test bytes test e = (λ h. run_is bytes (sym e ∙ h), λ r. e ∙ is_run_again bytes r)
