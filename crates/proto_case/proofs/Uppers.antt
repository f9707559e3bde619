-- Names in upper snake, character by character.
use Rattle.std.proofs.Common.{◌≡◌, ℕ, ◌+◌, ◌/◌, ◌<◌, ◌≤◌, Bool, true, false, cond, ◌&&◌, ◌==◌, nat_lt, List, [], ◌∷◌, ◌++◌, Option, Some, None, refl, sym, ap, ◌∙◌, if◌then◌else◌, inl, inr, arith, append_assoc, le-ltb}
use Rattle.proto_base.proofs.Common.{is_ascii_digit, is_ascii_lowercase, is_ascii_uppercase, to_ascii_uppercase, cases_lt, encode_ascii}
use lib.Utf8.{encode, next}
use Rattle.proto_case.specs.Cases.{begins_lower, begins_word, upper_behind}

-- bytes past ASCII
abbrev AreHigh : List ℕ → Type 0
AreHigh [] = Unit {0}
AreHigh (b ∷ bs) = (128 ≤ b) × AreHigh bs

no_upper : (b : ℕ) → 128 ≤ b → is_ascii_uppercase b ≡ false
no_upper b h = grind arith

no_lower : (b : ℕ) → 128 ≤ b → is_ascii_lowercase b ≡ false
no_lower b h = grind arith

no_digit : (b : ℕ) → 128 ≤ b → is_ascii_digit b ≡ false
no_digit b h = grind arith

no_underscore : (b : ℕ) → 128 ≤ b → (b == 95) ≡ false
no_underscore b h = grind arith

kept : (b : ℕ) → 128 ≤ b → to_ascii_uppercase b ≡ b
kept b h = grind arith

no_word : (before : Option ℕ) (b : ℕ) (rest : List ℕ) → 128 ≤ b → begins_word before b rest ≡ false
no_word None b rest h = refl
no_word (Some a) b rest h = rw (no_upper b h)

one : (before : Option ℕ) (b : ℕ) (rest : List ℕ) → 128 ≤ b → upper_behind before (b ∷ rest) ≡ b ∷ upper_behind (Some b) rest
one before b rest h = rw (no_word before b rest h, kept b h)

word_behind : (b d : ℕ) (rest : List ℕ) → 128 ≤ b → begins_word (Some b) d rest ≡ (is_ascii_uppercase d && true && begins_lower rest)
word_behind b d rest h = rw (no_underscore b h, no_lower b h, no_digit b h)

-- which byte past ASCII stands before makes no difference
behind : (b c : ℕ) (rest : List ℕ) → 128 ≤ b → 128 ≤ c → upper_behind (Some b) rest ≡ upper_behind (Some c) rest
behind b c [] h k = refl
behind b c (d ∷ rest) h k = rw (word_behind b d rest h, word_behind c d rest k)

many : (before : Option ℕ) (b : ℕ) (bs rest : List ℕ) (c : ℕ) → 128 ≤ b → AreHigh bs → 128 ≤ c → upper_behind before ((b ∷ bs) ++ rest) ≡ (b ∷ bs) ++ upper_behind (Some c) rest
many before b [] rest c h hs k = one before b rest h ∙ ap (λ (xs : List ℕ). b ∷ xs) (behind b c rest h k)
many before b (d ∷ bs) rest c h hs k = one before b ((d ∷ bs) ++ rest) h ∙ ap (λ (xs : List ℕ). b ∷ xs) (many (Some b) d bs rest c hs.0 hs.1 k)

high : (before : Option ℕ) (c : ℕ) (rest : List ℕ) → 128 ≤ c → upper_behind before (encode c ++ rest) ≡ encode c ++ upper_behind (Some c) rest
unfolding encode
high before c rest h = go (nat_lt c 128) (nat_lt c 2048) (nat_lt c 65536) (le-ltb c 128 h)
  where
    go : (x y z : Bool) → x ≡ false → upper_behind before (cond x (c ∷ []) (cond y ((192 + c / 64) ∷ next c ∷ []) (cond z ((224 + c / 4096) ∷ next (c / 64) ∷ next c ∷ []) ((240 + c / 262144) ∷ next (c / 4096) ∷ next (c / 64) ∷ next c ∷ []))) ++ rest)
        ≡ cond x (c ∷ []) (cond y ((192 + c / 64) ∷ next c ∷ []) (cond z ((224 + c / 4096) ∷ next (c / 64) ∷ next c ∷ []) ((240 + c / 262144) ∷ next (c / 4096) ∷ next (c / 64) ∷ next c ∷ []))) ++ upper_behind (Some c) rest
    go true y z e = absurd (cc)
    go false true z e = many before (192 + c / 64) (next c ∷ []) rest c (omega arith) (omega arith, tt) h
    go false false true e = many before (224 + c / 4096) (next (c / 64) ∷ next c ∷ []) rest c (omega arith) (omega arith, (omega arith, tt)) h
    go false false false e = many before (240 + c / 262144) (next (c / 4096) ∷ next (c / 64) ∷ next c ∷ []) rest c (omega arith) (omega arith, (omega arith, (omega arith, tt))) h

low_upper : (c : ℕ) → c < 128 → to_ascii_uppercase c < 128
low_upper c h = grind arith

-- what stands for a character in the name
pub letter : (before : Option ℕ) (c : ℕ) (rest : List ℕ) → upper_behind before (encode c ++ rest) ≡ (if begins_word before c rest then 95 ∷ [] else []) ++ (encode (to_ascii_uppercase c) ++ upper_behind (Some c) rest)
letter before c rest = elim (cases_lt c 128) [
  | inl low ↦ rw (encode_ascii c low, encode_ascii (to_ascii_uppercase c) (low_upper c low))
  | inr big ↦ rw (no_word before c rest big, kept c big) (high before c rest big)
]

pub letter_step : (before : Option ℕ) (c : ℕ) (all words left rest marked after : List ℕ) → left ≡ encode c ++ rest → marked ≡ words ++ (if begins_word before c rest then 95 ∷ [] else []) → after ≡ marked ++ encode (to_ascii_uppercase c) → words ++ upper_behind before left ≡ all → after ++ upper_behind (Some c) rest ≡ all
letter_step before c all words left rest marked after l m a h =
    ap (λ (bs : List ℕ). bs ++ upper_behind (Some c) rest) (a ∙ ap (λ (bs : List ℕ). bs ++ encode (to_ascii_uppercase c)) m)
    ∙ append_assoc (words ++ (if begins_word before c rest then 95 ∷ [] else [])) (encode (to_ascii_uppercase c)) (upper_behind (Some c) rest)
    ∙ append_assoc words (if begins_word before c rest then 95 ∷ [] else []) (encode (to_ascii_uppercase c) ++ upper_behind (Some c) rest)
    ∙ ap (λ (bs : List ℕ). words ++ bs) (sym (letter before c rest) ∙ sym (ap (upper_behind before) l))
    ∙ h
