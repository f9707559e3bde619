-- A name on the path of an options message, word by word.
use Rattle.std.proofs.Common.{◌≡◌, ◌≢◌, ℕ, suc, ◌<◌, ◌==◌, Bool, true, false, ◌&&◌, ◌||◌, List, [], ◌∷◌, ◌++◌, length, get_or, codes, Option, Some, None, refl, sym, ap, ◌∙◌, arith, eqb-true}
use Rattle.std.specs.List.{list_any}
use Rattle.std.specs.Str.{bytes_eq}
use Rattle.proto_base.proofs.Common.{both_ways, false_from_ne_true}
use Rattle.proto_names_rules.proofs.Common.{ArePlain, at_point, joined, not_pointed}
use Rattle.proto_names_rules.specs.Names.{Name, Word}
use Rattle.proto_custom_options.specs.CustomOptions.{options_messages}
use Rattle.proto_edit_rules.specs.Options.{are_on_a_path, is_fixed}
use Rattle.proto_option_values.specs.FixedNames.{is_fixed_in_google, is_fixed_in_protobuf, rest_text}

-- a test that does not look at the element comes before the list
any_behind : {A : Type 0} (b : Bool) (f : A → Bool) (xs : List A) → list_any (λ x. b && f x) xs ≡ b && list_any f xs
any_behind true f xs = refl
any_behind false f [] = refl
any_behind false f (x ∷ xs) = any_behind false f xs

-- a shorter path is on it
same_any : {A : Type 0} (f g : A → Bool) (xs : List A) → ((x : A) → f x ≡ g x) → list_any f xs ≡ list_any g xs
same_any f g [] h = refl
same_any f g (x ∷ xs) h = rw (h x) rw (same_any f g xs h) refl

unasked : (b : Bool) → b && true ≡ b
unasked true = refl
unasked false = refl

below_protobuf : (rest : Name) → list_any (λ message. are_on_a_path rest (message ∷ [])) options_messages ≡ is_fixed_in_protobuf rest
below_protobuf [] = refl
below_protobuf (word ∷ []) = same_any (λ message. bytes_eq word message && true) (bytes_eq word) options_messages (λ message. unasked (bytes_eq word message))
below_protobuf (word ∷ next ∷ rest) = same_any (λ message. bytes_eq word message && true) (bytes_eq word) options_messages (λ message. unasked (bytes_eq word message))

below_google : (rest : Name) → list_any (λ message. are_on_a_path rest (codes "protobuf" ∷ message ∷ [])) options_messages ≡ is_fixed_in_google rest
below_google [] = refl
below_google (word ∷ rest) =
    any_behind (bytes_eq word (codes "protobuf")) (λ message. are_on_a_path rest (message ∷ [])) options_messages
    ∙ ap (λ (b : Bool). bytes_eq word (codes "protobuf") && b) (below_protobuf rest)

is_fixed_is : (word : Word) (rest : Name) → is_fixed (word ∷ rest) ≡ bytes_eq word (codes "google") && is_fixed_in_google rest
is_fixed_is word rest =
    any_behind (bytes_eq word (codes "google")) (λ message. are_on_a_path rest (codes "protobuf" ∷ message ∷ [])) options_messages
    ∙ ap (λ (b : Bool). bytes_eq word (codes "google") && b) (below_google rest)

-- a text without bytes
no_bytes : (text : List ℕ) → (length text == 0) ≡ true → text ≡ []
no_bytes [] h = refl
no_bytes (x ∷ xs) h = let e = eqb-true (length (x ∷ xs)) 0 h in absurd (omega (arith, e))

-- a name without text has no words
no_words : (words : Name) → ArePlain words → joined words ≡ [] → is_fixed words ≡ true
no_words [] plain e = refl
no_words (word ∷ []) plain e = absurd (plain.0.1 e)
no_words (word ∷ next ∷ rest) plain e = absurd (not_pointed [] word (joined (next ∷ rest)) refl (sym e))

pub fixed_without : (name : List ℕ) → (length name == 0) ≡ true → (words : Name) → ArePlain words → joined words ≡ name → is_fixed words ≡ true
fixed_without name none words plain e = no_words words plain (e ∙ no_bytes name none)

-- a name with text has a first word
pub fixed_with : (name : List ℕ) → (length name == 0) ≡ false → (r : Bool)
    → ((word : Word) (rest : Name) → ArePlain (word ∷ rest) → joined (word ∷ rest) ≡ name → r ≡ bytes_eq word (codes "google") && is_fixed_in_google rest)
    → (words : Name) → ArePlain words → joined words ≡ name → r ≡ is_fixed words
fixed_with name some r h [] plain e = absurd (both_ways (length name == 0) some (sym (ap (λ (x : List ℕ). length x == 0) e)))
fixed_with name some r h (word ∷ rest) plain e = h word rest plain e ∙ sym (is_fixed_is word rest)

-- ---- the first word

-- a text without a dot at any place
no_dot : (text : List ℕ) → ((i : ℕ) → i < length text → get_or text i 0 ≢ 46) → list_any (λ b. b == 46) text ≡ false
no_dot [] h = refl
no_dot (x ∷ xs) h =
    let here : (x == 46) ≡ false = false_from_ne_true (x == 46) (λ q. h 0 (omega arith) (eqb-true x 46 q)) in
    ap (λ z. z || list_any (λ b. b == 46) xs) here ∙ no_dot xs (λ i l. h (suc i) (omega (arith, l)))

-- without a dot it is the one word
pub whole_is : (text : List ℕ) → ((i : ℕ) → i < length text → get_or text i 0 ≢ 46) → (word : Word) (rest : Name) → ArePlain (word ∷ rest) → joined (word ∷ rest) ≡ text → (text ≡ word) × ◌≡◌ {A = Option (List ℕ)} None (rest_text rest)
whole_is text none word [] plain e = (sym e, refl)
whole_is text none word (next ∷ rest) plain e = absurd (not_pointed text word (joined (next ∷ rest)) (no_dot text none) (sym e))

-- what stands up to the first dot is the first word
pub front_is : (text front behind : List ℕ) → text ≡ front ++ 46 ∷ behind → ((i : ℕ) → i < length front → get_or front i 0 ≢ 46) → (word : Word) (rest : Name) → ArePlain (word ∷ rest) → joined (word ∷ rest) ≡ text → (front ≡ word) × (Some behind ≡ rest_text rest)
front_is text front behind parts none word [] plain e = absurd (not_pointed word front behind plain.0.0 (e ∙ parts))
front_is text front behind parts none word (next ∷ rest) plain e =
    let x = at_point front word behind (joined (next ∷ rest)) (no_dot front none) plain.0.0 (sym parts ∙ sym e) in
    (x.0, ap (λ (z : List ℕ). Some z) x.1)
