-- The text between quotes is what `serde_json` writes.
use Rattle.std.proofs.Common.{◌≡◌, ℕ, Bool, true, false, List, [], ◌∷◌, ◌++◌, refl, sym, ap, ◌∙◌, subst, eqb-true, ◌==◌, flat_map}
use Rattle.json.specs.Print.{escape_byte}
use Rattle.json.specs.Print as json
use Rattle.proto_descriptors_json.specs.JsonText.{escaped, json_string}

at_number : (n b : ℕ) → escape_byte n ≡ escaped n → (b == n) ≡ true → escape_byte b ≡ escaped b
at_number n b at h = subst (λ x. escape_byte x ≡ escaped x) (sym (eqb-true b n h)) at

-- the same for each byte, whichever test passes first
pub escape_byte-is : (b : ℕ) → escape_byte b ≡ escaped b
unfolding escape_byte
escape_byte-is b = at_34 (b == 34) refl where
  at_9 : (t : Bool) → (b == 9) ≡ t → (b == 34) ≡ false → (b == 92) ≡ false → (b == 8) ≡ false → (b == 12) ≡ false → (b == 10) ≡ false → (b == 13) ≡ false → escape_byte b ≡ escaped b
  at_9 true e n34 n92 n8 n12 n10 n13 = at_number 9 b refl e
  at_9 false e n34 n92 n8 n12 n10 n13 = simp (e, n34, n92, n8, n12, n10, n13)

  at_13 : (t : Bool) → (b == 13) ≡ t → (b == 34) ≡ false → (b == 92) ≡ false → (b == 8) ≡ false → (b == 12) ≡ false → (b == 10) ≡ false → escape_byte b ≡ escaped b
  at_13 true e n34 n92 n8 n12 n10 = at_number 13 b refl e
  at_13 false e n34 n92 n8 n12 n10 = at_9 (b == 9) refl n34 n92 n8 n12 n10 e

  at_10 : (t : Bool) → (b == 10) ≡ t → (b == 34) ≡ false → (b == 92) ≡ false → (b == 8) ≡ false → (b == 12) ≡ false → escape_byte b ≡ escaped b
  at_10 true e n34 n92 n8 n12 = at_number 10 b refl e
  at_10 false e n34 n92 n8 n12 = at_13 (b == 13) refl n34 n92 n8 n12 e

  at_12 : (t : Bool) → (b == 12) ≡ t → (b == 34) ≡ false → (b == 92) ≡ false → (b == 8) ≡ false → escape_byte b ≡ escaped b
  at_12 true e n34 n92 n8 = at_number 12 b refl e
  at_12 false e n34 n92 n8 = at_10 (b == 10) refl n34 n92 n8 e

  at_8 : (t : Bool) → (b == 8) ≡ t → (b == 34) ≡ false → (b == 92) ≡ false → escape_byte b ≡ escaped b
  at_8 true e n34 n92 = at_number 8 b refl e
  at_8 false e n34 n92 = at_12 (b == 12) refl n34 n92 e

  at_92 : (t : Bool) → (b == 92) ≡ t → (b == 34) ≡ false → escape_byte b ≡ escaped b
  at_92 true e n34 = at_number 92 b refl e
  at_92 false e n34 = at_8 (b == 8) refl n34 e

  at_34 : (t : Bool) → (b == 34) ≡ t → escape_byte b ≡ escaped b
  at_34 true e = at_number 34 b refl e
  at_34 false e = at_92 (b == 92) refl e

pub quoted-is : (text : List ℕ) → json.quoted text ≡ json_string text
unfolding json_string
quoted-is text = ap (λ t. 34 ∷ (t ++ 34 ∷ [])) (each text) where
  each : (text : List ℕ) → json.escape text ≡ flat_map escaped text
  each [] = refl
  each (b ∷ text) = ap (λ t. t ++ flat_map escape_byte text) (escape_byte-is b) ∙ ap (λ t. escaped b ++ t) (each text)
