-- The JSON text of descriptors, file by file.
use Rattle.std.specs.Prelude.{◌==◌}
use Rattle.std.proofs.Common.{◌≡◌, ℕ, List, [], ◌∷◌, ◌++◌, length, codes, map, flat_map, true, false, true≢false, refl, sym, ap, ◌∙◌, append_assoc, append-nil, arith}
use Rattle.std.proofs.lemmas.Grind.{flat_map-append}
use Rattle.proto_base.specs.Ascii as ascii
use Rattle.proto_base.proofs.Common.{Decides-eqb, map-append}
use Rattle.proto_descriptors.specs.Descriptors.{FileDesc}
use Rattle.proto_descriptors_json.specs.DescriptorText.{file_text, json_text}
use Rattle.proto_descriptors_json.specs.JsonText.{array_if_any, array_text, comma_separated, json_string, object_text}
use Rattle.proto_desc.specs.Printing.{open_text}

abbrev behind_comma : List ℕ → List ℕ
behind_comma text = ascii.comma ∷ text

-- the texts with one more
comma_more : (t : List ℕ) (ts : List (List ℕ)) (u : List ℕ) → comma_separated (t ∷ (ts ++ u ∷ [])) ≡ comma_separated (t ∷ ts) ++ behind_comma u
comma_more t ts u =
    ap (λ (z : List ℕ). t ++ z) (flat_map-append behind_comma ts (u ∷ []) ∙ ap (λ (z : List ℕ). flat_map behind_comma ts ++ z) (append-nil (behind_comma u)))
    ∙ sym (append_assoc t (flat_map behind_comma ts) (behind_comma u))

pub text_more : (before : List FileDesc) (d : FileDesc) (sep : List ℕ) → (before ≡ [] → sep ≡ codes "{\"file\":[") → ((f : FileDesc) (fs : List FileDesc) → before ≡ f ∷ fs → sep ≡ codes ",")
    → (open_text before ++ sep) ++ file_text d ≡ open_text (before ++ d ∷ [])
text_more [] d sep first next = ap (λ (s : List ℕ). s ++ file_text d) (first refl) ∙ ap (λ (z : List ℕ). codes "{\"file\":[" ++ z) (sym (append-nil (file_text d)))
text_more (f ∷ fs) d sep first next =
    let texts = comma_separated (map file_text (f ∷ fs)) in
    let begun = codes "{\"file\":[" in
    ap (λ (s : List ℕ). ((begun ++ texts) ++ s) ++ file_text d) (next f fs refl)
    ∙ append_assoc (begun ++ texts) (codes ",") (file_text d)
    ∙ append_assoc begun texts (behind_comma (file_text d))
    ∙ ap (λ (z : List ℕ). begun ++ z) (sym (comma_more (file_text f) (map file_text fs) (file_text d)))
    ∙ ap (λ (ts : List (List ℕ)). begun ++ comma_separated (file_text f ∷ ts)) (sym (map-append file_text fs (d ∷ [])))

-- one object, with a list at the key `file`
wrapped : (t : List ℕ) (ts : List (List ℕ)) → codes "{\"file\":[" ++ (comma_separated (t ∷ ts) ++ codes "]}") ≡ object_text ((codes "file", array_if_any (t ∷ ts)) ∷ [])
unfolding object_text array_if_any array_text json_string
wrapped t ts =
    let key = codes "\"file\":[" in
    let body = comma_separated (t ∷ ts) ++ codes "]" in
    sym (ap (λ (z : List ℕ). ascii.open_brace ∷ z)
    (ap (λ (z : List ℕ). z ++ codes "}") (append-nil (key ++ body)) ∙ append_assoc key body (codes "}") ∙ ap (λ (z : List ℕ). key ++ z) (append_assoc (comma_separated (t ∷ ts)) (codes "]") (codes "}"))))

none_wrapped : codes "{}" ≡ object_text ((codes "file", array_if_any []) ∷ [])
unfolding object_text array_if_any
none_wrapped = refl

pub text_ended : (files : List FileDesc) (end : List ℕ) → (files ≡ [] → end ≡ codes "{}") → ((f : FileDesc) (fs : List FileDesc) → files ≡ f ∷ fs → end ≡ codes "]}") → open_text files ++ end ≡ json_text files
text_ended [] end none some = none refl ∙ none_wrapped
text_ended (f ∷ fs) end none some =
    let texts = comma_separated (map file_text (f ∷ fs)) in
    let begun = codes "{\"file\":[" in
    ap (λ (s : List ℕ). (begun ++ texts) ++ s) (some f fs refl)
    ∙ append_assoc begun texts (codes "]}")
    ∙ wrapped (file_text f) (map file_text fs)

-- ---- whether a text is empty, by its length

is_zero : (n : ℕ) → true ≡ (n == 0) → n ≡ 0
is_zero n e = (Decides-eqb n 0).0 (sym e)

is_none : (n : ℕ) → n ≡ 0 → false ≡ (n == 0) → ⊥
is_none n z e = true≢false (sym (e ∙ (Decides-eqb n 0).1 z))

pub not_begun : (bytes : List ℕ) (n : ℕ) → length bytes ≡ n → bytes ≡ [] → false ≡ (n == 0) → ⊥
not_begun bytes n l is e = is_none n (omega (arith, l, ap length is)) e

pub begun : (bytes : List ℕ) (n : ℕ) (f : FileDesc) (fs : List FileDesc) → length bytes ≡ n → bytes ≡ open_text (f ∷ fs) → true ≡ (n == 0) → ⊥
begun [] n f fs l is e = cc
begun (b ∷ bs) n f fs l is e = let z = is_zero n e in omega (arith, l, z)
