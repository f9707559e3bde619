-- The last word of a name is the word of its row in the index.
use Rattle.std.proofs.Common.{◌≡◌, ℕ, ◌<◌, List, [], ◌∷◌, ◌++◌, length, get_or, position, Option, Some, None, refl, sym, ◌∙◌, ap, arith, string_bytes, String}
use Rattle.std.specs.Prelude.{◌==◌}
use Rattle.std.specs.Option.{option_and_then}
use Rattle.std.specs.Str.{bytes_eq}
use Rattle.std.specs.declared.alloc.Global.{Global}
use Rattle.std.proofs.lemmas.Bool.{eqb-true, and_parts}
use Rattle.std.proofs.lemmas.List.{length-map}
use Rattle.std.proofs.lemmas.List.Quantifiers.{position-Some}
use Rattle.proto_base.proofs.Common.{word_from_same}
use Rattle.proto_names_rules.proofs.Common.{ArePlain, IsPlain, front, joined, under, under_apart}
use Rattle.proto_names_table.proofs.Common.{IsTable, aboves_of, joined_more, names_of}
use Rattle.proto_names_table.specs.Indexes.{is_below_number, look_in, word_place}
use Rattle.proto_names_table.specs.declared.index.Below.{Below}
use Rattle.proto_names_table.specs.declared.index.Index.{Index}
use Rattle.proto_names_table.specs.declared.table.Table.{Table}

-- what is looked up is the row of this word
found_word : (x : Index) (above : ℕ) (word : List ℕ) (row : ℕ) → look_in x above word ≡ Some row → (b : Below) (s : String Global) → string_bytes (get_or x.words.keys (get_or x.rows.keys row b).word s) ≡ word
found_word x above word row found b s = go (word_place x.words.keys word) refl found
  where
    go : (o : Option ℕ) → word_place x.words.keys word ≡ o → option_and_then (λ w. position (is_below_number above w) x.rows.keys) o ≡ Some row → string_bytes (get_or x.words.keys (get_or x.rows.keys row b).word s) ≡ word
    go None e h = absurd (cc)
    go (Some i) e h =
        let p = position-Some (is_below_number above i) x.rows.keys row b h in
        let same : i ≡ (get_or x.rows.keys row b).word = eqb-true i (get_or x.rows.keys row b).word (and_parts (above == (get_or x.rows.keys row b).above) (i == (get_or x.rows.keys row b).word) p.1).1 in
        let q = position-Some (λ k. bytes_eq word (string_bytes k)) x.words.keys i s e in
        ap (λ k. string_bytes (get_or x.words.keys k s)) (sym same) ∙ sym (word_from_same word (string_bytes (get_or x.words.keys i s)) q.1)

front_plain : (xs : List (List ℕ)) (w : List ℕ) → ArePlain (xs ++ w ∷ []) → ArePlain xs × IsPlain w
front_plain [] w p = (tt, p.0)
front_plain (x ∷ xs) w p = let r = front_plain xs w p.1 in ((p.0, r.0), r.1)

pub last_word_of_row : (t : Table) → IsTable t → (row : ℕ) → row < length t.rows.items → (b : Below) (s : String Global) (before : List (List ℕ)) (word : List ℕ) → ArePlain (before ++ word ∷ []) → get_or (names_of t) row [] ≡ joined (before ++ word ∷ [])
    → string_bytes (get_or t.below.words.keys (get_or t.below.rows.keys row b).word s) ≡ word
last_word_of_row t is row l b s before word plain named =
    let n = length-map t.rows.items (λ r. r.name) in
    let within : row < length (names_of t) = omega (arith, l, n) in
    let above = get_or (aboves_of t) row 0 in
    let g = is.forest.grown row within in
    let found = is.forest.complete above g.1.0 row (omega (arith, g.0, within)) g.1.1 within g.1.2 in
    let p = front_plain before word plain in
    let e : under (front (names_of t) above) g.1.0 ≡ under (joined before) word = sym g.1.2 ∙ named ∙ joined_more before word p.0 in
    found_word t.below above g.1.0 row found b s ∙ (under_apart (front (names_of t) above) g.1.0 (joined before) word g.1.1 p.1 e).1
