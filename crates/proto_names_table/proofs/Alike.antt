-- Tables that are alike in all that a contract sees: one is a table where the other is (for the crates above).
use Rattle.std.proofs.Common.{◌≡◌, ℕ, ◌+◌, ◌<◌, Bool, false, ◌&&◌, cond, List, [], ◌∷◌, length, get_or, map, position, Some, None, option_and_then, refl, sym, ◌∙◌, ap, subst, arith, string_bytes, String, All}
use Rattle.std.specs.Prelude.{nat_lt, not}
use Rattle.std.specs.List.{position_or_len}
use Rattle.std.specs.Str.{bytes_eq}
use Rattle.std.specs.declared.alloc.Global.{Global}
use Rattle.proto_base.proofs.Common.{get_or-map, length-map}
use Rattle.proto_names_rules.specs.Forest.{IsForest}
use Rattle.proto_names_rules.specs.Linked.{is_package}
use Rattle.proto_names_table.specs.Common.{Row, Symbol as Declaration, Table, AreAlike, IsTable, IsUnchanged, aboves_of, look, names_of, row_of}
use Rattle.proto_names_table.specs.Indexes.{is_below_number, word_place}
use Rattle.proto_names_table.specs.declared.index.Below.{Below}

pub through : {X Y Z : Type 0} (g : Y → Z) (f : X → Y) (xs : List X) → map (λ x. g (f x)) xs ≡ map g (map f xs)
through g f [] = refl
through g f (x ∷ xs) = ap (λ z. g (f x) ∷ z) (through g f xs)

-- the place of the first that passes, by what the test sees
len_seen : {X Y : Type 0} (f : X → Y) (p : Y → Bool) (xs : List X) → position_or_len (λ x. p (f x)) xs ≡ position_or_len p (map f xs)
len_seen f p [] = refl
len_seen f p (x ∷ xs) = ap (λ n. cond (not (p (f x))) (1 + n) 0) (len_seen f p xs)

position_seen : {X Y : Type 0} (f : X → Y) (p : Y → Bool) (xs : List X) → position (λ x. p (f x)) xs ≡ position p (map f xs)
position_seen f p xs =
    ap (λ n. cond (nat_lt n (length xs)) (Some n) None) (len_seen f p xs)
    ∙ ap (λ m. cond (nat_lt (position_or_len p (map f xs)) m) (Some (position_or_len p (map f xs))) None) (sym (length-map xs f))

pub place_same : (xs ys : List (String Global)) → map string_bytes xs ≡ map string_bytes ys → (v : List ℕ) → word_place xs v ≡ word_place ys v
place_same xs ys same v =
    position_seen string_bytes (bytes_eq v) xs ∙ ap (position (bytes_eq v)) same ∙ sym (position_seen string_bytes (bytes_eq v) ys)

abbrev Seen : Type 0
Seen = List ℕ × Declaration × ℕ × List ℕ × Bool

module _ (t t' : Table) (alike : AreAlike t t') where
  pub of_rows : {X : Type 0} (g : Seen → X) → map (λ r. g (row_of r)) t'.rows.items ≡ map (λ r. g (row_of r)) t.rows.items
  of_rows g = through g row_of t'.rows.items ∙ ap (map g) alike.rows ∙ sym (through g row_of t.rows.items)

  pub names_alike : names_of t' ≡ names_of t
  names_alike = of_rows (λ s. s.0)

  aboves_alike : aboves_of t' ≡ aboves_of t
  aboves_alike = of_rows (λ s. s.2)

  pub size_alike : length t'.rows.items ≡ length t.rows.items
  size_alike = sym (length-map t'.rows.items row_of) ∙ ap length alike.rows ∙ length-map t.rows.items row_of

  look_at : (p : ℕ) (v : List ℕ) → look t' p v ≡ look t p v
  look_at p v =
      ap (λ (ks : List Below). option_and_then (λ w. position (is_below_number p w) ks) (word_place t'.below.words.keys v)) alike.below.rows
      ∙ ap (option_and_then (λ w. position (is_below_number p w) t.below.rows.keys)) (place_same t'.below.words.keys t.below.words.keys alike.below.words v)

  pub look_alike : look t' ≡ look t
  look_alike = λ i p v. look_at p v i

  row_alike : (k : ℕ) (d : Row) → k < length t'.rows.items → row_of (get_or t'.rows.items k d) ≡ row_of (get_or t.rows.items k d)
  row_alike k d l =
      sym (get_or-map row_of t'.rows.items k d (row_of d) l) ∙ ap (λ z. get_or z k (row_of d)) alike.rows ∙ get_or-map row_of t.rows.items k d (row_of d) (omega (arith, l, size_alike))

  pub table_alike : IsTable t → IsTable t'
  table_alike ok = record {
    forest = subst (λ z. IsForest z (aboves_of t') (look t')) (sym names_alike) (subst (λ z. IsForest (names_of t) z (look t')) (sym aboves_alike) (subst (IsForest (names_of t) (aboves_of t)) (sym look_alike) ok.forest));
    sized = ap length alike.below.rows ∙ ok.sized ∙ sym size_alike;
    keyed = ap (map (λ (b : Below). b.above)) alike.below.rows ∙ ok.keyed ∙ sym aboves_alike;
    words = subst (λ ks. All (λ (b : Below). b.word < length t'.below.words.keys) ks) (sym alike.below.rows) (subst (λ n. All (λ (b : Below). b.word < n) t.below.rows.keys) (sym words_alike) ok.words);
    alone = λ k d l. subst (λ (s : Seen). (s.4 && is_package s.1.kind) ≡ false → s.3 ≡ []) (sym (row_alike k d l)) (ok.alone k d (omega (arith, l, size_alike)));
  }
    where
      words_alike : length t'.below.words.keys ≡ length t.below.words.keys
      words_alike = sym (length-map t'.below.words.keys string_bytes) ∙ ap length alike.below.words ∙ length-map t.below.words.keys string_bytes

-- nothing that a contract sees has changed
pub table_unchanged : (t t' : Table) → IsUnchanged t t' → IsTable t → IsTable t'
table_unchanged t t' same = table_alike t t' (record { rows = same.rows; below = record { words = ap (λ ks. map string_bytes ks.0) same.below; rows = ap (λ ks. ks.1) same.below } })
