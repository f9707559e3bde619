-- What a link has of each file's references is what they mean, in the order of their first tokens (for the crates above).
use Rattle.std.proofs.Common.{◌≡◌, ℕ, zero, suc, ◌<◌, List, [], ◌∷◌, length, get_or, map, option_map, Some, refl, sym, ◌∙◌, ap, subst, arith, All, AllPairs}
use Rattle.proto_base.proofs.Common.{Vec, get_or-map, length-map}
use Rattle.proto_files.proofs.Common.{FileOf, file_at, ReadOf, AreRead, read_at}
use Rattle.proto_names.specs.Common.{AreFileMeant, uses_of, first_key, meant_by_link, meant_by_use, LinkOf, NameOf, name_at, name_of_row, Meant}
use Rattle.proto_names.specs.LinkOfFiles.{IsMeantIn}
use Rattle.proto_names_rules.proofs.Common.{joined, map_map, meaning, Used}
use Rattle.proto_names_imports.specs.Links.{names_of_files, text_of}
use Rattle.proto_names_table.proofs.Common.{used_named, IsIndexOf, IsTable, names_of, pick}
use Rattle.proto_names_table.specs.declared.table.Table.{Table}
use Rattle.proto_names.proofs.NamesThere.{row_there, text_there}
use Rattle.proto_names_outline.proofs.ReadTrees.{uses_rising}

-- as other elements' numbers rise, so do these
pub rising_by : {X Y : Type 0} (f : X → ℕ) (g : Y → ℕ) (xs : List X) (ys : List Y) → map f xs ≡ map g ys → AllPairs (λ a b. g a < g b) ys → AllPairs (λ a b. f a < f b) xs
rising_by f g xs ys same rise i j d l m =
    let n : length xs ≡ length ys = sym (length-map xs f) ∙ ap length same ∙ length-map ys g in
    let other = pick ys j (omega (arith, m, n)) in
    let at : (k : ℕ) → k < length xs → f (get_or xs k d) ≡ g (get_or ys k other) =
    λ k o. sym (get_or-map f xs k d 0 o) ∙ ap (λ z. get_or z k 0) same ∙ get_or-map g ys k other 0 (omega (arith, o, n)) in
    omega (arith, at i (omega (arith, l, m)), at j m, rise i j other l (omega (arith, m, n)))

-- the first tokens of a file's references rise
pub tokens_rise : (t : Table) (files : List FileOf) (reads : List ReadOf) → AreRead files reads → (file : ℕ) → file < length files → (ms : List Meant) → AreFileMeant t files reads file ms → AllPairs (λ m n. m.token < n.token) ms
tokens_rise t files reads are file l ms meant =
    rising_by (λ m. m.token) (λ u. u.first) ms (uses_of reads file) meant.places
    (uses_rising (file_at files file).profile (file_at files file).bytes (read_at reads file).tokens (read_at reads file).tree (are.trees file l))

pub all_tokens_rise : (t : Table) (files : List FileOf) (reads : List ReadOf) → AreRead files reads → (meant : List (Vec Meant)) → length meant ≡ length files
    → ((k : ℕ) → k < length files → AreFileMeant t files reads k (get_or (map (λ v. v.items) meant) k [])) → All (λ v. AllPairs (λ m n. m.token < n.token) v.items) meant
all_tokens_rise t files reads are meant sized means k d l =
    subst (AllPairs (λ m n. m.token < n.token)) (get_or-map (λ v. v.items) meant k d [] l)
    (tokens_rise t files reads are k (omega (arith, l, sized)) (get_or (map (λ v. v.items) meant) k []) (means k (omega (arith, l, sized))))

module _ (files : List FileOf) (reads : List ReadOf) (t : Table) (ok : IsTable t) (l : LinkOf) (same : map name_of_row t.rows.items ≡ l.names) (index : IsIndexOf t (names_of_files files reads).symbols) where
  same_texts : (file : ℕ) (us : List (Used ℕ)) (ms : List Meant) → map (λ m. m.token) ms ≡ map (λ u. u.first) us
      → map (λ m. Some (get_or (names_of t) m.row [])) ms ≡ map (λ r. option_map joined (meaning (names_of_files files reads) r)) (map (used_named (text_of files reads) file) us)
      → map (meant_by_link l) ms ≡ map (meant_by_use files reads file) us
  same_texts file [] [] tokens names = refl
  same_texts file [] (m ∷ ms) tokens names = absurd (cc)
  same_texts file (u ∷ us) [] tokens names = absurd (cc)
  same_texts file (u ∷ us) (m ∷ ms) tokens names =
      let token : m.token ≡ u.first = cc in
      let here : Some (get_or (names_of t) m.row []) ≡ option_map joined (meaning (names_of_files files reads) (used_named (text_of files reads) file u)) = cc in
      let tokens_on : map (λ (x : Meant). x.token) ms ≡ map (λ (x : Used ℕ). x.first) us = cc in
      let names_on : map (λ (x : Meant). Some (get_or (names_of t) x.row [])) ms ≡ map (λ r. option_map joined (meaning (names_of_files files reads) r)) (map (used_named (text_of files reads) file) us) = cc in
      let text = text_there t ok l same (names_of_files files reads) index (used_named (text_of files reads) file u) m.row here ∙ here in
      λ i. record { token = token i; text = text i } ∷ same_texts file us ms tokens_on names_on i

  -- each means a name that is there
  all_there : (file : ℕ) (us : List (Used ℕ)) (ms : List Meant)
      → map (λ m. Some (get_or (names_of t) m.row [])) ms ≡ map (λ r. option_map joined (meaning (names_of_files files reads) r)) (map (used_named (text_of files reads) file) us)
      → (k : ℕ) (d : Meant) → k < length ms → (n : NameOf) × (name_at l (get_or ms k d).row ≡ Some n)
  all_there file us [] names k d n = absurd (omega (arith, n))
  all_there file [] (m ∷ ms) names k d n = absurd (cc)
  all_there file (u ∷ us) (m ∷ ms) names zero d n =
      let here : Some (get_or (names_of t) m.row []) ≡ option_map joined (meaning (names_of_files files reads) (used_named (text_of files reads) file u)) = cc in
      let x = row_there t ok l same (names_of_files files reads) index (used_named (text_of files reads) file u) m.row here in
      (x.0, x.1)
  all_there file (u ∷ us) (m ∷ ms) names (suc k) d n =
      let names_on : map (λ (x : Meant). Some (get_or (names_of t) x.row [])) ms ≡ map (λ r. option_map joined (meaning (names_of_files files reads) r)) (map (used_named (text_of files reads) file) us) = cc in
      all_there file us ms names_on k d (omega (arith, n))

  pub is_meant_in : AreRead files reads → (file : ℕ) → file < length files → AreFileMeant t files reads file (get_or l.meant file []) → IsMeantIn files reads l file
  is_meant_in are file m a =
      let ms = get_or l.meant file [] in
      record {
        texts = same_texts file (uses_of reads file) ms a.places a.names;
        firsts = a.firsts ∙ map_map (used_named (text_of files reads) file) first_key (uses_of reads file);
        rising = tokens_rise t files reads are file m ms a;
        within = all_there file (uses_of reads file) ms a.names;
      }
