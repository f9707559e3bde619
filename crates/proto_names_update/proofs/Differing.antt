-- What files that are not edited declare and refer to is the same (for the crates above).
use Rattle.std.proofs.Common.{◌≡◌, ℕ, ◌+◌, ◌<◌, List, [], ◌∷◌, ◌++◌, length, map, refl, sym, ◌∙◌, ap, ap₂, subst, arith, Contains}
use Rattle.proto_base.proofs.Common.{contains_map, from_map, length-map}
use Rattle.proto_case.specs.Camel.{entry_name}
use Rattle.proto_text.specs.Texts.{words}
use Rattle.proto_tree.specs.Reads.{ReadsIn}
use Rattle.proto_files.proofs.Common.{FileOf, ReadOf, file_at, one_reading, read_at}
use Rattle.proto_names_rules.proofs.Common.{At, FileAt, FileNames, Placed, Reference, Source, Symbol, Token, EntryOf, Given, Used, all_declared, all_used, at, declared_to, declares, file_placed, name_of, reference_of, shifted_source, symbol_of, used_in}
use Rattle.proto_names_rules.proofs.Files.{declared_from}
use Rattle.proto_names_imports.proofs.FileUses.{use_from, use_in}
use Rattle.proto_names_imports.specs.Links.{names_in, names_of_files, text_of}
use Rattle.proto_names_imports.proofs.NumberedFiles.{file_there, numbered}
use Rattle.proto_names_update.specs.Edited.{AreEdited, EditedFilesDiffer}

-- ---- by the texts of one file

module _ (text now : At → List ℕ) (file : ℕ) (same : (i : ℕ) → now (at file i) ≡ text (at file i)) where
  same_name : (path : List (Source ℕ)) → name_of now entry_name (map (shifted_source (at file)) path) ≡ name_of text entry_name (map (shifted_source (at file)) path)
  same_name [] = refl
  same_name (Token i ∷ path) = ap₂ (λ (w : List ℕ) (n : List (List ℕ)). w ∷ n) (same i) (same_name path)
  same_name (EntryOf i ∷ path) = ap₂ (λ (w : List ℕ) (n : List (List ℕ)). entry_name w ∷ n) (same i) (same_name path)
  same_name (Given w ∷ path) = ap (λ (n : List (List ℕ)). w ∷ n) (same_name path)

  same_words : (tokens : List ℕ) → map now (map (at file) tokens) ≡ map text (map (at file) tokens)
  same_words [] = refl
  same_words (i ∷ tokens) = ap₂ (λ (w : List ℕ) (n : List (List ℕ)). w ∷ n) (same i) (same_words tokens)

  same_symbol : (p : Placed) → symbol_of now entry_name (declares file p) ≡ symbol_of text entry_name (declares file p)
  same_symbol p = ap (λ (n : List (List ℕ)). let s : Symbol = record { name = n; kind = p.kind; file = file } in s) (same_name (p.above ++ p.last ∷ []))

  pub same_reference : (u : Used ℕ) → reference_of now entry_name (used_in file u) ≡ reference_of text entry_name (used_in file u)
  same_reference u = ap₂ (λ (n ws : List (List ℕ)). let r : Reference = record { file = file; scope = n; is_absolute = u.is_absolute; wants = u.wants; words = ws } in r) (same_name u.scope) (same_words u.tokens)

-- ---- the files before and now

module _ (places : List ℕ) (before : List FileOf) (was : List ReadOf) (files : List FileOf) (reads : List ReadOf) (is : AreEdited places before was files reads) where
  pub as_many : length before ≡ length files
  as_many = sym (length-map before (λ (f : FileOf). f.path)) ∙ ap length is.same.paths ∙ length-map files (λ (f : FileOf). f.path)

  module _ (k : ℕ) (l : k < length files) (left : Contains places k → ⊥) where
    same_file : file_at before k ≡ file_at files k
    same_file = is.same.others k l left

    pub same_reading : read_at was k ≡ read_at reads k
    same_reading =
        let there : ReadsIn (file_at before k).profile (file_at before k).bytes (read_at was k).tokens (read_at was k).tree = is.were_read.trees k (omega (arith, l, as_many)) in
        one_reading (file_at files k).profile (file_at files k).bytes (read_at was k) (read_at reads k) (subst (λ (f : FileOf). ReadsIn f.profile f.bytes (read_at was k).tokens (read_at was k).tree) same_file there) (is.are_read.trees k l)

    pub same_text : (i : ℕ) → text_of files reads (at k i) ≡ text_of before was (at k i)
    same_text i = ap₂ (λ (f : FileOf) (r : ReadOf). words f.bytes r.tokens i) (sym same_file) (sym same_reading)

  symbol_stays : (s : Symbol) → Contains (names_of_files before was).symbols s → (Contains places s.file → ⊥) → Contains (names_of_files files reads).symbols s
  symbol_stays s c left =
      let d = from_map (symbol_of (text_of before was) entry_name) (all_declared 0 (map names_in was)) s c in
      let from = declared_from 0 (map names_in was) d.0 d.1 in
      let i = numbered 0 was from.file from.f from.there in
      let file : from.file ≡ i.place = omega (arith, i.file_is) in
      let l : i.place < length files = omega (arith, i.within, is.were_read.same, as_many) in
      let stands : s.file ≡ i.place = ap (λ (z : Symbol). z.file) (sym d.2) ∙ ap (λ z. z.file) (sym from.is) ∙ file in
      let out : Contains places i.place → ⊥ = λ there. left (subst (Contains places) (sym stands) there) in
      let name : symbol_of (text_of files reads) entry_name (declares i.place from.p) ≡ s =
      same_symbol (text_of before was) (text_of files reads) i.place (same_text i.place l out) from.p
      ∙ ap (λ (k : ℕ). symbol_of (text_of before was) entry_name (declares k from.p)) (sym file)
      ∙ ap (symbol_of (text_of before was) entry_name) from.is ∙ d.2 in
      let names : from.f ≡ names_in (read_at reads i.place) = sym i.names_are ∙ ap names_in (same_reading i.place l out) in
      let here : 0 + i.place ≡ i.place = omega arith in
      let there : FileAt 0 (map names_in reads) i.place (names_in (read_at reads i.place)) =
      subst (λ (m : ℕ). FileAt 0 (map names_in reads) m (names_in (read_at reads i.place))) here (file_there 0 reads i.place (omega (arith, l, is.are_read.same))) in
      subst (Contains (names_of_files files reads).symbols) name
      (contains_map (symbol_of (text_of files reads) entry_name) (all_declared 0 (map names_in reads)) (declares i.place from.p)
      (declared_to 0 (map names_in reads) i.place (names_in (read_at reads i.place)) there from.p (subst (λ (f : FileNames). Contains (file_placed f.items) from.p) names from.within)))

  reference_was : (r : Reference) → Contains (names_of_files files reads).references r → (Contains places r.file → ⊥) → Contains (names_of_files before was).references r
  reference_was r c left =
      let u = from_map (reference_of (text_of files reads) entry_name) (all_used 0 (map names_in reads)) r c in
      let v = use_from 0 reads u.0 u.1 in
      let at_place : used_in v.0 v.2.0 ≡ u.0 = ap (λ (k : ℕ). used_in k v.2.0) (zero_more v.0) ∙ v.2.2 in
      let l : v.0 < length files = omega (arith, v.1, is.are_read.same) in
      let stands : r.file ≡ v.0 = ap (λ (z : Reference). z.file) (sym u.2) ∙ ap (λ z. z.file) (sym at_place) in
      let out : Contains places v.0 → ⊥ = λ there. left (subst (Contains places) (sym stands) there) in
      let name : reference_of (text_of before was) entry_name (used_in v.0 v.2.0) ≡ r =
      sym (same_reference (text_of before was) (text_of files reads) v.0 (same_text v.0 l out) v.2.0)
      ∙ ap (reference_of (text_of files reads) entry_name) at_place ∙ u.2 in
      let within : Contains (names_in (read_at was v.0)).used v.2.0 = subst (λ (x : ReadOf). Contains (names_in x).used v.2.0) (sym (same_reading v.0 l out)) v.2.1 in
      subst (Contains (names_of_files before was).references) name
      (contains_map (reference_of (text_of before was) entry_name) (all_used 0 (map names_in was)) (used_in v.0 v.2.0)
      (subst (λ (k : ℕ). Contains (all_used 0 (map names_in was)) (used_in k v.2.0)) (sym (zero_more v.0)) (use_in 0 v.0 was v.2.0 (omega (arith, l, is.were_read.same, as_many)) within)))
    where
      zero_more : (k : ℕ) → k ≡ 0 + k
      zero_more k = omega arith

-- files before are edited ones of those now, too
pub turned : (places : List ℕ) (before : List FileOf) (was : List ReadOf) (files : List FileOf) (reads : List ReadOf) → AreEdited places before was files reads → AreEdited places files reads before was
turned places before was files reads is = record {
  same = record {
    paths = sym is.same.paths;
    others = λ file l out. sym (is.same.others file (omega (arith, l, as_many places before was files reads is)) out);
  };
  were_read = is.are_read;
  are_read = is.were_read;
}

pub edited_files_differ : EditedFilesDiffer
edited_files_differ places before was files reads is = record {
  stay = symbol_stays places before was files reads is;
  none_new = symbol_stays places files reads before was (turned places before was files reads is);
  references = reference_was places before was files reads is;
}
