-- The names of files where one of them has a field less, or an import more (for the crates above).
use Rattle.std.proofs.Common.{◌≡◌, ◌≢◌, ℕ, ◌+◌, Bool, List, ◌∷◌, ◌++◌, length, map, Option, Some, option_map, sym, ◌∙◌, ap, ap₂, subst, arith, length-append}
use Rattle.proto_base.proofs.Common.{length-map, or_nothing}
use Rattle.proto_files.proofs.Common.{ReadOf, FileOf, paths_of}
use Rattle.proto_names_rules.proofs.Common.{with_imports, AskedImport, file_with_path, import_from_asked, imports_of, At, at, Import, Reference, Symbol, Workspace, shifted_used}
use Rattle.proto_names_outline.proofs.Common.{file_names, imports_in, move_wanted}
use Rattle.proto_names_imports.specs.Links.{all_wanted, link_imports, names_in, names_of_files, text_of}
use Rattle.proto_edit_statement_laws.specs.Files.{DeletionsHaveLess, ImportsAreMore, IsFieldLess, IsImportMore, IsOneFile, MayGoAt}
use Rattle.proto_edit_statement_laws.specs.NamesCommon.{MayGo, HasMore, HasOneMore, IsAny}
use Rattle.proto_edit_statement_laws.specs.Trees.{move_placed, placed_in}
use Rattle.proto_edit_statement_laws.proofs.Lists.{more_back, more_front, more_map, one_back, one_filter_map, one_front, one_map}
use Rattle.proto_edit_statement_laws.proofs.Spelled.{imports_unplaced, one_function, reference_in, references_at, references_moved, references_walk, symbol_in, symbols_at, symbols_moved, symbols_walk, unplaced, wanted_at, wanted_in, wanted_moved, wanted_walk}
use Rattle.proto_edit_statement_laws.proofs.Walks.{walk, walk_one}

-- as many files
same_count : (before : List ReadOf) (old new : ReadOf) (behind : List ReadOf) → length (map names_in (before ++ new ∷ behind)) ≡ length (map names_in (before ++ old ∷ behind))
same_count before old new behind = length-map (before ++ new ∷ behind) names_in ∙ length-append before (new ∷ behind) ∙ sym (length-append before (old ∷ behind)) ∙ sym (length-map (before ++ old ∷ behind) names_in)

-- the texts of other files
module _ (was now : At → List ℕ) (file : ℕ) (others : (j i : ℕ) → j ≢ file → now (at j i) ≡ was (at j i)) where
  other_words : (k : ℕ) → k ≢ file → ◌≡◌ {A = ℕ → List ℕ} (λ i. now (at k i)) (λ i. was (at k i))
  other_words k ne = one_function (λ i. now (at k i)) (λ i. was (at k i)) (λ i. others k i ne)

  pub other_symbols : (k : ℕ) (r : ReadOf) → k ≢ file → symbols_at now k r ≡ symbols_at was k r
  other_symbols k r ne = ap (λ (words : ℕ → List ℕ). map (symbol_in k words) (placed_in r.tree)) (other_words k ne)

  pub other_references : (k : ℕ) (r : ReadOf) → k ≢ file → references_at now k r ≡ references_at was k r
  other_references k r ne = ap (λ (words : ℕ → List ℕ). map (reference_in k words) (file_names r.tree).used) (other_words k ne)

  pub other_wanted : (k : ℕ) (r : ReadOf) → k ≢ file → wanted_at now k r ≡ wanted_at was k r
  other_wanted k r ne = ap (λ (words : ℕ → List ℕ). map (wanted_in k words) (imports_in r.tree)) (other_words k ne)

-- lists that are one
module _ {A : Type 0} where
  same_front : (zs xs ys : List A) → xs ≡ ys → zs ++ xs ≡ zs ++ ys
  same_front zs xs ys e = ap (λ (l : List A). zs ++ l) e

  same_back : (zs xs ys : List A) → xs ≡ ys → xs ++ zs ≡ ys ++ zs
  same_back zs xs ys e = ap (λ (l : List A). l ++ zs) e

-- what one file has more, the list of all files has more
more_of_files : {A : Type 0} (P : A → Type 0) (was now : ℕ → ReadOf → List A) {files after : List FileOf} {reads seen : List ReadOf} (is : IsOneFile files reads after seen)
    → ((k : ℕ) (r : ReadOf) → k ≢ length is.before → now k r ≡ was k r) → HasMore P (now (length is.before) is.new) (was (length is.before) is.old)
    → {xs ys : List A} → ys ≡ walk was 0 reads → xs ≡ walk now 0 seen → HasMore P xs ys
more_of_files {A} P was now is others own {xs} {ys} old new =
    let whole = walk_one (HasMore P) (λ zs xs ys h. more_front P xs ys h zs) (λ zs xs ys h. more_back P xs ys h zs) now was 0 is.before is.new is.old is.behind
    (λ k r ne. sym (others k r (λ e. ne (e ∙ omega arith)))) (subst (λ (m : ℕ). HasMore P (now m is.new) (was m is.old)) (omega arith) own) in
    subst (λ (l : List A). HasMore P l ys) (sym (new ∙ ap (walk now 0) is.is)) (subst (λ (l : List A). HasMore P (walk now 0 (is.before ++ is.new ∷ is.behind)) l) (sym (old ∙ ap (walk was 0) is.was)) whole)

workspace : ℕ → List Symbol → List Import → List Reference → Workspace
workspace files symbols imports references = record { files = files; symbols = symbols; imports = imports; references = references }

-- ---- a field less

module _ (files : List FileOf) (reads : List ReadOf) (after : List FileOf) (seen : List ReadOf) (is : IsFieldLess files reads after seen) where
  abbrev old : At → List ℕ
  old = text_of files reads

  abbrev new : At → List ℕ
  new = text_of after seen

  abbrev n : ℕ
  n = length is.file.before

  words_old : ◌≡◌ {A = ℕ → List ℕ} (λ i. text_of files reads (at (length is.file.before) (is.to_old i))) is.words
  words_old = one_function (λ i. text_of files reads (at (length is.file.before) (is.to_old i))) is.words is.of_old

  words_new : ◌≡◌ {A = ℕ → List ℕ} (λ i. text_of after seen (at (length is.file.before) (is.to_new i))) is.words
  words_new = one_function (λ i. text_of after seen (at (length is.file.before) (is.to_new i))) is.words is.of_new

  symbols_one : HasMore MayGo (symbols_at (text_of after seen) (length is.file.before) is.file.new) (symbols_at (text_of files reads) (length is.file.before) is.file.old)
  symbols_one =
      let f = length is.file.before in
      let ps = placed_in is.middle in
      let o : ℕ → List ℕ = λ i. text_of files reads (at f i) in
      let v : ℕ → List ℕ = λ i. text_of after seen (at f i) in
      let made : symbols_at (text_of after seen) f is.file.new ≡ map (symbol_in f o) (map (move_placed is.to_old) ps) =
      ap (map (symbol_in f v)) is.same.placed ∙ symbols_moved f v is.to_new ps ∙ ap (λ (w : ℕ → List ℕ). map (symbol_in f w) ps) (words_new ∙ sym words_old) ∙ sym (symbols_moved f o is.to_old ps) in
      subst (λ (z : List Symbol). HasMore MayGo z (symbols_at (text_of files reads) f is.file.old)) (sym made)
      (more_map MayGoAt (map (move_placed is.to_old) ps) (placed_in is.file.old.tree) is.more.placed (symbol_in f o) MayGo (λ p h. h))

  references_one : HasMore IsAny (references_at (text_of after seen) (length is.file.before) is.file.new) (references_at (text_of files reads) (length is.file.before) is.file.old)
  references_one =
      let f = length is.file.before in
      let us = (file_names is.middle).used in
      let o : ℕ → List ℕ = λ i. text_of files reads (at f i) in
      let v : ℕ → List ℕ = λ i. text_of after seen (at f i) in
      let made : references_at (text_of after seen) f is.file.new ≡ map (reference_in f o) (map (shifted_used is.to_old) us) =
      ap (map (reference_in f v)) is.same.used ∙ references_moved f v is.to_new us ∙ ap (λ (w : ℕ → List ℕ). map (reference_in f w) us) (words_new ∙ sym words_old) ∙ sym (references_moved f o is.to_old us) in
      subst (λ (z : List Reference). HasMore IsAny z (references_at (text_of files reads) f is.file.old)) (sym made)
      (more_map IsAny (map (shifted_used is.to_old) us) (file_names is.file.old.tree).used is.more.used (reference_in f o) IsAny (λ u h. h))

  wanted_one : wanted_at (text_of files reads) (length is.file.before) is.file.old ≡ wanted_at (text_of after seen) (length is.file.before) is.file.new
  wanted_one =
      let f = length is.file.before in
      let ws = imports_in is.middle in
      let o : ℕ → List ℕ = λ i. text_of files reads (at f i) in
      let v : ℕ → List ℕ = λ i. text_of after seen (at f i) in
      ap (map (wanted_in f o)) is.more.imports ∙ wanted_moved f o is.to_old ws ∙ ap (λ (w : ℕ → List ℕ). map (wanted_in f w) ws) (words_old ∙ sym words_new) ∙ sym (wanted_moved f v is.to_new ws) ∙ ap (map (wanted_in f v)) (sym is.imports)

  -- of all files, in the lists as they stand
  symbols_all : HasMore MayGo (names_of_files after seen).symbols (names_of_files files reads).symbols
  symbols_all = more_of_files MayGo (symbols_at (text_of files reads)) (symbols_at (text_of after seen)) is.file
      (λ k r ne. other_symbols (text_of files reads) (text_of after seen) (length is.file.before) is.others k r ne) symbols_one
      (symbols_walk (text_of files reads) 0 reads) (symbols_walk (text_of after seen) 0 seen)

  references_all : HasMore IsAny (names_of_files after seen).references (names_of_files files reads).references
  references_all = more_of_files IsAny (references_at (text_of files reads)) (references_at (text_of after seen)) is.file
      (λ k r ne. other_references (text_of files reads) (text_of after seen) (length is.file.before) is.others k r ne) references_one
      (references_walk (text_of files reads) 0 reads) (references_walk (text_of after seen) 0 seen)

  -- the paths that are asked for, wherever they stand
  pub wanted_kept : map unplaced (all_wanted (text_of after seen) 0 seen) ≡ map unplaced (all_wanted (text_of files reads) 0 reads)
  wanted_kept =
      wanted_walk (text_of after seen) 0 seen ∙ ap (walk (wanted_at (text_of after seen)) 0) is.file.is
      ∙ sym (walk_one (λ (xs ys : List AskedImport). xs ≡ ys) same_front same_back (wanted_at (text_of files reads)) (wanted_at (text_of after seen)) 0 is.file.before is.file.old is.file.new is.file.behind
      (λ k r ne. other_wanted (text_of files reads) (text_of after seen) (length is.file.before) is.others k r (λ e. ne (e ∙ omega arith)))
      (subst (λ (m : ℕ). wanted_at (text_of files reads) m is.file.old ≡ wanted_at (text_of after seen) m is.file.new) (omega arith) wanted_one))
      ∙ sym (wanted_walk (text_of files reads) 0 reads ∙ ap (walk (wanted_at (text_of files reads)) 0) is.file.was)

  imports_kept : link_imports after seen ≡ link_imports files reads
  imports_kept =
      sym (imports_unplaced (paths_of after) (all_wanted (text_of after seen) 0 seen)) ∙ ap₂ (λ (ps : List (List ℕ)) (ws : List AskedImport). imports_of ps ws) is.file.paths wanted_kept ∙ imports_unplaced (paths_of files) (all_wanted (text_of files reads) 0 reads)

pub deletions_have_less : DeletionsHaveLess
deletions_have_less files reads after seen is = record {
  files = ap (λ (rs : List ReadOf). length (map names_in rs)) is.file.is ∙ same_count is.file.before is.file.old is.file.new is.file.behind ∙ ap (λ (rs : List ReadOf). length (map names_in rs)) (sym is.file.was);
  imports = imports_kept files reads after seen is;
  symbols = symbols_all files reads after seen is;
  references = references_all files reads after seen is;
}

-- ---- an import more

module _ (files : List FileOf) (reads : List ReadOf) (after : List FileOf) (seen : List ReadOf) (from : ℕ) (path : List ℕ) (is_public : Bool) (is : IsImportMore files reads after seen from path is_public) where
  words_own : ◌≡◌ {A = ℕ → List ℕ} (λ i. text_of after seen (at from (is.move i))) (λ i. text_of files reads (at from i))
  words_own = one_function (λ i. text_of after seen (at from (is.move i))) (λ i. text_of files reads (at from i)) is.own

  symbols_stay : symbols_at (text_of files reads) from is.file.old ≡ symbols_at (text_of after seen) from is.file.new
  symbols_stay =
      let v : ℕ → List ℕ = λ i. text_of after seen (at from i) in
      sym (ap (map (symbol_in from v)) is.same.placed ∙ symbols_moved from v is.move (placed_in is.file.old.tree) ∙ ap (λ (w : ℕ → List ℕ). map (symbol_in from w) (placed_in is.file.old.tree)) words_own)

  references_stay : references_at (text_of files reads) from is.file.old ≡ references_at (text_of after seen) from is.file.new
  references_stay =
      let v : ℕ → List ℕ = λ i. text_of after seen (at from i) in
      sym (ap (map (reference_in from v)) is.same.used ∙ references_moved from v is.move (file_names is.file.old.tree).used ∙ ap (λ (w : ℕ → List ℕ). map (reference_in from w) (file_names is.file.old.tree).used) words_own)

  -- the import as it is written
  abbrev pub written : AskedImport
  written = record { place = at from 0; path = path; is_public = is_public }

  wanted_more : HasOneMore written (wanted_at (text_of files reads) from is.file.old) (wanted_at (text_of after seen) from is.file.new)
  wanted_more =
      let v : ℕ → List ℕ = λ i. text_of after seen (at from i) in
      let ws = imports_in is.file.old.tree in
      let it : wanted_in from v is.wanted ≡ written = ap₂ (λ (p : Option (List ℕ)) (b : Bool). let a : AskedImport = record { place = at from 0; path = or_nothing p; is_public = b } in a) is.path_is is.public_is in
      let stay : map (wanted_in from v) (map (move_wanted is.move) ws) ≡ wanted_at (text_of files reads) from is.file.old = wanted_moved from v is.move ws ∙ ap (λ (w : ℕ → List ℕ). map (wanted_in from w) ws) words_own in
      subst (λ (a : AskedImport). HasOneMore a (wanted_at (text_of files reads) from is.file.old) (wanted_at (text_of after seen) from is.file.new)) it
      (subst (λ (z : List AskedImport). HasOneMore (wanted_in from v is.wanted) z (wanted_at (text_of after seen) from is.file.new)) stay
      (one_map is.wanted (map (move_wanted is.move) ws) (imports_in is.file.new.tree) is.more (wanted_in from v)))

  -- of all files
  there : from ≡ 0 + length is.file.before
  there = is.place ∙ omega arith

  symbols_kept : (names_of_files after seen).symbols ≡ (names_of_files files reads).symbols
  symbols_kept =
      symbols_walk (text_of after seen) 0 seen ∙ ap (walk (symbols_at (text_of after seen)) 0) is.file.is
      ∙ sym (walk_one (λ (xs ys : List Symbol). xs ≡ ys) same_front same_back (symbols_at (text_of files reads)) (symbols_at (text_of after seen)) 0 is.file.before is.file.old is.file.new is.file.behind
      (λ k r ne. other_symbols (text_of files reads) (text_of after seen) from is.others k r (λ e. ne (e ∙ there)))
      (subst (λ (m : ℕ). symbols_at (text_of files reads) m is.file.old ≡ symbols_at (text_of after seen) m is.file.new) there symbols_stay))
      ∙ sym (symbols_walk (text_of files reads) 0 reads ∙ ap (walk (symbols_at (text_of files reads)) 0) is.file.was)

  references_kept : (names_of_files after seen).references ≡ (names_of_files files reads).references
  references_kept =
      references_walk (text_of after seen) 0 seen ∙ ap (walk (references_at (text_of after seen)) 0) is.file.is
      ∙ sym (walk_one (λ (xs ys : List Reference). xs ≡ ys) same_front same_back (references_at (text_of files reads)) (references_at (text_of after seen)) 0 is.file.before is.file.old is.file.new is.file.behind
      (λ k r ne. other_references (text_of files reads) (text_of after seen) from is.others k r (λ e. ne (e ∙ there)))
      (subst (λ (m : ℕ). references_at (text_of files reads) m is.file.old ≡ references_at (text_of after seen) m is.file.new) there references_stay))
      ∙ sym (references_walk (text_of files reads) 0 reads ∙ ap (walk (references_at (text_of files reads)) 0) is.file.was)

  -- the paths that are asked for, wherever they stand
  pub wanted_all : HasOneMore written (map unplaced (all_wanted (text_of files reads) 0 reads)) (map unplaced (all_wanted (text_of after seen) 0 seen))
  wanted_all =
      subst (λ (z : List AskedImport). HasOneMore written z (map unplaced (all_wanted (text_of after seen) 0 seen))) (sym (wanted_walk (text_of files reads) 0 reads ∙ ap (walk (wanted_at (text_of files reads)) 0) is.file.was))
      (subst (λ (z : List AskedImport). HasOneMore written (walk (wanted_at (text_of files reads)) 0 (is.file.before ++ is.file.old ∷ is.file.behind)) z) (sym (wanted_walk (text_of after seen) 0 seen ∙ ap (walk (wanted_at (text_of after seen)) 0) is.file.is))
      (walk_one (HasOneMore written) (λ zs xs ys h. one_front written xs ys h zs) (λ zs xs ys h. one_back written xs ys h zs) (wanted_at (text_of files reads)) (wanted_at (text_of after seen)) 0 is.file.before is.file.old is.file.new is.file.behind
      (λ k r ne. other_wanted (text_of files reads) (text_of after seen) from is.others k r (λ e. ne (e ∙ there)))
      (subst (λ (m : ℕ). HasOneMore written (wanted_at (text_of files reads) m is.file.old) (wanted_at (text_of after seen) m is.file.new)) there wanted_more)))

  imports_more : (to : ℕ) → file_with_path (paths_of files) path ≡ Some to → HasOneMore (record { from = from; to = to; is_public = is_public }) (link_imports files reads) (link_imports after seen)
  imports_more to e =
      let i : Import = record { from = from; to = to; is_public = is_public } in
      let ps = paths_of files in
      let made = one_filter_map written (map unplaced (all_wanted (text_of files reads) 0 reads)) (map unplaced (all_wanted (text_of after seen) 0 seen)) wanted_all (import_from_asked ps) i (ap (option_map (λ t. let j : Import = record { from = from; to = t; is_public = is_public } in j)) e) in
      subst (λ (z : List Import). HasOneMore i z (link_imports after seen)) (imports_unplaced ps (all_wanted (text_of files reads) 0 reads))
      (subst (λ (z : List Import). HasOneMore i (imports_of ps (map unplaced (all_wanted (text_of files reads) 0 reads))) z) (imports_unplaced ps (all_wanted (text_of after seen) 0 seen) ∙ ap (λ (qs : List (List ℕ)). imports_of qs (all_wanted (text_of after seen) 0 seen)) (sym is.file.paths)) made)

  names_kept : names_of_files after seen ≡ with_imports (names_of_files files reads) (link_imports after seen)
  unfolding workspace
  names_kept =
      let count : length (map names_in seen) ≡ length (map names_in reads) = ap (λ (rs : List ReadOf). length (map names_in rs)) is.file.is ∙ same_count is.file.before is.file.old is.file.new is.file.behind ∙ ap (λ (rs : List ReadOf). length (map names_in rs)) (sym is.file.was) in
      ap (λ (c : ℕ). workspace c (names_of_files after seen).symbols (link_imports after seen) (names_of_files after seen).references) count
      ∙ ap₂ (λ (s : List Symbol) (r : List Reference). workspace (length (map names_in reads)) s (link_imports after seen) r) symbols_kept references_kept

pub imports_are_more : ImportsAreMore
imports_are_more files reads after seen from to path is_public is e = (names_kept files reads after seen from path is_public is, imports_more files reads after seen from path is_public is to e)
