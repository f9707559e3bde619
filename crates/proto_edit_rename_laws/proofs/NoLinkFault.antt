-- No fault of texts, the grammar, imports, names and references comes in by a rename (for the crates above).
use Rattle.std.proofs.Common.{◌+◌, ◌≡◌, ℕ, zero, suc, ◌<◌, List, [], ◌∷◌, length, get_or, map, slice_index_or, refl, sym, subst, inl, inr, arith, Contains}
use Rattle.proto_base.specs.declared.fault.FaultKind.{FaultKind}
use Rattle.proto_base.specs.FaultTable.{kind_number}
use Rattle.proto_base.specs.declared.fault.FaultKind.TheVariants as kind
use Rattle.proto_case.proofs.Common.{entry_name, entry_differs}
use Rattle.proto_text.specs.declared.lexer.Token.{Token}
use Rattle.proto_text.proofs.Common.{offset_at, lexeme_at, no_fault_with_tokens_in, one_token_list}
use Rattle.proto_text.specs.declared.fault.LexFault.TheVariants as lex
use Rattle.proto_tree.specs.Reads.{ReadsIn}
use Rattle.proto_files.proofs.Common.{FaultAt, HasNoFault, FileOf, file_at, paths_of, IsText, IsTextFault, IsGrammarFault, ReadOf, AreRead, read_at, read_once}
use Rattle.proto_names_rules.proofs.Common.{AskedImport, Fault, ImportFault, unknown, double, cycle, NameFault, earlier, of_package, ReferenceFault, unresolved, wrong_kind, of_entry, At, FileNames, IsGrown, Skeleton, linked_after, files_nested, files_woven, linked_from, names_sound, references_sound}
use Rattle.proto_names_outline.proofs.FromTree.{tree_grown}
use Rattle.proto_names_imports.specs.Links.{LinkFaults, FaultStandsAt, of_import, of_name, of_reference, all_wanted, link_skeleton, link_imports, names_in, text_of}
use Rattle.proto_edit_rename_laws.specs.NoLinkFault.{FilesAreWoven, FilesAreLinked, ReadFilesAreClean, NoLinkFaultComesIn}
use Rattle.proto_edit_rename_laws.proofs.Rewording.{asked_stay, skeletons_stay}
use Rattle.proto_files.specs.ReadFaults.{AreFileTokens}
use Rattle.proto_tree.proofs.Common.{trees_have_tokens}

-- ---- what was read

index_get : {A : Type 0} (xs : List A) (d : A) (k : ℕ) → k < length xs → (x : A) → get_or xs k d ≡ x → slice_index_or xs k x ≡ x
index_get [] d k l x e = absurd (omega (arith, l))
index_get (y ∷ xs) d zero l x e = e
index_get (y ∷ xs) d (suc k) l x e = index_get xs d k (omega (arith, l)) x e

-- a property of what is read of each file is one of all
each_grown : (rs : List ReadOf) → ((k : ℕ) → k < length rs → IsGrown (names_in (read_at rs k))) → (j : ℕ) (d : FileNames) → j < length (map names_in rs) → IsGrown (get_or (map names_in rs) j d)
each_grown [] h j d l = absurd (omega (arith, l))
each_grown (r ∷ rs) h zero d l = h 0 (omega arith)
each_grown (r ∷ rs) h (suc j) d l = each_grown rs (λ k m. h (suc k) (omega (arith, m))) j d (omega (arith, l))

pub files_are_woven : FilesAreWoven
files_are_woven files reads r =
    files_woven (link_imports files reads) (map names_in reads) (each_grown reads (λ k l.
    let t = r.trees k (omega (arith, l, r.same)) in
    tree_grown (file_at files k).profile (read_at reads k).tree
    (map (lexeme_at (file_at files k).bytes) (read_at reads k).tokens) t.spells))

-- ---- faults as they stand

module _ (files : List FileOf) (reads : List ReadOf) where
  standing : (f : Fault) → FaultKind → FaultAt
  standing f k = record { path = (file_at files f.place.file).path; offset = offset_at (read_at reads f.place.file).tokens f.place.token; kind = k }

  stands : (f : Fault) (k : FaultKind) → kind_number k ≡ f.number → FaultStandsAt files reads f (standing f k)
  unfolding standing
  stands f k e = record { path = refl; offset = refl; number = e }

  module _ (r : AreRead files reads) (clean : HasNoFault (LinkFaults files)) where
    no_import : (f : Fault) (k : FaultKind) → kind_number k ≡ f.number → ImportFault (paths_of files) (all_wanted (text_of files reads) 0 reads) f → ⊥
    no_import f k e h = clean (standing f k) (of_import reads f (standing f k) r (stands f k e) h)

    no_name : (f : Fault) → NameFault (text_of files reads) (link_skeleton files reads).declared f → ⊥
    no_name f (earlier d h other) = clean (standing f kind.DuplicateName) (of_name reads f (standing f kind.DuplicateName) r (stands f kind.DuplicateName refl) (earlier d h other))
    no_name f (of_package d e cd ce other p same) = clean (standing f kind.DuplicateName) (of_name reads f (standing f kind.DuplicateName) r (stands f kind.DuplicateName refl) (of_package d e cd ce other p same))

    no_reference : (f : Fault) → ReferenceFault (text_of files reads) (link_skeleton files reads) f → ⊥
    no_reference f (unresolved u cu h) = clean (standing f kind.Unresolved) (of_reference reads f (standing f kind.Unresolved) r (stands f kind.Unresolved refl) (unresolved u cu h))
    no_reference f (wrong_kind u s cu cs h m e) = clean (standing f kind.WrongKind) (of_reference reads f (standing f kind.WrongKind) r (stands f kind.WrongKind refl) (wrong_kind u s cu cs h m e))
    no_reference f (of_entry u s cu cs h e) = clean (standing f kind.MapEntryRef) (of_reference reads f (standing f kind.MapEntryRef) r (stands f kind.MapEntryRef refl) (of_entry u s cu cs h e))

    no_imports : (f : Fault) → ImportFault (paths_of files) (all_wanted (text_of files reads) 0 reads) f → ⊥
    no_imports f (unknown a ca h) = no_import f kind.UnknownImport refl (unknown a ca h)
    no_imports f (double a h) = no_import f kind.DoubleImport refl (double a h)
    no_imports f (cycle a to ca h l) = no_import f kind.ImportCycle refl (cycle a to ca h l)

pub files_are_linked : FilesAreLinked
files_are_linked files reads r clean =
    linked_from (text_of files reads) (link_skeleton files reads) (files_nested (text_of files reads) entry_name (link_imports files reads) (map names_in reads)) (no_name files reads r clean) (no_reference files reads r clean)

pub no_link_fault : NoLinkFaultComesIn
no_link_fault files reads c after seen token above aim is_map to r clean x (of_import others f y are at h) =
    let same : others ≡ seen = read_once after others seen are r.reworded.read in
    let there : ImportFault (paths_of after) (all_wanted (text_of after seen) 0 seen) f = subst (λ rs. ImportFault (paths_of after) (all_wanted (text_of after rs) 0 rs) f) same h in
    let asked = asked_stay c files reads after seen r.read r.suits r.reworded in
    no_imports files reads r.read clean f (subst (λ (ps : List (List ℕ)). ImportFault ps (all_wanted (text_of files reads) 0 reads) f) r.reworded.paths (subst (λ (ws : List AskedImport). ImportFault (paths_of after) ws f) asked there))
no_link_fault files reads c after seen token above aim is_map to r clean x (of_name others f y are at h) =
    let same : others ≡ seen = read_once after others seen are r.reworded.read in
    let there = subst (λ rs. NameFault (text_of after rs) (link_skeleton after rs).declared f) same h in
    let k = link_skeleton files reads in
    let here = subst (λ (s : Skeleton At). NameFault (text_of after seen) s.declared f) (skeletons_stay c files reads after seen r.read r.suits r.reworded) there in
    let linked = linked_after (text_of files reads) (text_of after seen) entry_name k token above aim is_map to r.linked r.woven r.is r.entry r.respelled entry_differs r.free in
    names_sound (text_of after seen) k linked f here
no_link_fault files reads c after seen token above aim is_map to r clean x (of_reference others f y are at h) =
    let same : others ≡ seen = read_once after others seen are r.reworded.read in
    let there = subst (λ rs. ReferenceFault (text_of after rs) (link_skeleton after rs) f) same h in
    let k = link_skeleton files reads in
    let here = subst (λ (s : Skeleton At). ReferenceFault (text_of after seen) s f) (skeletons_stay c files reads after seen r.read r.suits r.reworded) there in
    let linked = linked_after (text_of files reads) (text_of after seen) entry_name k token above aim is_map to r.linked r.woven r.is r.entry r.respelled entry_differs r.free in
    references_sound (text_of after seen) k linked f here

-- ---- texts and the grammar

module _ (f : FileOf) (tokens : List Token) (tree : _) (r : ReadsIn f.profile f.bytes tokens tree) (is : IsText f.bytes) where
  are : AreFileTokens f tokens
  are = trees_have_tokens f.profile f.bytes tokens tree r

  no_text_fault : (offset : ℕ) (k : FaultKind) → IsTextFault f offset k → ⊥
  no_text_fault offset kind.TooLarge h = let s = is.short in absurd (omega (arith, h.1, s))
  no_text_fault offset kind.NotUtf8 h = h.2 is.utf8
  no_text_fault offset kind.BadChar h = no_fault_with_tokens_in f.profile f.bytes tokens offset lex.BadChar are h.1
  no_text_fault offset kind.OpenComment h = no_fault_with_tokens_in f.profile f.bytes tokens offset lex.OpenComment are h.1
  no_text_fault offset kind.OpenString h = no_fault_with_tokens_in f.profile f.bytes tokens offset lex.OpenString are h.1
  no_text_fault offset kind.BadEscape h = no_fault_with_tokens_in f.profile f.bytes tokens offset lex.BadEscape are h.1
  no_text_fault offset kind.BadNumber h = no_fault_with_tokens_in f.profile f.bytes tokens offset lex.BadNumber are h.1
  no_text_fault offset _ h = h

  no_grammar_fault : (offset : ℕ) (k : FaultKind) → IsGrammarFault f offset k → ⊥
  no_grammar_fault offset kind.Syntax h =
      let reads = subst (λ (ts : List Token). ReadsIn f.profile f.bytes ts tree) (one_token_list f.bytes tokens h.0 r.tokens_are (h.1.0, h.1.1.0, h.1.2)) r in
      h.2.no_tree tree reads.spells
  no_grammar_fault offset kind.TooDeep h =
      let reads = subst (λ (ts : List Token). ReadsIn f.profile f.bytes ts tree) (one_token_list f.bytes tokens h.0 r.tokens_are (h.1.0, h.1.1.0, h.1.2)) r in
      let within = h.2.place.within in
      let deep = h.2.place.deep in
      let shallow = reads.shallow (h.2.at + 1) (omega (arith, within)) in
      omega (arith, deep, within, shallow)
  no_grammar_fault offset _ h = h

-- a file of a list by its place
place_of_file : (files : List FileOf) (f : FileOf) → Contains files f → (k : ℕ) × (k < length files) × (file_at files k ≡ f)
place_of_file files f c = (c.0, c.1, by files c.0 c.1 c.2)
  where
    by : (xs : List FileOf) (k : ℕ) → k < length xs → get_or xs k f ≡ f → file_at xs k ≡ f
    by [] k l e = absurd (omega (arith, l))
    by (x ∷ xs) zero l e = e
    by (x ∷ xs) (suc k) l e = by xs k (omega (arith, l)) e

pub read_files_are_clean : ReadFilesAreClean
read_files_are_clean files reads r text x (inl (f, c, path, says)) =
    let p = place_of_file files f c in
    let h = subst (λ (g : FileOf). IsTextFault g x.offset x.kind) (sym p.2) says in
    no_text_fault (file_at files p.0) (read_at reads p.0).tokens (read_at reads p.0).tree (r.trees p.0 p.1) (text p.0 p.1) x.offset x.kind h
read_files_are_clean files reads r text x (inr (f, c, path, says)) =
    let p = place_of_file files f c in
    let h = subst (λ (g : FileOf). IsGrammarFault g x.offset x.kind) (sym p.2) says in
    no_grammar_fault (file_at files p.0) (read_at reads p.0).tokens (read_at reads p.0).tree (r.trees p.0 p.1) (text p.0 p.1) x.offset x.kind h
