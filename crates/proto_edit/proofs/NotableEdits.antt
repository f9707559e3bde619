-- An accepted edit can be written down: its names are of words, and its paths are those of files.
use Rattle.std.proofs.Common.{◌≡◌, ◌≢◌, ℕ, zero, suc, ◌+◌, ◌<◌, Bool, true, false, List, [], ◌∷◌, ◌++◌, length, get_or, map, Option, Some, None, refl, sym, ◌∙◌, ap, subst, inl, inr, arith, length-append}
use Rattle.std.specs.List.{AllPass, Contains, join_with_byte}
use Rattle.std.specs.Prelude.{All}
use Rattle.std.specs.Str.{bytes_eq}
use Rattle.std.proofs.lemmas.Bool.{false≢true}
use Rattle.std.proofs.lemmas.List.Elements.{All-nil, All-head, All-tail, All-push, Contains-append_cases}
use Rattle.std.proofs.lemmas.List.Quantifiers.{position-Some}
use Rattle.proto_base.specs.declared.fault.FaultKind.{FaultKind}
use Rattle.proto_base.specs.declared.fault.FaultKind.TheVariants as kind
use Rattle.proto_base.proofs.Common.{kind_number, contains_cases, from_map, word_from_same}
use Rattle.proto_text.specs.declared.class.Class.TheVariants.{Letter}
use Rattle.proto_text.proofs.Common.{IsRun, offset_at, is_run, is_run_again}
use Rattle.proto_case.specs.Camel.{entry_name}
use Rattle.proto_files.proofs.Common.{HasNoFault, AreRead, ReadOf, read_at, AreWorkspaceFiles, FileOf, file_at, paths_of, IsWorkspacePath}
use Rattle.proto_files.specs.WorkspacePaths.{is_workspace_path}
use Rattle.proto_files.proofs.WorkspacePathTest.{is_path_from_test, test_from_is_path}
use Rattle.proto_names_rules.specs.declared.kind.Kind.{Kind}
use Rattle.proto_names_rules.specs.declared.kind.Kind.TheVariants.{Field, Value, Method, Extension}
use Rattle.proto_names_rules.proofs.Common.{Fault, ImportFault, fault, file_with_path, unknown, At, at, all_declared, declared_of, file_declared, joined, Declared, EntryOf, Given, Source, Token, name_of, shifted_declared, spell, Items, Member, Members, Placed, all_placed, enum, extend, field, file_placed, item, items_placed, map_field, member, message, no_items, no_members, oneof, package_of, packaged, place, placed, prefixes, service, map_append, file_stands}
use Rattle.proto_names_outline.proofs.Common.{items_in, last_token, whole, token_last}
use Rattle.proto_names_outline.proofs.ReadWords.{placed_worded}
use Rattle.proto_names_imports.proofs.Common.{LinkFaults, names_in, of_import, text_of, name_in}
use Rattle.proto_edit_rename_laws.proofs.Common.{not_an_identifier, IsNamed, Target, may_rename}
use Rattle.proto_edit_rules.specs.AddImport.{IsImported, asked_in, unknown_path, by_name}
use Rattle.proto_edit_rules.specs.Statements.{IsPlaceOf}
use Rattle.proto_edit_rules.specs.DropImport.{not_imported}
use Rattle.proto_desc.specs.Whole.{of_link}
use Rattle.proto_edit_entries.proofs.Common.{ChangeOf, IsDotted, IsNotable}
use Rattle.proto_edit.specs.Common.{AreCompiled, Asked, ChangesOf, IsAdmissible, add_import, delete_field, drop_import, rename, AcceptedAreNotable}

-- ---- paths

path_at : (files : List FileOf) (k : ℕ) → k < length (paths_of files) → All (λ f. IsWorkspacePath f.path) files → IsWorkspacePath (get_or (paths_of files) k [])
path_at [] k l h = absurd (omega (arith, l))
path_at (f ∷ fs) zero l h = All-head (λ (x : FileOf). IsWorkspacePath x.path) f fs h
path_at (f ∷ fs) (suc k) l h = path_at fs k (omega (arith, l)) (All-tail (λ (x : FileOf). IsWorkspacePath x.path) f fs h)

named_path : (files : List FileOf) (path : List ℕ) (k : ℕ) → AreWorkspaceFiles files → IsPlaceOf files path k → IsWorkspacePath path
named_path files path k are e =
    let p = position-Some (bytes_eq path) (paths_of files) k [] e in
    subst IsWorkspacePath (sym (word_from_same path (get_or (paths_of files) k []) p.1)) (path_at files k p.0 are.named)

module _ (files : List FileOf) (reads : List ReadOf) (compiled : AreCompiled files) (read : AreRead files reads) where
  links : HasNoFault (LinkFaults files)
  links x h = compiled.clean x (of_link x h)

  no_fault : (f : Fault) (k : FaultKind) → kind_number k ≡ f.number → ImportFault (paths_of files) (asked_in files reads) f → ⊥
  no_fault f k e h = links (record { path = (file_at files f.place.file).path; offset = offset_at (read_at reads f.place.file).tokens f.place.token; kind = k }) (of_import reads f _ read (record { path = refl; offset = refl; number = e }) h)

  -- an import names a file
  imported_path : (path : List ℕ) (k : ℕ) → IsImported files reads k path → IsWorkspacePath path
  imported_path path k i = go (file_with_path (paths_of files) i.0.path) refl
    where
      go : (o : Option ℕ) → file_with_path (paths_of files) i.0.path ≡ o → IsWorkspacePath path
      go None e = absurd (no_fault (fault i.0.place 10) kind.UnknownImport refl (unknown i.0 i.1 e))
      go (Some to) e = subst IsWorkspacePath i.3 (named_path files i.0.path to compiled.workspace e)

  dropped_path : (file path : List ℕ) (k : ℕ) → IsPlaceOf files file k → IsAdmissible files (drop_import file path) → IsWorkspacePath path
  dropped_path file path k there admissible = go (is_workspace_path path) refl
    where
      go : (b : Bool) → is_workspace_path path ≡ b → IsWorkspacePath path
      go true e = is_path_from_test path e
      go false e = absurd (admissible 13 (reads, read, not_imported k there (λ i. false≢true (sym e ∙ test_from_is_path path (imported_path path k i)))))

  added_path : (file path : List ℕ) → IsAdmissible files (add_import file path) → IsWorkspacePath path
  added_path file path admissible = go (file_with_path (paths_of files) path) refl
    where
      go : (o : Option ℕ) → file_with_path (paths_of files) path ≡ o → IsWorkspacePath path
      go None e = absurd (admissible 11 (reads, read, (by_name 11 (unknown_path e))))
      go (Some to) e = named_path files path to compiled.workspace e

-- ---- what may be renamed stands below written words

abbrev AreTokens : {X : Type 0} → List (Source X) → Type 0
AreTokens [] = Unit {0}
AreTokens (Token t ∷ rest) = AreTokens rest
AreTokens (EntryOf t ∷ rest) = ⊥
AreTokens (Given w ∷ rest) = ⊥

tokens_more : (xs ys : List (Source ℕ)) → AreTokens xs → AreTokens ys → AreTokens (xs ++ ys)
tokens_more [] ys h k = k
tokens_more (Token t ∷ xs) ys h k = tokens_more xs ys h k
tokens_more (EntryOf t ∷ xs) ys h k = absurd h
tokens_more (Given w ∷ xs) ys h k = absurd h

tokens_parts : (xs ys : List (Source ℕ)) → AreTokens (xs ++ ys) → AreTokens xs × AreTokens ys
tokens_parts [] ys h = (tt, h)
tokens_parts (Token t ∷ xs) ys h = tokens_parts xs ys h
tokens_parts (EntryOf t ∷ xs) ys h = absurd h
tokens_parts (Given w ∷ xs) ys h = absurd h

abbrev IsWritten : Placed → Type 0
IsWritten p = may_rename p.kind ≡ true → AreTokens (whole p)

abbrev AreWritten : List Placed → Type 0
AreWritten [] = Unit {0}
AreWritten (p ∷ ps) = IsWritten p × AreWritten ps

written_more : (ps qs : List Placed) → AreWritten ps → AreWritten qs → AreWritten (ps ++ qs)
written_more [] qs h k = k
written_more (p ∷ ps) qs h k = (h.0, written_more ps qs h.1 k)

below : (path : List (Source ℕ)) (t : ℕ) → AreTokens path → AreTokens (path ++ Token t ∷ [])
below path t h = tokens_more path (Token t ∷ []) h tt

written_tokens : (path : List (Source ℕ)) (k : Kind) (ts : List ℕ) → AreTokens path → AreWritten (map (λ i. place path (Token i) k) ts)
written_tokens path k [] h = tt
written_tokens path k (t ∷ ts) h = ((λ e. below path t h), written_tokens path k ts h)

mutual
  written_of : (m : Member) (path : List (Source ℕ)) → AreTokens path → AreWritten (placed path m)
  written_of (field t) path h = ((λ e. below path t h), tt)
  written_of (map_field t) path h = ((λ e. below path t h), ((λ e. absurd (false≢true e)), ((λ e. absurd (false≢true e)), ((λ e. absurd (false≢true e)), tt))))
  written_of (oneof t fs) path h = ((λ e. below path t h), written_tokens path Field fs h)
  written_of (message t ms) path h = ((λ e. below path t h), written_in ms (path ++ Token t ∷ []) (below path t h))
  written_of (enum t vs) path h = ((λ e. below path t h), written_tokens path Value vs h)
  written_of (service t ms) path h = ((λ e. below path t h), written_tokens (path ++ Token t ∷ []) Method ms (below path t h))
  written_of (extend ts) path h = written_tokens path Extension ts h

  written_in : (ms : Members) (path : List (Source ℕ)) → AreTokens path → AreWritten (all_placed path ms)
  written_in no_members path h = tt
  written_in (member m ms) path h = written_more (placed path m) (all_placed path ms) (written_of m path h) (written_in ms path h)

written_prefixes : (path : List (Source ℕ)) (ts : List ℕ) → AreTokens path → AreWritten (prefixes path ts)
written_prefixes path [] h = tt
written_prefixes path (t ∷ ts) h = ((λ e. below path t h), written_prefixes (path ++ Token t ∷ []) ts (below path t h))

written_items : (path : List (Source ℕ)) (is : Items) → AreTokens path → AreWritten (items_placed path is)
written_items path no_items h = tt
written_items path (packaged ts rest) h = written_more (prefixes [] ts) (items_placed path rest) (written_prefixes [] ts tt) (written_items path rest h)
written_items path (item m rest) h = written_more (placed path m) (items_placed path rest) (written_of m path h) (written_items path rest h)

written_package : (ts : List ℕ) → AreTokens (map (λ (t : ℕ). Token t) ts)
written_package [] = tt
written_package (t ∷ ts) = written_package ts

written_at : (ps : List Placed) → AreWritten ps → (p : Placed) → Contains ps p → IsWritten p
written_at [] h p c = absurd (omega (arith, c.1))
written_at (q ∷ ps) h p c = elim (contains_cases q p ps c) [ inl e ↦ subst IsWritten e h.0 | inr d ↦ written_at ps h.1 p d ]

-- ---- the names of one file

abbrev AreKnown : (ℕ → List ℕ) → Items → Type 0
AreKnown own is = (p : Placed) → Contains (file_placed is) p → (t : ℕ) → last_token (whole p) ≡ Some t → IsRun Letter (own t)

module _ (own : ℕ → List ℕ) (is : Items) (known : AreKnown own is) where
  last_worded : (p : Placed) → Contains (file_placed is) p → AreTokens (p.last ∷ []) → is_run (spell own entry_name p.last) ≡ true
  last_worded p c h = go p.last refl h
    where
      go : (s : Source ℕ) → p.last ≡ s → AreTokens (s ∷ []) → is_run (spell own entry_name s) ≡ true
      go (Token t) e k = is_run_again (own t) (known p c t (ap (λ z. last_token (p.above ++ z ∷ [])) e ∙ token_last p.above t))
      go (EntryOf t) e k = absurd k
      go (Given w) e k = absurd k

  -- a declaration stands in another one, or outermost
  whole_worded : (n : ℕ) (p : Placed) → length p.above < n → Contains (file_placed is) p → AreTokens (whole p) → AllPass is_run (name_of own entry_name (whole p))
  whole_worded zero p l c h = absurd (omega (arith, l))
  whole_worded (suc n) p l c h =
      let parts = tokens_parts p.above (p.last ∷ []) h in
      let above : AllPass is_run (name_of own entry_name p.above) = elim (file_stands is p c) [
        | inl none ↦ subst (λ z. AllPass is_run (name_of own entry_name z)) (sym none) (All-nil (λ x. is_run x ≡ true))
        | inr u ↦
            let long = length-append u.0.above (u.0.last ∷ []) in
            let same = ap length u.2 in
            subst (λ z. AllPass is_run (name_of own entry_name z)) (sym u.2) (whole_worded n u.0 (omega (arith, l, long, same)) u.1 (subst AreTokens u.2 parts.0))
      ] in
      subst (λ ws. AllPass is_run ws) (sym (map_append (spell own entry_name) p.above (p.last ∷ [])))
      (All-push (λ x. is_run x ≡ true) (name_of own entry_name p.above) (spell own entry_name p.last) above (last_worded p c parts.1))

-- ---- the names of all files

declared_worded : (text : At → List ℕ) (n : ℕ) (rs : List ReadOf) → ((k : ℕ) → k < length rs → AreKnown (λ t. text (at (n + k) t)) (items_in (read_at rs k).tree))
    → (d : Declared At) → Contains (all_declared n (map names_in rs)) d → may_rename d.kind ≡ true → AllPass is_run (name_of text entry_name d.path)
declared_worded text n [] known d c may = absurd (omega (arith, c.1))
declared_worded text n (r ∷ rs) known d c may = elim (Contains-append_cases (file_declared n (names_in r)) (all_declared (suc n) (map names_in rs)) d c) [
  | inl a ↦
      let z : n + 0 ≡ n = omega arith in
      let p = from_map (λ p. shifted_declared (at n) (declared_of n p)) (file_placed (items_in r.tree)) d a in
      let may_it : may_rename p.0.kind ≡ true = ap (λ (x : Declared At). may_rename x.kind) p.2 ∙ may in
      let tokens = written_at (file_placed (items_in r.tree)) (written_items (map (λ t. Token t) (package_of (items_in r.tree))) (items_in r.tree) (written_package (package_of (items_in r.tree)))) p.0 p.1 may_it in
      subst (λ (x : Declared At). AllPass is_run (name_of text entry_name x.path)) p.2
      (subst (λ ws. AllPass is_run ws) (sym (name_in text n (whole p.0)))
      (whole_worded (λ t. text (at n t)) (items_in r.tree) (λ q cq t e. subst (λ i. IsRun Letter (text (at i t))) z (known 0 (omega arith) q cq t e)) (suc (length p.0.above)) p.0 (omega arith) p.1 tokens))
  | inr b ↦
      declared_worded text (suc n) rs (λ k l q cq t e.
      let z : n + suc k ≡ suc n + k = omega arith in
      subst (λ i. IsRun Letter (text (at i t))) z (known (suc k) (omega (arith, l)) q cq t e)) d b may
]

-- ---- a full name as text

joined_is : (words : List (List ℕ)) → joined words ≡ join_with_byte 46 words
joined_is [] = refl
joined_is (w ∷ []) = refl
joined_is (w ∷ v ∷ rest) = ap (λ (t : List ℕ). w ++ 46 ∷ t) (joined_is (v ∷ rest))

joined_some : (front : List (List ℕ)) (w : List ℕ) → AllPass is_run (front ++ w ∷ []) → joined (front ++ w ∷ []) ≢ []
joined_some [] [] h e = false≢true (All-head (λ x. is_run x ≡ true) [] [] h)
joined_some [] (b ∷ w) h e = cc
joined_some (v ∷ []) w h e = let size = ap length e in omega (arith, size, length-append v (46 ∷ w))
joined_some (v ∷ u ∷ front) w h e = let size = ap length e in omega (arith, size, length-append v (46 ∷ joined (u ∷ (front ++ w ∷ []))))

module _ (files : List FileOf) (reads : List ReadOf) (read : AreRead files reads) where
  named_words : (name : List ℕ) (t : Target) → IsNamed files reads name t → IsDotted name
  named_words name t n =
      let words = name_of (text_of files reads) entry_name t.aim.path in
      let pass : AllPass is_run words = declared_worded (text_of files reads) 0 reads (λ k l q cq i e.
      let m = read.same in
      let z : k ≡ 0 + k = omega arith in
      subst (λ j. IsRun Letter (text_of files reads (at j i))) z (placed_worded (file_at files k).profile (file_at files k).bytes (read_at reads k).tokens (read_at reads k).tree (read.trees k (omega (arith, l, m))) q cq i e))
      t.aim n.within n.kind in
      let front = name_of (text_of files reads) entry_name t.above in
      let last = text_of files reads t.token in
      let parts : words ≡ front ++ last ∷ [] = ap (name_of (text_of files reads) entry_name) n.path ∙ map_append (spell (text_of files reads) entry_name) t.above (Token t.token ∷ []) in
      let some : joined words ≢ [] = subst (λ ws. joined ws ≢ []) (sym parts) (joined_some front last (subst (λ ws. AllPass is_run ws) parts pass)) in
      record {
        some = subst (λ (x : List ℕ). x ≢ []) n.name_is some;
        parted = (words, sym n.name_is ∙ joined_is words, pass);
      }

-- a new name that case 3 does not refuse is a word
new_word : (files : List FileOf) (reads : List ReadOf) (name to : List ℕ) → AreRead files reads → IsAdmissible files (rename name to) → is_run to ≡ true
new_word files reads name to read admissible = go (is_run to) refl
  where
    go : (b : Bool) → is_run to ≡ b → is_run to ≡ true
    go true e = e
    go false e = absurd (admissible 3 (reads, read, (not_an_identifier e)))

notable_by : (w : List FileOf) (reads : List ReadOf) (e : Asked) (entry : List ChangeOf) → AreCompiled w → AreRead w reads → IsAdmissible w e → ChangesOf w reads e entry → IsNotable e
notable_by w reads (rename name to) entry compiled read admissible c = (named_words w reads read name c.0 c.1, new_word w reads name to read admissible)
notable_by w reads (delete_field name) entry compiled read admissible c = named_words w reads read name c.1.t c.1.field.named
notable_by w reads (add_import file path) entry compiled read admissible c = (named_path w file c.0 compiled.workspace c.1, added_path w reads compiled read file path admissible)
notable_by w reads (drop_import file path) entry compiled read admissible c = (named_path w file c.0 compiled.workspace c.2, dropped_path w reads compiled read file path c.0 c.2 admissible)

pub accepted_are_notable : AcceptedAreNotable
accepted_are_notable w e entry after compiled s =
    notable_by w s.step.changes.0 e entry compiled s.step.changes.1 s.step.admissible s.step.changes.2
