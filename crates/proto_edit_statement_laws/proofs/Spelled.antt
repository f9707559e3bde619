-- What the files of a workspace declare, refer to and import, file after file, by the texts of their tokens (for the crates above).
use Rattle.std.proofs.Common.{◌≡◌, ℕ, suc, List, [], ◌∷◌, ◌++◌, map, refl, sym, ◌∙◌, ap, ap₂}
use Rattle.proto_base.proofs.Common.{cons_option, or_nothing}
use Rattle.proto_case.specs.Camel.{entry_name}
use Rattle.proto_text.specs.Values.{value_of}
use Rattle.proto_tree.specs.Moved.{Move}
use Rattle.proto_files.specs.FilesRead.{ReadOf}
use Rattle.proto_names_rules.proofs.Common.{AskedImport, import_from_asked, imports_of, At, all_declared, all_used, at, declared_of, file_declared, file_used, used_in, Import, Reference, Symbol, EntryOf, Given, Source, Token, Used, name_of, reference_of, shifted_declared, shifted_source, shifted_used, spell, symbol_of, Placed, map_agree, map_append, map_map}
use Rattle.proto_names_outline.proofs.Common.{Wanted, file_names, imports_in, move_wanted}
use Rattle.proto_names_imports.specs.Links.{all_wanted, asked_as, names_in}
use Rattle.proto_edit_statement_laws.specs.Trees.{move_placed, placed_in}
use Rattle.proto_edit_statement_laws.proofs.Walks.{walk}

-- two functions that answer the same are one
pub one_function : {A B : Type 0} (f g : A → B) → ((x : A) → f x ≡ g x) → f ≡ g
one_function f g h = λ i x. h x i

-- ---- by the texts of one file

abbrev pub symbol_in : ℕ → (ℕ → List ℕ) → Placed → Symbol
symbol_in file words p = record { name = name_of words entry_name (p.above ++ p.last ∷ []); kind = p.kind; file = file }

abbrev pub reference_in : ℕ → (ℕ → List ℕ) → Used ℕ → Reference
reference_in file words u = record { file = file; scope = name_of words entry_name u.scope; is_absolute = u.is_absolute; wants = u.wants; words = map words u.tokens }

-- wherever in its file it stands
abbrev pub unplaced : AskedImport → AskedImport
unplaced a = record { place = at a.place.file 0; path = a.path; is_public = a.is_public }

abbrev pub wanted_in : ℕ → (ℕ → List ℕ) → Wanted → AskedImport
wanted_in file words w = record { place = at file 0; path = or_nothing (value_of (words w.path)); is_public = w.is_public }

-- other tokens with the same texts
pub name_by : {X Y : Type 0} (text : Y → List ℕ) (f : X → Y) (path : List (Source X)) → name_of text entry_name (map (shifted_source f) path) ≡ name_of (λ i. text (f i)) entry_name path
name_by {X} text f path = map_map (shifted_source f) (spell text entry_name) path ∙ map_agree (λ s. spell text entry_name (shifted_source f s)) (spell (λ i. text (f i)) entry_name) path (λ s c. each s)
  where
    each : (s : Source X) → spell text entry_name (shifted_source f s) ≡ spell (λ i. text (f i)) entry_name s
    each (Token i) = refl
    each (EntryOf i) = refl
    each (Given w) = refl

module _ (file : ℕ) (words : ℕ → List ℕ) (g : Move) where
  pub symbols_moved : (ps : List Placed) → map (symbol_in file words) (map (move_placed g) ps) ≡ map (symbol_in file (λ i. words (g i))) ps
  symbols_moved ps =
      map_map (move_placed g) (symbol_in file words) ps
      ∙ map_agree (λ p. symbol_in file words (move_placed g p)) (symbol_in file (λ i. words (g i))) ps (λ p c. ap (λ (n : List (List ℕ)). let s : Symbol = record { name = n; kind = p.kind; file = file } in s)
      (ap (name_of words entry_name) (sym (map_append (shifted_source g) p.above (p.last ∷ []))) ∙ name_by words g (p.above ++ p.last ∷ [])))

  pub references_moved : (us : List (Used ℕ)) → map (reference_in file words) (map (shifted_used g) us) ≡ map (reference_in file (λ i. words (g i))) us
  references_moved us =
      map_map (shifted_used g) (reference_in file words) us
      ∙ map_agree (λ u. reference_in file words (shifted_used g u)) (reference_in file (λ i. words (g i))) us (λ u c. ap₂ (λ (n ws : List (List ℕ)). let r : Reference = record { file = file; scope = n; is_absolute = u.is_absolute; wants = u.wants; words = ws } in r)
      (name_by words g u.scope) (map_map g words u.tokens))

  pub wanted_moved : (ws : List Wanted) → map (wanted_in file words) (map (move_wanted g) ws) ≡ map (wanted_in file (λ i. words (g i))) ws
  wanted_moved ws = map_map (move_wanted g) (wanted_in file words) ws

-- ---- of all files

module _ (text : At → List ℕ) where
  abbrev pub symbols_at : ℕ → ReadOf → List Symbol
  symbols_at k r = map (symbol_in k (λ i. text (at k i))) (placed_in r.tree)

  abbrev pub references_at : ℕ → ReadOf → List Reference
  references_at k r = map (reference_in k (λ i. text (at k i))) (file_names r.tree).used

  abbrev pub wanted_at : ℕ → ReadOf → List AskedImport
  wanted_at k r = map (wanted_in k (λ i. text (at k i))) (imports_in r.tree)

  symbols_here : (k : ℕ) (r : ReadOf) → map (symbol_of text entry_name) (file_declared k (names_in r)) ≡ symbols_at k r
  symbols_here k r =
      map_map (λ (p : Placed). shifted_declared (at k) (declared_of k p)) (symbol_of text entry_name) (placed_in r.tree)
      ∙ map_agree (λ (p : Placed). symbol_of text entry_name (shifted_declared (at k) (declared_of k p))) (symbol_in k (λ i. text (at k i))) (placed_in r.tree) (λ p c. ap (λ (n : List (List ℕ)). let s : Symbol = record { name = n; kind = p.kind; file = k } in s) (name_by text (at k) (p.above ++ p.last ∷ [])))

  references_here : (k : ℕ) (r : ReadOf) → map (reference_of text entry_name) (file_used k (names_in r)) ≡ references_at k r
  references_here k r =
      map_map (used_in k) (reference_of text entry_name) (file_names r.tree).used
      ∙ map_agree (λ (u : Used ℕ). reference_of text entry_name (used_in k u)) (reference_in k (λ i. text (at k i))) (file_names r.tree).used (λ u c. ap₂ (λ (n ws : List (List ℕ)). let x : Reference = record { file = k; scope = n; is_absolute = u.is_absolute; wants = u.wants; words = ws } in x)
      (name_by text (at k) u.scope) (map_map (at k) text u.tokens))

  pub symbols_walk : (n : ℕ) (rs : List ReadOf) → map (symbol_of text entry_name) (all_declared n (map names_in rs)) ≡ walk symbols_at n rs
  symbols_walk n [] = refl
  symbols_walk n (r ∷ rs) = map_append (symbol_of text entry_name) (file_declared n (names_in r)) (all_declared (suc n) (map names_in rs)) ∙ ap₂ (λ (y z : List Symbol). y ++ z) (symbols_here n r) (symbols_walk (suc n) rs)

  pub references_walk : (n : ℕ) (rs : List ReadOf) → map (reference_of text entry_name) (all_used n (map names_in rs)) ≡ walk references_at n rs
  references_walk n [] = refl
  references_walk n (r ∷ rs) = map_append (reference_of text entry_name) (file_used n (names_in r)) (all_used (suc n) (map names_in rs)) ∙ ap₂ (λ (y z : List Reference). y ++ z) (references_here n r) (references_walk (suc n) rs)

  pub wanted_walk : (n : ℕ) (rs : List ReadOf) → map unplaced (all_wanted text n rs) ≡ walk wanted_at n rs
  wanted_walk n [] = refl
  wanted_walk n (r ∷ rs) = map_append unplaced (map (asked_as text n) (imports_in r.tree)) (all_wanted text (suc n) rs) ∙ ap₂ (λ (y z : List AskedImport). y ++ z) (map_map (asked_as text n) unplaced (imports_in r.tree)) (wanted_walk (suc n) rs)

-- imports do not tell where in their file they stand
pub imports_unplaced : (paths : List (List ℕ)) (asked : List AskedImport) → imports_of paths (map unplaced asked) ≡ imports_of paths asked
imports_unplaced paths [] = refl
imports_unplaced paths (a ∷ asked) = ap (λ (z : List Import). cons_option (import_from_asked paths a) z) (imports_unplaced paths asked)
