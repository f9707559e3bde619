-- The texts of tokens, and what they spell, where the tokens of one file are moved.
use Rattle.std.proofs.Common.{◌≡◌, ◌≢◌, ℕ, ◌==◌, if◌then◌else◌, List, map, refl, sym, ◌∙◌, ap, subst, inl, inr, eq-eqb, ne_eqb}
use Rattle.std.proofs.lemmas.Bool.{cases_eq}
use Rattle.proto_case.specs.Camel.{entry_name}
use Rattle.proto_text.proofs.Common.{word_at, Lexeme}
use Rattle.proto_tree.specs.Moved.{Move}
use Rattle.proto_files.proofs.Common.{ReadOf, FileOf}
use Rattle.proto_names_rules.proofs.Common.{At, at, Reference, EntryOf, Given, Source, Token, Used, name_of, shifted_source, shifted_used, spell, map_agree, map_map}
use Rattle.proto_names_imports.specs.Links.{text_of, used_named}
use Rattle.proto_edit_statement_described.specs.SceneOf.{lexemes_of}
use Rattle.proto_edit_statement_described.specs.MovedFiles.{AreMoved}
use Rattle.proto_edit_statement_described.proofs.MovedScenes.{text_in, word_by}

-- ---- tokens among many files

-- moved in one file alone
abbrev pub moved_at : ℕ → Move → At → At
moved_at place g a = at a.file (if a.file == place then g a.token else a.token)

module _ (place : ℕ) (g : Move) where
  pub moved_here : (i : ℕ) → moved_at place g (at place i) ≡ at place (g i)
  moved_here i = ap (λ b. at place (if b then g i else i)) (eq-eqb place place refl)

  pub moved_there : (k i : ℕ) → k ≢ place → moved_at place g (at k i) ≡ at k i
  moved_there k i n = ap (λ b. at k (if b then g i else i)) (ne_eqb k place n)

  -- what is read at each token, if it is at those of the file and at those of each other one
  pub each_moved : {X : Type 0} (was now : At → X) → ((i : ℕ) → now (at place (g i)) ≡ was (at place i)) → ((k i : ℕ) → k ≢ place → now (at k i) ≡ was (at k i)) → (a : At) → now (moved_at place g a) ≡ was a
  each_moved was now here there a = elim (cases_eq a.file place) [
    | inl e ↦ ap (λ b. now (at a.file (if b then g a.token else a.token))) (eq-eqb a.file place e) ∙ subst (λ k. now (at k (g a.token)) ≡ was (at k a.token)) (sym e) (here a.token)
    | inr n ↦ ap now (moved_there a.file a.token n) ∙ there a.file a.token n
  ]

  source_here : (s : Source ℕ) → shifted_source (at place) (shifted_source g s) ≡ shifted_source (moved_at place g) (shifted_source (at place) s)
  source_here (Token i) = ap (λ (a : At). Token a) (sym (moved_here i))
  source_here (EntryOf i) = ap (λ (a : At). EntryOf a) (sym (moved_here i))
  source_here (Given w) = refl

  source_there : (k : ℕ) → k ≢ place → (s : Source ℕ) → shifted_source (moved_at place g) (shifted_source (at k) s) ≡ shifted_source (at k) s
  source_there k n (Token i) = ap (λ (a : At). Token a) (moved_there k i n)
  source_there k n (EntryOf i) = ap (λ (a : At). EntryOf a) (moved_there k i n)
  source_there k n (Given w) = refl

  pub path_here : (path : List (Source ℕ)) → map (shifted_source (at place)) (map (shifted_source g) path) ≡ map (shifted_source (moved_at place g)) (map (shifted_source (at place)) path)
  path_here path =
      map_map (shifted_source g) (shifted_source (at place)) path
      ∙ map_agree (λ s. shifted_source (at place) (shifted_source g s)) (λ s. shifted_source (moved_at place g) (shifted_source (at place) s)) path (λ s c. source_here s)
      ∙ sym (map_map (shifted_source (at place)) (shifted_source (moved_at place g)) path)

  pub path_there : (k : ℕ) → k ≢ place → (path : List (Source ℕ)) → map (shifted_source (moved_at place g)) (map (shifted_source (at k)) path) ≡ map (shifted_source (at k)) path
  path_there k n path =
      map_map (shifted_source (at k)) (shifted_source (moved_at place g)) path
      ∙ map_agree (λ s. shifted_source (moved_at place g) (shifted_source (at k) s)) (shifted_source (at k)) path (λ s c. source_there k n s)

-- ---- their texts

module _ (files : List FileOf) (reads : List ReadOf) (after : List FileOf) (seen : List ReadOf) (place : ℕ) (g : Move) (h : AreMoved files reads after seen place g) where
  pub own_text : (i : ℕ) → text_of after seen (at place (g i)) ≡ text_of files reads (at place i)
  own_text i = word_by (lexemes_of after seen place) (g i) ∙ ap text_in (h.own i) ∙ sym (word_by (lexemes_of files reads place) i)

  pub other_text : (k i : ℕ) → k ≢ place → text_of after seen (at k i) ≡ text_of files reads (at k i)
  other_text k i n = ap (λ (ls : List Lexeme). word_at ls i) (h.others k n)

  text_moved : (a : At) → text_of after seen (moved_at place g a) ≡ text_of files reads a
  text_moved = each_moved place g (text_of files reads) (text_of after seen) own_text other_text

  word_moved : (s : Source At) → spell (text_of after seen) entry_name (shifted_source (moved_at place g) s) ≡ spell (text_of files reads) entry_name s
  word_moved (Token a) = text_moved a
  word_moved (EntryOf a) = ap entry_name (text_moved a)
  word_moved (Given w) = refl

  pub name_moved : (path : List (Source At)) → name_of (text_of after seen) entry_name (map (shifted_source (moved_at place g)) path) ≡ name_of (text_of files reads) entry_name path
  name_moved path =
      map_map (shifted_source (moved_at place g)) (spell (text_of after seen) entry_name) path
      ∙ map_agree (λ s. spell (text_of after seen) entry_name (shifted_source (moved_at place g) s)) (spell (text_of files reads) entry_name) path (λ s c. word_moved s)

  -- ---- references

  abbrev referring : ℕ → Used ℕ → List (List ℕ) → List (List ℕ) → Reference
  referring k u scope words = record { file = k; scope = scope; is_absolute = u.is_absolute; wants = u.wants; words = words }

  pub use_here : (u : Used ℕ) → used_named (text_of after seen) place (shifted_used g u) ≡ used_named (text_of files reads) place u
  use_here u =
      let scope = ap (name_of (text_of after seen) entry_name) (path_here place g u.scope) ∙ name_moved (map (shifted_source (at place)) u.scope) in
      let words : map (text_of after seen) (map (at place) (map g u.tokens)) ≡ map (text_of files reads) (map (at place) u.tokens) =
      ap (map (text_of after seen)) (map_map g (at place) u.tokens) ∙ map_map (λ i. at place (g i)) (text_of after seen) u.tokens
      ∙ map_agree (λ i. text_of after seen (at place (g i))) (λ i. text_of files reads (at place i)) u.tokens (λ i c. own_text i) ∙ sym (map_map (at place) (text_of files reads) u.tokens) in
      ap (λ (n : List (List ℕ)). referring place u n (map (text_of after seen) (map (at place) (map g u.tokens)))) scope
      ∙ ap (referring place u (name_of (text_of files reads) entry_name (map (shifted_source (at place)) u.scope))) words
