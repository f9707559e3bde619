-- The scene of a file that an edit of another one leaves (for the crates above).
use Rattle.std.proofs.Common.{◌≡◌, ℕ, zero, suc, ◌+◌, Bool, List, [], ◌∷◌, map, Option, Some, None, refl, sym, ◌∙◌, ap, ap₂, subst, arith, slice_get, Contains}
use Rattle.proto_base.proofs.Common.{Contains-append_left, Contains-append_right, contains_map}
use Rattle.proto_case.specs.Camel.{entry_name}
use Rattle.proto_text.proofs.Common.{word_at, Lexeme}
use Rattle.proto_tree.specs.Tree.{Tree}
use Rattle.proto_base.specs.declared.profile.Profile.{Profile}
use Rattle.proto_files.proofs.Common.{ReadOf, read_at, FileOf, file_at}
use Rattle.proto_names_rules.proofs.Common.{At, all_used, at, file_used, used_in, joined, Reference, meaning, EntryOf, Given, Source, Token, Used, name_of, reference_of, shifted_source, spell, map_agree, map_map}
use Rattle.proto_names_outline.specs.FromTree.{file_names}
use Rattle.proto_names_imports.specs.Links.{link_skeleton, names_in, names_of_files, text_of, used_named, uses_of}
use Rattle.proto_ast.specs.Scenes.{EnumOf, MeantOf, Scene, is_proto3, string_of}
use Rattle.proto_edit_statement_described.proofs.Common.{enum_named, lexemes_of, meaning_of, meant_as, means_of, scene_at}
use Rattle.proto_edit_statement_laws.specs.Kept.{MeanTheSame}
use Rattle.proto_edit_statement_described.specs.OtherScenes.{IsLeft, OtherScenesReadTheSame}

-- ---- what a file refers to is a reference of all

use_there : (n : ℕ) (rs : List ReadOf) (k : ℕ) (u : Used ℕ) → Contains (uses_of rs k) u → Contains (all_used n (map names_in rs)) (used_in (n + k) u)
use_there n [] k u c = absurd (omega (arith, c.1))
use_there n (r ∷ rs) zero u c =
    let e : n ≡ n + 0 = omega arith in
    subst (λ m. Contains (all_used n (map names_in (r ∷ rs))) (used_in m u)) e
    (Contains-append_left (file_used n (names_in r)) (all_used (suc n) (map names_in rs)) (used_in n u) (contains_map (used_in n) (file_names r.tree).used u c))
use_there n (r ∷ rs) (suc k) u c =
    let e : suc n + k ≡ n + suc k = omega arith in
    subst (λ m. Contains (all_used n (map names_in (r ∷ rs))) (used_in m u)) e
    (Contains-append_right (file_used n (names_in r)) (all_used (suc n) (map names_in rs)) (used_in (suc n + k) u) (use_there (suc n) rs k u c))

pub reference_there : (files : List FileOf) (reads : List ReadOf) (k : ℕ) (u : Used ℕ) → Contains (uses_of reads k) u → Contains (names_of_files files reads).references (used_named (text_of files reads) k u)
reference_there files reads k u c =
    let e : 0 + k ≡ k = omega arith in
    contains_map (reference_of (text_of files reads) entry_name) (link_skeleton files reads).used (used_in k u)
    (subst (λ m. Contains (link_skeleton files reads).used (used_in m u)) e (use_there 0 reads k u c))

-- ---- the same words

source_in : (k : ℕ) (was now : At → List ℕ) → ((i : ℕ) → now (at k i) ≡ was (at k i)) → (s : Source ℕ) → spell now entry_name (shifted_source (at k) s) ≡ spell was entry_name (shifted_source (at k) s)
source_in k was now e (Token i) = e i
source_in k was now e (EntryOf i) = ap entry_name (e i)
source_in k was now e (Given w) = refl

abbrev referring : ℕ → Used ℕ → List (List ℕ) → List (List ℕ) → Reference
referring k u scope words = record { file = k; scope = scope; is_absolute = u.is_absolute; wants = u.wants; words = words }

pub use_stays : (k : ℕ) (was now : At → List ℕ) → ((i : ℕ) → now (at k i) ≡ was (at k i)) → (u : Used ℕ) → used_named now k u ≡ used_named was k u
use_stays k was now e u =
    let scope : name_of now entry_name (map (shifted_source (at k)) u.scope) ≡ name_of was entry_name (map (shifted_source (at k)) u.scope) =
    map_map (shifted_source (at k)) (spell now entry_name) u.scope
    ∙ map_agree (λ s. spell now entry_name (shifted_source (at k) s)) (λ s. spell was entry_name (shifted_source (at k) s)) u.scope (λ s c. source_in k was now e s)
    ∙ sym (map_map (shifted_source (at k)) (spell was entry_name) u.scope) in
    let words : map now (map (at k) u.tokens) ≡ map was (map (at k) u.tokens) =
    map_map (at k) now u.tokens ∙ map_agree (λ i. now (at k i)) (λ i. was (at k i)) u.tokens (λ i c. e i) ∙ sym (map_map (at k) was u.tokens) in
    ap₂ (referring k u) scope words

-- ---- the scene

abbrev scene : Profile → List Lexeme → Bool → List MeantOf → Scene
scene profile lexemes proto3 means = record { lexemes = lexemes; cap = None; profile = profile; is_proto3 = proto3; means = means }

module _ (files : List FileOf) (reads : List ReadOf) (after : List FileOf) (seen : List ReadOf) where
  -- a reference that means the same name, with the same enum
  pub meant_stays : (t : ℕ) (o p : Option (List (List ℕ))) → p ≡ o → ((m : List (List ℕ)) → o ≡ Some m → enum_named after seen m ≡ enum_named files reads m) → meant_as after seen t p ≡ meant_as files reads t o
  meant_stays t o p e same = ap (meant_as after seen t) e ∙ by o same
    where
      by : (o : Option (List (List ℕ))) → ((m : List (List ℕ)) → o ≡ Some m → enum_named after seen m ≡ enum_named files reads m) → meant_as after seen t o ≡ meant_as files reads t o
      by None same = refl
      by (Some m) same = ap (λ (x : Option EnumOf). let v : MeantOf = record { token = t; name = joined m; enum = x } in v) (same m refl)

  module _ (k : ℕ) (means : MeanTheSame files reads after seen) (h : IsLeft files reads after seen k) where
    pub meaning_stays : (u : Used ℕ) → Contains (uses_of reads k) u → meaning_of after seen k u ≡ meaning_of files reads k u
    meaning_stays u c =
        ap (meaning (names_of_files after seen)) (use_stays k (text_of files reads) (text_of after seen) (λ i. ap (λ (ls : List Lexeme). word_at ls i) h.lexemes) u)
        ∙ means (used_named (text_of files reads) k u) (reference_there files reads k u c)

    version_stays : is_proto3 (λ i. string_of (slice_get (lexemes_of after seen k) i)) (read_at seen k).tree ≡ is_proto3 (λ i. string_of (slice_get (lexemes_of files reads k) i)) (read_at reads k).tree
    version_stays = ap₂ (λ (ls : List Lexeme) (t : Tree). is_proto3 (λ i. string_of (slice_get ls i)) t) h.lexemes h.tree

    means_stay : means_of after seen k ≡ means_of files reads k
    means_stay =
        ap (λ (t : Tree). map (λ (u : Used ℕ). meant_as after seen u.first (meaning_of after seen k u)) (file_names t).used) h.tree
        ∙ map_agree (λ (u : Used ℕ). meant_as after seen u.first (meaning_of after seen k u)) (λ (u : Used ℕ). meant_as files reads u.first (meaning_of files reads k u)) (uses_of reads k)
        (λ u c. meant_stays u.first (meaning_of files reads k u) (meaning_of after seen k u) (meaning_stays u c) (h.enums u c))

    scene_stays : scene_at after seen k ≡ scene_at files reads k
    scene_stays =
        ap₂ (λ (p : Profile) (ls : List Lexeme). scene p ls (is_proto3 (λ i. string_of (slice_get (lexemes_of after seen k) i)) (read_at seen k).tree) (means_of after seen k)) h.profile h.lexemes
        ∙ ap₂ (λ (b : Bool) (ms : List MeantOf). scene (file_at files k).profile (lexemes_of files reads k) b ms) version_stays means_stay

pub other_scenes_stay : OtherScenesReadTheSame
other_scenes_stay files reads after seen k means h = scene_stays files reads after seen k means h
