-- Where tokens come in or go, names and references are spelled as before (for the crates above).
use Rattle.std.proofs.Common.{◌≡◌, ℕ, List, refl, ◌∙◌, ap, map}
use Rattle.proto_names_rules.specs.Common.{Import, with_imports, Source, Token, EntryOf, Given, Skeleton, spell, name_of, symbol_of, reference_of, workspace_of, shifted_source, shifted_declared, shifted_used, shifted}
use Rattle.proto_names_rules.proofs.Edited.{map_agree, map_map}

module _ {X Y : Type 0} (f : X → Y) (text : X → List ℕ) (text_after : Y → List ℕ) (entry : List ℕ → List ℕ) (same : (i : X) → text_after (f i) ≡ text i) where
  spell_shifted : (s : Source X) → spell text_after entry (shifted_source f s) ≡ spell text entry s
  spell_shifted (Token i) = same i
  spell_shifted (EntryOf i) = ap entry (same i)
  spell_shifted (Given w) = refl

  name_shifted : (path : List (Source X)) → name_of text_after entry (map (shifted_source f) path) ≡ name_of text entry path
  name_shifted path = map_map (shifted_source f) (spell text_after entry) path ∙ map_agree (λ s. spell text_after entry (shifted_source f s)) (spell text entry) path (λ s c. spell_shifted s)

  words_shifted : (tokens : List X) → map text_after (map f tokens) ≡ map text tokens
  words_shifted tokens = map_map f text_after tokens ∙ map_agree (λ i. text_after (f i)) text tokens (λ i c. same i)

  pub workspace_shifted : (imports : List Import) (k : Skeleton X) → workspace_of text_after entry (shifted f imports k) ≡ with_imports (workspace_of text entry k) imports
  workspace_shifted imports k =
      let symbols : map (symbol_of text_after entry) (map (shifted_declared f) k.declared) ≡ map (symbol_of text entry) k.declared =
      map_map (shifted_declared f) (symbol_of text_after entry) k.declared
      ∙ map_agree (λ d. symbol_of text_after entry (shifted_declared f d)) (symbol_of text entry) k.declared
      (λ d c. λ i. record { name = name_shifted d.path i; kind = d.kind; file = d.file }) in
      let references : map (reference_of text_after entry) (map (shifted_used f) k.used) ≡ map (reference_of text entry) k.used =
      map_map (shifted_used f) (reference_of text_after entry) k.used
      ∙ map_agree (λ u. reference_of text_after entry (shifted_used f u)) (reference_of text entry) k.used
      (λ u c. λ i. record { file = u.file; scope = name_shifted u.scope i; is_absolute = u.is_absolute; wants = u.wants; words = words_shifted u.tokens i }) in
      λ i. record { files = k.files; symbols = symbols i; imports = imports; references = references i }
