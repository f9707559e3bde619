-- The imports of a file with their paths.
use Rattle.std.specs.Prelude.{◌≡◌, ℕ, List, map, Some, string_bytes}
use Rattle.proto_base.specs.Texts.{Text}
use Rattle.proto_text.specs.Values.{value_of}
use Rattle.proto_names_imports.specs.declared.import.WrittenImport.{WrittenImport}
use Rattle.proto_names_outline.specs.declared.wanted.Wanted.{Wanted}

-- each stands at the token of its path, and its path is the value of that string
pub record AreWritten (text : ℕ → Text) (wanted : List Wanted) (ws : List WrittenImport)
    : Type 0 where
  pub tokens : map (λ i. i.token) ws ≡ map (λ w. w.path) wanted
  pub publics : map (λ i. i.is_public) ws ≡ map (λ w. w.is_public) wanted
  pub paths : map (λ i. Some (string_bytes i.path)) ws ≡ map (λ w. value_of (text w.path)) wanted
