-- What a link of files answers of a reference, and of the declaration that it means (for the crates above).
use Rattle.std.proofs.Common.{◌≡◌, ◌≢◌, ℕ, List, get_or, Some, sym, ◌∙◌, ap, Contains}
use Rattle.proto_base.proofs.Common.{same_Some, contains_map}
use Rattle.proto_case.specs.Camel.{entry_name}
use Rattle.proto_names_rules.proofs.Common.{place_of, At, at, joined, Declared, Skeleton, Used, name_of, symbol_of}
use Rattle.proto_names.specs.Common.{IsLinkBy, LinkOf, NameOf, meant_at, name_at}
use Rattle.proto_names_rules.specs.declared.kind.Kind.TheVariants.{Package}

-- the link's answer for a reference: the row of a name with this text
pub record NameMeant (l : LinkOf) (file : ℕ) (u : Used ℕ) (name : List (List ℕ)) : Type 0 where
  pub row : ℕ
  pub has : NameOf
  pub meant : meant_at l file u.first ≡ Some row
  pub there : name_at l row ≡ Some has
  pub text : has.text ≡ joined name

-- the name of a declaration has its kind, and stands where the declaration does
pub name_declared_as : (text : At → List ℕ) (k : Skeleton At) (l : LinkOf) → IsLinkBy text k l → (d : Declared At) → Contains k.declared d → d.kind ≢ Package → (row : ℕ) (n : NameOf) → name_at l row ≡ Some n → n.text ≡ joined (name_of text entry_name d.path)
    → (n.kind ≡ d.kind) × (at (get_or n.files 0 0) n.token ≡ place_of d)
name_declared_as text k l link d c other row n h e =
    let x = link.names.there (symbol_of text entry_name d) (contains_map (symbol_of text entry_name) k.declared d c) in
    let here : row ≡ x.0 = link.names.once row x.0 n x.1 h x.2 (e ∙ sym x.3) in
    let same : n ≡ x.1 = same_Some n x.1 (sym h ∙ ap (name_at l) here ∙ x.2) in
    (ap (λ (y : NameOf). y.kind) same ∙ x.4, link.places d c other row n h e)
