-- A default that is one of its enum's values is one after a rename.
use Rattle.std.specs.Prelude.{◌≡◌, ◌≢◌, ◌⊎◌, ℕ, true, List, map}
use Rattle.std.specs.List.{Contains}
use Rattle.proto_base.specs.Texts.{Text}
use Rattle.proto_ast.specs.Options.{is_one_of}

-- The values of an enum by their tokens, of which one is renamed, or
-- none; the default's word goes with it.
abbrev pub DefaultsStayValues : Type 0
DefaultsStayValues = (text now : ℕ → Text) (values : List ℕ) (token : ℕ) (to word after : Text)
    → ((t : ℕ) → Contains values t
    → ((t ≡ token) × (now t ≡ to)) ⊎ ((t ≢ token) × (now t ≡ text t)))
    → ((t : ℕ) → Contains values t → Contains values token → text t ≡ text token → t ≡ token)
    → (Contains values token → word ≡ text token → after ≡ to)
    → ((Contains values token × (word ≡ text token) → ⊥) → after ≡ word)
    → is_one_of (map text values) word ≡ true
    → is_one_of (map now values) after ≡ true
