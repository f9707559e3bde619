-- What may stand behind `import`.
use Rattle.std.specs.Prelude.{Bool, true, false, Option, Some, None}
use Rattle.proto_tree.specs.declared.tree.Modifier.{Modifier}
use Rattle.proto_tree.specs.declared.tree.Modifier.TheVariants as modifier

-- an import is public
abbrev pub is_public : Option Modifier → Bool
is_public None = false
is_public (Some (modifier.Public i)) = true
is_public (Some (modifier.Weak i)) = false

-- an import is weak
abbrev pub is_weak : Option Modifier → Bool
is_weak None = false
is_weak (Some (modifier.Public i)) = false
is_weak (Some (modifier.Weak i)) = true
