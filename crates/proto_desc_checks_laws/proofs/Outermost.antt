-- What cannot stand outermost in a file (for the crates above).
use Rattle.std.proofs.Common.{◌≡◌, true}
use Rattle.proto_tree.proofs.Common.{IsOuter, allows}
use Rattle.proto_tree.specs.declared.context.Context.{Context}
use Rattle.proto_tree.specs.declared.context.Context.TheVariants as context
use Rattle.proto_tree.specs.declared.context.Kind.TheVariants as kind

pub no_oneof : (c : Context) → IsOuter c → allows c kind.OpenOneof ≡ true → ⊥
no_oneof context.Start o h = cc
no_oneof _ o h = cc

pub no_method : (c : Context) → IsOuter c → allows c kind.OpenMethod ≡ true → ⊥
no_method context.Start o h = cc
no_method _ o h = cc

pub no_map_field : (c : Context) → IsOuter c → allows c kind.MapField ≡ true → ⊥
no_map_field context.Start o h = cc
no_map_field _ o h = cc

pub no_value : (c : Context) → IsOuter c → allows c kind.Value ≡ true → ⊥
no_value context.Start o h = cc
no_value _ o h = cc
