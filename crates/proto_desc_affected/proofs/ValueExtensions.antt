-- The extensions of a file are the same without the names of values: their numbers ask for no enum.
use Rattle.std.proofs.Common.{Some, None, refl, ap}
use Rattle.proto_ast.specs.Scenes.{Scene}
use Rattle.proto_desc_extensions.specs.Extensions.{extensions_of}
use Rattle.proto_desc_affected.specs.Values.{ValueNamesMatterToNoExtension}

pub value_names_matter_to_no_extension : ValueNamesMatterToNoExtension
value_names_matter_to_no_extension a b same None within = refl
value_names_matter_to_no_extension a b same (Some name) within = ap (λ (s : Scene). extensions_of s (Some name) within) same
