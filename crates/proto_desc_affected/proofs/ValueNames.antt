-- What a scene says of its references without the names of values.
use Rattle.std.proofs.Common.{◌≡◌, ◌==◌, Option, Some, None, option_map, is_some, option_and_then, refl, ap, ◌∙◌}
use Rattle.proto_tree.specs.declared.tree.Reference.{Reference}
use Rattle.proto_tree.specs.References.{first_of}
use Rattle.proto_ast.proofs.Common.{EnumOf, MeantOf, Scene, enum_meant, meant_by}
use Rattle.proto_desc_affected.specs.Values.{enum_without_names, meant_without_names, without_value_names}
use Rattle.proto_base.proofs.Common.{found_in_map}

module _ (scene : Scene) where
  -- the same reference means the same, without the names
  pub meant_nameless : (r : Reference) → meant_by (without_value_names scene) r ≡ option_map meant_without_names (meant_by scene r)
  meant_nameless r = found_in_map (λ (m : MeantOf). m.token == first_of r.dot r.words) meant_without_names scene.means

  pub enum_nameless : (r : Reference) → enum_meant (without_value_names scene) r ≡ option_map enum_without_names (enum_meant scene r)
  enum_nameless r = ap (option_and_then (λ (m : MeantOf). m.enum)) (meant_nameless r) ∙ through (meant_by scene r)
    where
      through : (o : Option MeantOf) → option_and_then (λ (m : MeantOf). m.enum) (option_map meant_without_names o) ≡ option_map enum_without_names (option_and_then (λ (m : MeantOf). m.enum) o)
      through None = refl
      through (Some m) = refl

  -- so there is an enum where there was
  pub some_nameless : (r : Reference) → is_some (enum_meant (without_value_names scene) r) ≡ is_some (enum_meant scene r)
  some_nameless r = ap is_some (enum_nameless r) ∙ still (enum_meant scene r)
    where
      still : (o : Option EnumOf) → is_some (option_map enum_without_names o) ≡ is_some o
      still None = refl
      still (Some e) = refl
