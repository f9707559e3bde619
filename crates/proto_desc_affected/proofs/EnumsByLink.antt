-- What a link has of a name is kept if it is an enum.
use Rattle.std.proofs.Common.{◌≡◌, ℕ, ◌+◌, ◌<◌, Bool, true, false, if◌then◌else◌, List, [], ◌∷◌, ◌++◌, length, take, get_or, slice_get, flat_map, Option, Some, None, IfSome, option_map, option_and_then, ap, sym, subst, ◌∙◌, refl}
use Rattle.std.proofs.lemmas.List.{flat_map_more, take_more}
use Rattle.proto_base.proofs.Common.{or_nothing, slice_get-get_or}
use Rattle.proto_names_rules.specs.declared.kind.Kind.{Kind}
use Rattle.proto_names.specs.Linking.{LinkOf, declaring_token, name_at, name_text}
use Rattle.proto_ast.specs.Scenes.{EnumOf}
use Rattle.proto_desc_affected.specs.Checked.{enum_as_kept, enum_by_link, is_enum_kind}
use Rattle.proto_desc_affected.specs.Common.{enum_with_name}

as_kept_none : (k : Option Kind) (name : List ℕ) (o : Option EnumOf) → is_enum_kind k ≡ false → enum_as_kept k name o ≡ []
as_kept_none k name None e = refl
as_kept_none k name (Some x) e = ap (λ (b : Bool). if b then enum_with_name name x ∷ [] else []) e

module _ (l : LinkOf) (enum : ℕ → Option EnumOf) (row : ℕ) where
  abbrev kind_at : Option Kind
  kind_at = option_map (λ n. n.kind) (name_at l row)

  -- of what is no enum's nothing is kept
  pub other_by_link : is_enum_kind kind_at ≡ false → enum_by_link l enum row ≡ []
  other_by_link e = as_kept_none kind_at (or_nothing (name_text l row)) (option_and_then enum (declaring_token l row)) e

  -- nor where there is no enum
  pub none_by_link : option_and_then enum (declaring_token l row) ≡ None → enum_by_link l enum row ≡ []
  none_by_link e = ap (enum_as_kept kind_at (or_nothing (name_text l row))) e

  pub one_by_link : (e : EnumOf) → is_enum_kind kind_at ≡ true → option_and_then enum (declaring_token l row) ≡ Some e → enum_by_link l enum row ≡ enum_with_name (or_nothing (name_text l row)) e ∷ []
  one_by_link e kind is =
      ap (enum_as_kept kind_at (or_nothing (name_text l row))) is
      ∙ ap (λ (b : Bool). if b then enum_with_name (or_nothing (name_text l row)) e ∷ [] else []) kind

-- the lists that a function has of these rows, with that of one row more
pub one_more : {X : Type 0} (f : ℕ → List X) (rows : List ℕ) (place : ℕ) (was now : List X) → place < length rows → was ≡ flat_map f (take place rows) → IfSome (slice_get rows place) (λ row. now ≡ was ++ f row) → now ≡ flat_map f (take (place + 1) rows)
one_more f rows place was now within so_far on =
    subst (λ (o : Option ℕ). IfSome o (λ row. now ≡ was ++ f row)) (slice_get-get_or rows place 0 within) on
    ∙ ap (λ xs. xs ++ f (get_or rows place 0)) so_far
    ∙ flat_map_more f [] (take place rows) (get_or rows place 0)
    ∙ ap (flat_map f) (sym (take_more rows place 0 within))
