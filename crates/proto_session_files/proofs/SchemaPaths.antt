-- A path as that of a schema.
use Rattle.std.proofs.Common.{◌≡◌, ◌&&◌, Bool, true, false, nat_eq, codes, Some, None, refl, sym, ◌∙◌}
use Rattle.std.specs.List.{ends_with, list_all}
use Rattle.std.specs.Str.{is_utf8}
use Rattle.proto_base.proofs.Common.{cond-false, cond-true}
use Rattle.proto_base.specs.Texts.{Path}
use Rattle.proto_session_files.specs.Homes.{is_plain_part, is_schema_path, only_schema, parts}

-- what is tested of a path that is a text
abbrev pub is_listed : Path → Bool
is_listed p = ends_with nat_eq p (codes ".proto") && list_all is_plain_part (parts p)

joined : (a b d : Bool) → a ≡ true → (a && b && d) ≡ (b && d)
joined true b d u = refl
joined false b d u = absurd (differ u)
  where
    differ : false ≡ true → ⊥
    differ e = cc

none_joined : (a b d : Bool) → a ≡ false → (a && b && d) ≡ false
none_joined false b d u = refl
none_joined true b d u = absurd (differ u)
  where
    differ : true ≡ false → ⊥
    differ e = cc

abbrev ends : Path → Bool
ends p = ends_with nat_eq p (codes ".proto")

pub schema_there : (p : Path) → is_utf8 p ≡ true → is_listed p ≡ true → Some p ≡ only_schema p
schema_there p u e = sym (cond-true (is_schema_path p) (Some p) None (joined (is_utf8 p) (ends p) (list_all is_plain_part (parts p)) u ∙ e))

pub no_schema_there : (p : Path) → is_utf8 p ≡ true → is_listed p ≡ false → None ≡ only_schema p
no_schema_there p u e = sym (cond-false (is_schema_path p) (Some p) None (joined (is_utf8 p) (ends p) (list_all is_plain_part (parts p)) u ∙ e))

pub no_text_there : (p : Path) → is_utf8 p ≡ false → None ≡ only_schema p
no_text_there p u = sym (cond-false (is_schema_path p) (Some p) None (none_joined (is_utf8 p) (ends p) (list_all is_plain_part (parts p)) u))
