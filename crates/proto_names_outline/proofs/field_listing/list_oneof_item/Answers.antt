use Rattle.std.proofs.Common.{◌++◌, refl, sym, append-nil}
use Rattle.std.proofs.lemmas.Result.{on_ok_weaker}
use Rattle.proto_names_outline.specs.Common.{settings_uses, type_uses}
use Rattle.proto_names_outline.proofs.Growing.{adds_as}
use Rattle.proto_names_outline.proofs.field_listing.list_oneof_item.Goals as goal

pub returns-in-Field : goal.returns-in-Field
returns-in-Field c =
    rw c.in-Field.is (on_ok_weaker c.list_field.result (λ field. adds_as field (λ path. refl) (λ path. sym (append-nil (type_uses path c.in-Field.field.kind ++ settings_uses path c.in-Field.field.settings)))) c.list_field.ensures)
