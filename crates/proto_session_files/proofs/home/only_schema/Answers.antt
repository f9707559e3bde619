use Rattle.std.proofs.Common.{◌≡◌, ◌∙◌, true, ap, sym, rules, string_bytes, inl, inr, true≢false}
use Rattle.std.proofs.lemmas.Str.{IsUtf8-from_is_utf8, IsUtf8-string_bytes, is_utf8-from_IsUtf8}
use Rattle.std.specs.Str.{is_utf8}
use Rattle.proto_base.proofs.Common.{cases_Bool}
use Rattle.proto_session_files.specs.Homes.{only_schema}
use Rattle.proto_session_files.proofs.SchemaPaths.{is_listed, no_text_there, schema_there}
use Rattle.proto_session_files.proofs.home.only_schema.Goals as goal

pub returns-then-is_schema_path : goal.returns-then-is_schema_path
returns-then-is_schema_path c =
    let p = string_bytes c.in-Ok.path in
    let same : p ≡ c.args.path.items = search rules in
    let listed : is_listed p ≡ true = ap is_listed (sym c.as_str.ensures.value) ∙ sym c.is_schema_path.ensures ∙ c.if-is_schema_path.true in
    schema_there p (is_utf8-from_IsUtf8 p (IsUtf8-string_bytes c.in-Ok.path)) listed ∙ ap only_schema same

pub returns-in-Err : goal.returns-in-Err
returns-in-Err c = elim (cases_Bool (is_utf8 c.args.path.items)) [
  | inl yes_ ↦ absurd (true≢false (sym (rw c.in-Err.is at (c.from_utf8.ensures.succeeds (IsUtf8-from_is_utf8 c.args.path.items yes_)))))
  | inr no_ ↦ no_text_there c.args.path.items no_
]
