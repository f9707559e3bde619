use Rattle.std.proofs.Common.{Contains, string_bytes, sym, subst, ◌∙◌}
use Rattle.proto_base.proofs.Common.{contains_map, word_from_same}
use Rattle.proto_desc_affected.specs.Common.{enum_kept, enum_summary_of, file_summary_of}
use Rattle.proto_desc_affected.proofs.StillEnums.{kept_by_name}
use Rattle.proto_desc_affected.proofs.still_enums.compare_kept.Goals as goal

pub returns-then-eq : goal.returns-then-eq
returns-then-eq c =
    let kept = c.args.kept.now in
    let now = c.args.current.now in
    let one = c.one-item.result in
    kept_by_name (file_summary_of kept) (string_bytes one.name) (enum_kept one) (enum_summary_of now)
    (contains_map enum_summary_of kept.enums.items one (subst (λ xs. Contains xs one) c.deref-one-items.ensures.value (c.loop-one.one-index, c.loop-one-test.true, sym c.one-item.is)))
    (word_from_same (string_bytes one.name) (string_bytes now.name) (sym c.eq.ensures ∙ c.if-eq.true))
    c.compare.result c.compare.ensures
