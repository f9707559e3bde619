use Rattle.std.proofs.Common.{sym, ◌∙◌}
use Rattle.std.proofs.lemmas.Option.{get_or_from_slice_get, slice_get-get_or}
use Rattle.proto_base.proofs.Common.{none-some}
use Rattle.proto_names_at.proofs.declared.declared_symbol.Goals as goal

pub returns : goal.returns
returns c = sym (get_or_from_slice_get c.args.declared.now.rows.now c.args.index c.in-Some.id.row 0 (sym c.in-Some.ensures))

pub unreachable-requires : goal.unreachable-requires
unreachable-requires c = none-some _ (c.in-None.ensures ∙ slice_get-get_or c.args.declared.now.rows.now c.args.index 0 c.requires)
