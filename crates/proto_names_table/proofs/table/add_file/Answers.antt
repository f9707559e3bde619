use Rattle.std.proofs.Common.{length, refl, ap}
use Rattle.std.proofs.lemmas.Option.{slice_get_read}
use Rattle.proto_names_table.specs.Tables.{row_of}
use Rattle.proto_names_table.proofs.Tables.{at_refusal, map_set_same}
use Rattle.proto_names_table.proofs.table.add_file.Goals as goal

pub returns-clause-added : goal.returns-clause-added
returns-clause-added c = (
  c.index_mut-row.result.now,
  record { name = c.index_mut-row.result.now.name; symbol = c.index_mut-row.result.now.symbol; above = c.index_mut-row.result.now.above; more = c.push.new.self; is_declared = c.index_mut-row.result.now.is_declared },
  c.index_mut-row.ensures.value,
  refl,
  refl,
  refl,
  refl,
  c.in_ok-push.ensures.items,
  refl,
)

pub returns-in_err-push-clause-kept : goal.returns-in_err-push-clause-kept
returns-in_err-push-clause-kept c =
    let old = c.index_mut-row.result.now in
    at_refusal c.from_residual.result _
    (map_set_same row_of c.args.rows.now.items c.args.row old (record { name = old.name; symbol = old.symbol; above = old.above; more = c.push.new.self; is_declared = old.is_declared })
    (slice_get_read c.args.rows.now.items (length c.args.rows.now.items) c.args.row old refl c.requires c.index_mut-row.ensures.value)
    (ap (λ z. (old.name, old.symbol, old.above, z, old.is_declared)) c.in_err-push.ensures.items))
