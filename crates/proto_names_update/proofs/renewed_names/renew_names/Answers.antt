use Rattle.std.proofs.Common.{◌<◌, length, map, ◌∙◌}
use Rattle.proto_base.proofs.Common.{All-contains, IfOk-weaker, length-map}
use Rattle.proto_names_update.proofs.Replaced.{all_renewed}
use Rattle.proto_names_update.proofs.RowsPut.{inside_all}
use Rattle.proto_names_update.proofs.renewed_names.renew_names.Goals as goal

pub returns-clause-renewed : goal.returns-clause-renewed
returns-clause-renewed c =
    IfOk-weaker c.declare_places.result _ _ (λ renewed again.
    all_renewed c.args.places.now c.args.files.now c.args.table.now c.forget_places.new.table c.declare_places.new.table (map (λ v. v.items) c.args.rows.now) (map (λ v. v.items) renewed.items) c.requires.table
    (inside_all (λ v. v.items) (length c.args.table.now.rows.items) c.args.rows.now c.requires.within) (λ p m. All-contains (λ place. place < length c.args.files.now) c.args.places.now p c.requires.places m) (length-map c.args.rows.now (λ v. v.items) ∙ c.requires.paired) c.requires.names c.in_ok-forget_places.ensures.rows
    c.are_read.ensures.0 c.are_read.ensures.1 again) c.declare_places.ensures.declared
