use Rattle.std.proofs.Common.{◌≡◌, ◌<◌, [], length, get_or, map, take, refl, sym, ◌∙◌, ap, subst}
use Rattle.proto_base.proofs.Common.{get_or-map}
use Rattle.proto_names_update.specs.Forgetting.{AreForgotten}
use Rattle.proto_names_update.specs.RenewedNames.{rows_at}
use Rattle.proto_names_update.proofs.Again.{flat_step}
use Rattle.proto_names_update.proofs.Leaving.{forgotten_more, none_forgotten}
use Rattle.proto_names_update.proofs.renewed_names.forget_places.Goals as goal

pub loop-place-init : goal.loop-place-init
loop-place-init c = record { table = c.requires.table; fits = c.requires.fits; undone = refl; forgotten = none_forgotten c.args.table.now }

pub loop-place-preserved : goal.loop-place-preserved
loop-place-preserved c =
    let i = c.loop-place.invariant in
    let places = c.args.places.now in
    let given = map (λ v. v.items) c.args.rows.now in
    let k = c.loop-place.place-index in
    let p = get_or places k 0 in
    let l : p < length c.args.rows.now = c.requires.places k 0 c.loop-place-test.true in
    let own : c.deref.result.now ≡ get_or given p [] =
    c.deref.ensures.value ∙ ap (λ v. v.items) c.index-rows-place.is ∙ sym (get_or-map (λ v. v.items) c.args.rows.now p c.index-rows-place.result [] l) in
    record {
      table = c.forget_all.ensures.table;
      fits = c.forget_all.ensures.fits;
      undone = c.forget_all.ensures.undone ∙ i.undone;
      forgotten = subst (λ z. AreForgotten z c.args.table.now c.forget_all.new.table) (sym (flat_step (λ q. get_or given q []) places k c.loop-place-test.true))
          (forgotten_more c.args.table.now c.loop-place.table c.forget_all.new.table (rows_at given (take k places)) (get_or given p []) i.forgotten
          (subst (λ z. AreForgotten z c.loop-place.table c.forget_all.new.table) own c.in_ok-forget_all.ensures.rows));
    }
