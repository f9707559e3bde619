use Rattle.std.proofs.Common.{◌≡◌, ◌+◌, ◌<◌, [], ◌∷◌, ◌++◌, List, length, get_or, map, refl, sym, ◌∙◌, ap, arith}
use Rattle.proto_base.proofs.Common.{get_or-map, map-append}
use Rattle.proto_files.specs.FilesRead.{AreRead, ReadOf}
use Rattle.proto_names_update.specs.NamesOfFiles.{declared_by}
use Rattle.proto_names_update.specs.RenewedNames.{IsFileAgain}
use Rattle.proto_names_update.proofs.Again.{AreSoManyAgain, all_again, none_again, one_again}
use Rattle.proto_names_update.proofs.renewed_names.declare_places.Goals as goal

pub loop-place-init : goal.loop-place-init
loop-place-init c = record {
  table = c.requires.table;
  fits = c.requires.fits;
  undone = refl;
  size = omega arith;
  again = λ reads are.
      none_again c.args.table.now (declared_by c.args.files.now reads) c.args.places.now (map (λ v. v.items) c.args.rows.now) (map (λ v. v.items) c.in_ok-renewed.renewed.items) (ap (map (λ v. v.items)) c.in_ok-renewed.ensures.items);
}

pub loop-place-preserved : goal.loop-place-preserved
loop-place-preserved c =
    let i = c.loop-place.invariant in
    let files = c.args.files.now in
    let places = c.args.places.now in
    let before = map (λ v. v.items) c.args.rows.now in
    let t = c.args.table.now in
    let u = c.loop-place.table in
    let v = c.declare_file.new.table in
    let k = c.loop-place.place-index in
    let p = get_or places k 0 in
    let inside = c.requires.places k 0 c.loop-place-test.true in
    let l : p < length c.args.rows.now = omega (arith, inside, c.requires.paired) in
    let own : c.deref.result.now ≡ get_or before p [] =
    c.deref.ensures.value ∙ ap (λ r. r.items) c.index-rows-place.is ∙ sym (get_or-map (λ r. r.items) c.args.rows.now p c.index-rows-place.result [] l) in
    let new = c.in_ok-own.own.items in
    let next : map (λ r. r.items) c.push.new.self.items ≡ map (λ r. r.items) c.loop-place.renewed.items ++ new ∷ [] =
    ap (map (λ r. r.items)) c.in_ok-push.ensures.items ∙ map-append (λ r. r.items) c.loop-place.renewed.items (c.in_ok-own.own ∷ []) in
    let one : (reads : List ReadOf) → AreRead files reads → IsFileAgain u v (declared_by files reads p) c.deref.result.now new = c.in_ok-own.ensures.declared in
    let again : (reads : List ReadOf) → AreRead files reads → AreSoManyAgain t v (declared_by files reads) places before (map (λ r. r.items) c.push.new.self.items) (k + 1) =
    λ reads are.
    one_again t u v (declared_by files reads) places before (map (λ r. r.items) c.loop-place.renewed.items) (map (λ r. r.items) c.push.new.self.items) k new c.deref.result.now c.loop-place-test.true
    (i.again reads are) next own (one reads are) in
    record {
      table = c.declare_file.ensures.table;
      fits = c.declare_file.ensures.fits;
      undone = c.declare_file.ensures.undone ∙ i.undone;
      size = (again c.are_read.ensures.0 c.are_read.ensures.1).beside.kept.size;
      again = again;
    }

pub returns-clause-declared : goal.returns-clause-declared
returns-clause-declared c = λ reads are.
    all_again c.args.table.now c.loop-place.table (declared_by c.args.files.now reads) c.args.places.now (map (λ v. v.items) c.args.rows.now) (map (λ v. v.items) c.loop-place.renewed.items)
    c.loop-place.place-index c.loop-place-test.false c.loop-place.auto.place-index-end (c.loop-place.invariant.again reads are)
