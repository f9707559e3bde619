use Rattle.std.proofs.Common.{◌≡◌, ◌<◌, [], ◌++◌, length, get_or, map, take, drop, sym, ◌∙◌, ap, subst, arith, slice_set, append-nil, set-set, take_all}
use Rattle.proto_base.proofs.Common.{length-map, map-set, err_from_is_err_and}
use Rattle.proto_names_table.specs.Common.{all_named, named_in, AreSpelled, AreInFront, AreRowsOfNames, Holds, StopsIn, others_in, packages_in}
use Rattle.proto_names_table.proofs.Passes.{item_at, others_next, rows_file, rows_first, rows_last, spelled_at, stops_least, within_map}
use Rattle.proto_names_table.proofs.filling.declare_others.Goals as goal

pub fill-requires-clause-spelled : goal.fill-requires-clause-spelled
fill-requires-clause-spelled c =
    let e = c.deref.ensures.value ∙ item_at (λ v. v.items) c.args.files.now c.loop-file.file c.index-files-file.result c.loop-file-test.true c.index-files-file.is in
    let l = within_map (λ v. v.items) c.args.files.now c.loop-file.file c.loop-file-test.true in
    subst AreSpelled (sym e) (spelled_at (λ v. v.items) c.args.files.now c.requires.spelled c.loop-file.file l)

pub fill-requires-clause-start : goal.fill-requires-clause-start
fill-requires-clause-start c =
    let at = item_at (λ v. v.items) c.args.files.now c.loop-file.file c.index-files-file.result c.loop-file-test.true c.index-files-file.is in
    let m = length-map c.loop-file.rows.items (λ v. v.items) in
    let p = c.loop-file.invariant.rows.paired in
    let l = within_map (λ v. v.items) c.args.files.now c.loop-file.file c.loop-file-test.true in
    let lr : c.loop-file.file < length c.loop-file.rows.items = omega (arith, l, m, p) in
    let own = ap (λ v. v.items) c.replace-own.ensures.value ∙ item_at (λ v. v.items) c.loop-file.rows.items c.loop-file.file c.index_mut-slot.result.now lr c.index_mut-slot.ensures.value in
    let len : c.len.result ≡ length (get_or (map (λ v. v.items) c.args.files.now) c.loop-file.file []) = c.len.ensures ∙ c.index-files-file.result.ok.0 ∙ ap length at in
    let front = subst (λ z. AreInFront (length z) (get_or (map (λ v. v.items) c.args.files.now) c.loop-file.file [])) (sym own) (c.loop-file.invariant.rows.fronts c.loop-file.file (omega arith) l) in
    let w = front.within in
    omega (arith, w, len)

pub fill-requires-clause-rows : goal.fill-requires-clause-rows
fill-requires-clause-rows c =
    let e = c.deref.ensures.value ∙ item_at (λ v. v.items) c.args.files.now c.loop-file.file c.index-files-file.result c.loop-file-test.true c.index-files-file.is in
    let m = length-map c.loop-file.rows.items (λ v. v.items) in
    let p = c.loop-file.invariant.rows.paired in
    let l = within_map (λ v. v.items) c.args.files.now c.loop-file.file c.loop-file-test.true in
    let lr : c.loop-file.file < length c.loop-file.rows.items = omega (arith, l, m, p) in
    let own = ap (λ v. v.items) c.replace-own.ensures.value ∙ item_at (λ v. v.items) c.loop-file.rows.items c.loop-file.file c.index_mut-slot.result.now lr c.index_mut-slot.ensures.value in
    subst (AreRowsOfNames c.loop-file.names (named_in c.loop-file.file c.deref.result.now)) (sym own)
    (subst (λ z. AreRowsOfNames c.loop-file.names (named_in c.loop-file.file z) (get_or (map (λ v. v.items) c.loop-file.rows.items) c.loop-file.file [])) (sym e) (c.loop-file.invariant.rows.each c.loop-file.file l))

pub loop-file-preserved : goal.loop-file-preserved
loop-file-preserved c =
    let at = item_at (λ v. v.items) c.args.files.now c.loop-file.file c.index-files-file.result c.loop-file-test.true c.index-files-file.is in
    let e = c.deref.ensures.value ∙ at in
    let m = length-map c.loop-file.rows.items (λ v. v.items) in
    let p = c.loop-file.invariant.rows.paired in
    let l = within_map (λ v. v.items) c.args.files.now c.loop-file.file c.loop-file-test.true in
    let lr : c.loop-file.file < length c.loop-file.rows.items = omega (arith, l, m, p) in
    let own = ap (λ v. v.items) c.replace-own.ensures.value ∙ item_at (λ v. v.items) c.loop-file.rows.items c.loop-file.file c.index_mut-slot.result.now lr c.index_mut-slot.ensures.value in
    let len : c.len.result ≡ length (get_or (map (λ v. v.items) c.args.files.now) c.loop-file.file []) = c.len.ensures ∙ c.index-files-file.result.ok.0 ∙ ap length at in
    let front = subst (λ z. AreInFront (length z) (get_or (map (λ v. v.items) c.args.files.now) c.loop-file.file [])) (sym own) (c.loop-file.invariant.rows.fronts c.loop-file.file (omega arith) l) in
    let ds = packages_in (all_named 0 (map (λ v. v.items) c.args.files.now)) ++ others_in (all_named 0 (take c.loop-file.file (map (λ v. v.items) c.args.files.now))) in
    record {
      table = c.in_ok-filled.ensures.table;
      held = subst (Holds c.in_ok-filled.filled.0)
          (others_next (packages_in (all_named 0 (map (λ v. v.items) c.args.files.now))) (map (λ v. v.items) c.args.files.now) c.loop-file.file (length c.replace-own.result.items) c.len.result l
          (spelled_at (λ v. v.items) c.args.files.now c.requires.spelled c.loop-file.file l) front len)
          (subst (λ z. Holds c.in_ok-filled.filled.0 ((packages_in (all_named 0 (map (λ v. v.items) c.args.files.now)) ++ others_in (all_named 0 (take c.loop-file.file (map (λ v. v.items) c.args.files.now)))) ++ drop (length c.replace-own.result.items) (take c.len.result (named_in c.loop-file.file z)))) e
          (c.in_ok-filled.ensures.held ds c.loop-file.invariant.held));
      rows = rows_file c.loop-file.names c.in_ok-filled.filled.0 (map (λ v. v.items) c.args.files.now) (map (λ v. v.items) c.loop-file.rows.items) (map (λ v. v.items) (slice_set (slice_set c.loop-file.rows.items c.loop-file.file c.replace-own.new.dest) c.loop-file.file c.in_ok-filled.filled.1)) c.loop-file.file c.in_ok-filled.filled.1.items
          l c.in_ok-filled.ensures.kept c.loop-file.invariant.rows
          (ap (map (λ v. v.items)) (set-set c.loop-file.rows.items c.loop-file.file c.replace-own.new.dest c.in_ok-filled.filled.1) ∙ map-set (λ v. v.items) c.loop-file.rows.items c.loop-file.file c.in_ok-filled.filled.1) (c.in_ok-filled.ensures.count ∙ len)
          (subst (λ z. AreRowsOfNames c.in_ok-filled.filled.0 (named_in c.loop-file.file z) c.in_ok-filled.filled.1.items) e c.in_ok-filled.ensures.rows);
    }

pub returns-clause-rows : goal.returns-clause-rows
returns-clause-rows c =
    let n = length-map c.args.files.now (λ v. v.items) in
    rows_last c.loop-file.names (map (λ v. v.items) c.args.files.now) (map (λ v. v.items) c.loop-file.rows.items) c.loop-file.file (let t = c.loop-file-test.false in omega (arith, t, n)) c.loop-file.invariant.rows

pub fill-requires-clause-table : goal.fill-requires-clause-table
fill-requires-clause-table c = c.loop-file.invariant.table

pub returns-clause-table : goal.returns-clause-table
returns-clause-table c = c.loop-file.invariant.table

pub loop-file-init : goal.loop-file-init
loop-file-init c = record {
  table = c.requires.table;
  held = subst (Holds c.args.table) (sym (append-nil (packages_in (all_named 0 (map (λ v. v.items) c.args.files.now))))) c.requires.held;
  rows = rows_first c.args.table (map (λ v. v.items) c.args.files.now) (map (λ v. v.items) c.args.packages.items) c.requires.rows;
}

pub fill-requires-clause-end : goal.fill-requires-clause-end
fill-requires-clause-end c =
    let len = c.len.ensures ∙ c.index-files-file.result.ok.0 in
    let same = ap length c.deref.ensures.value in
    omega (arith, len, same)

pub returns-clause-held : goal.returns-clause-held
returns-clause-held c =
    let n = length-map c.args.files.now (λ v. v.items) in
    let t = c.loop-file-test.false in
    subst (λ fs. Holds c.loop-file.names (packages_in (all_named 0 (map (λ v. v.items) c.args.files.now)) ++ others_in (all_named 0 fs))) (take_all c.loop-file.file (map (λ v. v.items) c.args.files.now) (omega (arith, t, n))) c.loop-file.invariant.held

pub index_mut-slot-requires : goal.index_mut-slot-requires
index_mut-slot-requires c =
    let m = length-map c.loop-file.rows.items (λ v. v.items) in
    let p = c.loop-file.invariant.rows.paired in
    let l = within_map (λ v. v.items) c.args.files.now c.loop-file.file c.loop-file-test.true in
    omega (arith, l, m, p, c.loop-file.rows.ok.0)

pub index_mut-requires : goal.index_mut-requires
index_mut-requires c =
    let m = length-map c.loop-file.rows.items (λ v. v.items) in
    let p = c.loop-file.invariant.rows.paired in
    let l = within_map (λ v. v.items) c.args.files.now c.loop-file.file c.loop-file-test.true in
    omega (arith, l, m, p, c.loop-file.rows.ok.0)

pub returns-in_err-filled : goal.returns-in_err-filled
returns-in_err-filled c =
    let q = err_from_is_err_and c.from_residual.result c.from_residual.ensures.1 in
    let at = item_at (λ v. v.items) c.args.files.now c.loop-file.file c.index-files-file.result c.loop-file-test.true c.index-files-file.is in
    let e = c.deref.ensures.value ∙ at in
    let m = length-map c.loop-file.rows.items (λ v. v.items) in
    let p = c.loop-file.invariant.rows.paired in
    let l = within_map (λ v. v.items) c.args.files.now c.loop-file.file c.loop-file-test.true in
    let lr : c.loop-file.file < length c.loop-file.rows.items = omega (arith, l, m, p) in
    let own = ap (λ v. v.items) c.replace-own.ensures.value ∙ item_at (λ v. v.items) c.loop-file.rows.items c.loop-file.file c.index_mut-slot.result.now lr c.index_mut-slot.ensures.value in
    let len : c.len.result ≡ length (get_or (map (λ v. v.items) c.args.files.now) c.loop-file.file []) = c.len.ensures ∙ c.index-files-file.result.ok.0 ∙ ap length at in
    let front = subst (λ z. AreInFront (length z) (get_or (map (λ v. v.items) c.args.files.now) c.loop-file.file [])) (sym own) (c.loop-file.invariant.rows.fronts c.loop-file.file (omega arith) l) in
    let ds = packages_in (all_named 0 (map (λ v. v.items) c.args.files.now)) ++ others_in (all_named 0 (take c.loop-file.file (map (λ v. v.items) c.args.files.now))) in
    rw (q.1, q.2) (record {
      table = tt;
      held = tt;
      rows = tt;
      fault =
          stops_least (map (λ v. v.items) c.args.files.now) c.loop-file.file (length c.replace-own.result.items) c.len.result c.in_err-filled.field-0.0 (spelled_at (λ v. v.items) c.args.files.now c.requires.spelled) l front len
          (subst (λ z. StopsIn (packages_in (all_named 0 (map (λ v. v.items) c.args.files.now)) ++ others_in (all_named 0 (take c.loop-file.file (map (λ v. v.items) c.args.files.now)))) (named_in c.loop-file.file z) (length c.replace-own.result.items) c.len.result c.in_err-filled.field-0.0) e
          (c.in_err-filled.ensures.fault ds c.loop-file.invariant.held));
    })
