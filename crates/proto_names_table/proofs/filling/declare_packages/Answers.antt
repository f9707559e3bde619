use Rattle.std.proofs.Common.{[], ◌∷◌, ◌++◌, ◌+◌, length, get_or, map, take, drop, refl, sym, ◌∙◌, ap, subst, arith, take_all}
use Rattle.proto_base.proofs.Common.{length-map, map-append, err_from_is_err_and}
use Rattle.proto_names_table.specs.Common.{all_named, named_in, AreSpelled, AreInFront, ArePackageRows, AreRowsOfNames, Holds, packages_in}
use Rattle.proto_names_table.proofs.Begun.{held_begun, kept_begun, table_begun}
use Rattle.proto_names_table.proofs.Filled.{kept_both, no_rows}
use Rattle.proto_names_table.proofs.Passes.{item_at, no_package_rows, package_rows_more, packages_next, packages_pass, spelled_at, within_map}
use Rattle.proto_names_table.proofs.filling.declare_packages.Goals as goal

pub package_count-count-requires : goal.package_count-count-requires
package_count-count-requires c =
    let e = c.deref.ensures.value ∙ item_at (λ v. v.items) c.args.files.now c.loop-file.file c.index-files-file.result c.loop-file-test.true c.index-files-file.is in
    let l = within_map (λ v. v.items) c.args.files.now c.loop-file.file c.loop-file-test.true in
    subst AreSpelled (sym e) (spelled_at (λ v. v.items) c.args.files.now c.requires.spelled c.loop-file.file l)

pub fill-requires-clause-spelled : goal.fill-requires-clause-spelled
fill-requires-clause-spelled c =
    let e = c.deref-in-loop-file-2.ensures.value ∙ item_at (λ v. v.items) c.args.files.now c.loop-file.file c.index-files-file.result c.loop-file-test.true c.index-files-file.is in
    let l = within_map (λ v. v.items) c.args.files.now c.loop-file.file c.loop-file-test.true in
    subst AreSpelled (sym e) (spelled_at (λ v. v.items) c.args.files.now c.requires.spelled c.loop-file.file l)

pub loop-file-preserved : goal.loop-file-preserved
loop-file-preserved c =
    let e = c.deref-in-loop-file-2.ensures.value ∙ item_at (λ v. v.items) c.args.files.now c.loop-file.file c.index-files-file.result c.loop-file-test.true c.index-files-file.is in
    let d = c.deref.ensures.value ∙ sym c.deref-in-loop-file-2.ensures.value ∙ e in
    let l = within_map (λ v. v.items) c.args.files.now c.loop-file.file c.loop-file-test.true in
    let ok = spelled_at (λ v. v.items) c.args.files.now c.requires.spelled c.loop-file.file l in
    let front = subst (AreInFront c.package_count-count.result) d c.package_count-count.ensures in
    record {
      table = c.in_ok-filled.ensures.table;
      held = subst (Holds c.in_ok-filled.filled.0) (packages_next (map (λ v. v.items) c.args.files.now) c.loop-file.file c.package_count-count.result (length c.in_ok-own.own.items) l ok front (ap length c.in_ok-own.ensures.items))
          (subst (λ z. Holds c.in_ok-filled.filled.0 (packages_in (all_named 0 (take c.loop-file.file (map (λ v. v.items) c.args.files.now))) ++ drop (length c.in_ok-own.own.items) (take c.package_count-count.result (named_in c.loop-file.file z)))) e
          (c.in_ok-filled.ensures.held (packages_in (all_named 0 (take c.loop-file.file (map (λ v. v.items) c.args.files.now)))) (held_begun c.loop-file.names c.begin_package.new.self c.begin_package.ensures.rows c.begin_package.ensures.below (packages_in (all_named 0 (take c.loop-file.file (map (λ v. v.items) c.args.files.now)))) c.loop-file.invariant.held)));
      rows = subst (ArePackageRows c.in_ok-filled.filled.0 (take (c.loop-file.file + 1) (map (λ v. v.items) c.args.files.now)))
          (sym (ap (map (λ v. v.items)) c.in_ok-push.ensures.items ∙ map-append (λ v. v.items) c.loop-file.rows.items (c.in_ok-filled.filled.1 ∷ [])))
          (package_rows_more c.loop-file.names c.in_ok-filled.filled.0 (map (λ v. v.items) c.args.files.now) (map (λ v. v.items) c.loop-file.rows.items) c.loop-file.file c.in_ok-filled.filled.1.items l (kept_both c.loop-file.names c.begin_package.new.self c.in_ok-filled.filled.0 (kept_begun c.loop-file.names c.begin_package.new.self c.begin_package.ensures.rows c.begin_package.ensures.below) c.in_ok-filled.ensures.kept) c.loop-file.invariant.rows
          (subst (λ z. AreInFront z (get_or (map (λ v. v.items) c.args.files.now) c.loop-file.file [])) (sym c.in_ok-filled.ensures.count) front)
          (subst (λ z. AreRowsOfNames c.in_ok-filled.filled.0 (named_in c.loop-file.file z) c.in_ok-filled.filled.1.items) e c.in_ok-filled.ensures.rows));
    }

pub fill-requires-clause-table : goal.fill-requires-clause-table
fill-requires-clause-table c = table_begun c.loop-file.names c.begin_package.new.self c.begin_package.ensures.rows c.begin_package.ensures.below c.loop-file.invariant.table

pub fill-requires-clause-end : goal.fill-requires-clause-end
fill-requires-clause-end c = (subst (AreInFront c.package_count-count.result) (c.deref.ensures.value ∙ sym c.deref-in-loop-file-2.ensures.value) c.package_count-count.ensures).within

pub fill-requires-clause-start : goal.fill-requires-clause-start
fill-requires-clause-start c = omega (arith, ap length c.in_ok-own.ensures.items)

pub fill-requires-clause-rows : goal.fill-requires-clause-rows
fill-requires-clause-rows c = no_rows c.begin_package.new.self (named_in c.loop-file.file c.deref-in-loop-file-2.result.now) c.in_ok-own.own.items c.in_ok-own.ensures.items

pub loop-file-init : goal.loop-file-init
loop-file-init c = record {
  table = c.requires.table;
  held = c.requires.empty;
  rows = subst (λ z. ArePackageRows c.args.table [] (map (λ v. v.items) z)) (sym c.new-rows.ensures.items) (no_package_rows c.args.table c.requires.declared);
}

pub returns-clause-held : goal.returns-clause-held
returns-clause-held c =
    let n = length-map c.args.files.now (λ v. v.items) in
    let t = c.loop-file-test.false in
    subst (λ fs. Holds c.loop-file.names (packages_in (all_named 0 fs))) (take_all c.loop-file.file (map (λ v. v.items) c.args.files.now) (omega (arith, t, n))) c.loop-file.invariant.held

pub returns-clause-rows : goal.returns-clause-rows
returns-clause-rows c =
    let n = length-map c.args.files.now (λ v. v.items) in
    let t = c.loop-file-test.false in
    subst (λ fs. ArePackageRows c.loop-file.names fs (map (λ v. v.items) c.loop-file.rows.items)) (take_all c.loop-file.file (map (λ v. v.items) c.args.files.now) (omega (arith, t, n))) c.loop-file.invariant.rows

pub returns-in_err-filled : goal.returns-in_err-filled
returns-in_err-filled c =
    let p = err_from_is_err_and c.from_residual-in_err-filled.result c.from_residual-in_err-filled.ensures.1 in
    let e = c.deref-in-loop-file-2.ensures.value ∙ item_at (λ v. v.items) c.args.files.now c.loop-file.file c.index-files-file.result c.loop-file-test.true c.index-files-file.is in
    let d = c.deref.ensures.value ∙ sym c.deref-in-loop-file-2.ensures.value in
    let l = within_map (λ v. v.items) c.args.files.now c.loop-file.file c.loop-file-test.true in
    let ok = subst AreSpelled (sym e) (spelled_at (λ v. v.items) c.args.files.now c.requires.spelled c.loop-file.file l) in
    let front = subst (AreInFront c.package_count-count.result) d c.package_count-count.ensures in
    rw (p.1, p.2) (record {
      table = tt;
      held = tt;
      rows = tt;
      fault =
          packages_pass (all_named 0 (take c.loop-file.file (map (λ v. v.items) c.args.files.now))) c.loop-file.file c.package_count-count.result (length c.in_ok-own.own.items) c.deref-in-loop-file-2.result.now c.in_err-filled.field-0.0 ok front
          (c.in_err-filled.ensures.fault (packages_in (all_named 0 (take c.loop-file.file (map (λ v. v.items) c.args.files.now)))) (held_begun c.loop-file.names c.begin_package.new.self c.begin_package.ensures.rows c.begin_package.ensures.below (packages_in (all_named 0 (take c.loop-file.file (map (λ v. v.items) c.args.files.now)))) c.loop-file.invariant.held));
    })

pub returns-in_err-own : goal.returns-in_err-own
returns-in_err-own c =
    let p = err_from_is_err_and c.from_residual.result c.from_residual.ensures.1 in
    rw (p.1, p.2) (record { table = tt; held = tt; rows = tt; fault = refl })

pub returns-in_err-push : goal.returns-in_err-push
returns-in_err-push c =
    let p = err_from_is_err_and c.from_residual-in_err-push.result c.from_residual-in_err-push.ensures.1 in
    rw (p.1, p.2) (record { table = tt; held = tt; rows = tt; fault = refl })

pub package_text-requires : goal.package_text-requires
package_text-requires c = (subst (AreInFront c.package_count-count.result) (c.deref.ensures.value ∙ sym c.deref-in-loop-file.ensures.value) c.package_count-count.ensures).within

pub returns-in_err-text : goal.returns-in_err-text
returns-in_err-text c =
    let p = err_from_is_err_and c.from_residual-in_err-text.result c.from_residual-in_err-text.ensures.1 in
    rw (p.1, p.2) (record { table = tt; held = tt; rows = tt; fault = refl })
