use Rattle.std.proofs.Common.{◌≡◌, ◌<◌, length, get_or, sym, ◌∙◌, ap, subst, arith, Contains}
use Rattle.proto_base.proofs.Common.{get_or_default, length-map}
use Rattle.proto_names_table.specs.Tables.{files_of}
use Rattle.proto_names_table.specs.declared.table.Row.{Row}
use Rattle.proto_names_update.proofs.renewal.package_row.Goals as goal

pub returns-then-is_package_of : goal.returns-then-is_package_of
returns-then-is_package_of c =
    let t = c.args.table.now in
    let row = c.in_ok-row.row in
    let own = c.index.result.now in
    let n = length-map t.rows.items (λ r. r.name) in
    let f = c.requires.table.forest.sound c.args.above c.args.word.now row (omega (arith, c.requires.within, n)) (sym c.find.ensures ∙ c.in_ok-row.was) in
    let l : row < length t.rows.items = omega (arith, f.0, n) in
    let here : (r : Row) → get_or t.rows.items row r ≡ own = λ r. get_or_default t.rows.items row r own l ∙ sym c.index.ensures in
    let yes_it = c.if-is_package_of.true in
    record {
      within = l;
      name = f.1;
      kind = λ r. ap (λ (z : Row). z.symbol.kind) (here r) ∙ c.is_package_of.ensures.kind yes_it;
      declared = λ r. ap (λ (z : Row). z.is_declared) (here r) ∙ c.is_package_of.ensures.declared yes_it;
      file_is = λ r. subst (λ z. Contains (files_of z) c.args.file) (sym (here r)) (c.is_package_of.ensures.file_is yes_it);
    }
