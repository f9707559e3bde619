use Rattle.std.proofs.Common.{◌≡◌, [], Bool, true, false, ◌&&◌, get_or, refl, sym, ◌∙◌, ap}
use Rattle.proto_base.proofs.Common.{both_ways, get_or_default, IfOk-from_err}
use Rattle.proto_names_rules.specs.declared.kind.Kind.TheVariants.{Package}
use Rattle.proto_names_rules.proofs.Common.{is_package, package_from}
use Rattle.proto_names_table.specs.Common.{Row, is_shared_row, names_of}
use Rattle.proto_names_table.specs.Undone.{shared_row}
use Rattle.proto_names_table.proofs.Indexed.{declared_again}
use Rattle.proto_names_table.proofs.IndexAdded.{both_true}
use Rattle.proto_names_table.proofs.Kept.{row_again}
use Rattle.proto_names_table.proofs.OneRow.{table_same}
use Rattle.proto_names_table.proofs.Tables.{at_refusal}
use Rattle.proto_names_table.proofs.table.Table.share.Goals as goal
use Rattle.proto_names_table.proofs.table.Table.share.Goals.{else-is_package-via-then-is_package+else-is_package-2, else-is_package-via-else-is_package}

and_not : (a b : Bool) → b ≡ false → (a && b) ≡ false
and_not true b h = h
and_not false b h = refl

pub returns-in_ok-add_file-clause-table : goal.returns-in_ok-add_file-clause-table
returns-in_ok-add_file-clause-table c =
    let f = c.in_ok-add_file.ensures.added in
    let two = package_from c.index.result.now.symbol.kind (sym c.is_package-then-is_package.ensures ∙ c.if-is_package-2.true) in
    let same : c.index.result.now ≡ f.0 = c.index.ensures ∙ get_or_default c.args.self.now.rows.items c.args.row c.index.result.now f.0 c.requires.within ∙ sym f.2 in
    let alive : f.1.is_declared ≡ true = f.8 ∙ ap (λ (z : Row). z.is_declared) f.2 ∙ c.requires.declared f.0 in
    let shared : f.1.symbol.kind ≡ Package = ap (λ z. z.kind) f.5 ∙ ap (λ (z : Row). z.symbol.kind) (sym same) ∙ two in
    table_same c.args.self.now (record { rows = c.add_file.new.rows; below = c.args.self.now.below; begun = c.args.self.now.begun }) c.args.row f.0 f.1 c.requires.within f.2 f.3 refl f.4 f.6
    (λ h. absurd (both_ways (is_shared_row f.1) h (both_true f.1.is_declared (is_package f.1.symbol.kind) alive (ap is_package shared)))) c.requires.table

pub returns-in_ok-add_file-clause-index : goal.returns-in_ok-add_file-clause-index
returns-in_ok-add_file-clause-index c =
    let f = c.in_ok-add_file.ensures.added in
    let one = package_from c.args.symbol.kind (sym c.is_package.ensures ∙ c.if-is_package.true) in
    let two = package_from c.index.result.now.symbol.kind (sym c.is_package-then-is_package.ensures ∙ c.if-is_package-2.true) in
    let same : c.index.result.now ≡ f.0 = c.index.ensures ∙ get_or_default c.args.self.now.rows.items c.args.row c.index.result.now f.0 c.requires.within ∙ sym f.2 in
    let was : f.0.is_declared ≡ true = ap (λ (z : Row). z.is_declared) f.2 ∙ c.requires.declared f.0 in
    declared_again c.args.self.now (record { rows = c.add_file.new.rows; below = c.args.self.now.below; begun = c.args.self.now.begun }) c.args.row f.0 f.1 c.args.symbol.file c.requires.within f.2 f.3 refl f.4 f.5 f.6 f.7 was (f.8 ∙ was)
    (get_or (names_of c.args.self.now) c.args.row []) c.args.symbol refl (one ∙ sym two ∙ ap (λ (z : Row). z.symbol.kind) same) refl

pub returns-in_ok-add_file-clause-row : goal.returns-in_ok-add_file-clause-row
returns-in_ok-add_file-clause-row c =
    let f = c.in_ok-add_file.ensures.added in
    let one = package_from c.args.symbol.kind (sym c.is_package.ensures ∙ c.if-is_package.true) in
    let two = package_from c.index.result.now.symbol.kind (sym c.is_package-then-is_package.ensures ∙ c.if-is_package-2.true) in
    let same : c.index.result.now ≡ f.0 = c.index.ensures ∙ get_or_default c.args.self.now.rows.items c.args.row c.index.result.now f.0 c.requires.within ∙ sym f.2 in
    let was : f.0.is_declared ≡ true = ap (λ (z : Row). z.is_declared) f.2 ∙ c.requires.declared f.0 in
    row_again c.args.self.now (record { rows = c.add_file.new.rows; below = c.args.self.now.below; begun = c.args.self.now.begun }) c.args.row f.0 f.1 (get_or (names_of c.args.self.now) c.args.row []) c.args.symbol
    c.requires.within f.2 f.3 f.4 f.5 was (f.8 ∙ was) refl one (ap (λ (z : Row). z.symbol.kind) (sym same) ∙ two)

pub returns-in_ok-add_file-clause-change : goal.returns-in_ok-add_file-clause-change
returns-in_ok-add_file-clause-change c =
    let f = c.in_ok-add_file.ensures.added in
    let one = package_from c.args.symbol.kind (sym c.is_package.ensures ∙ c.if-is_package.true) in
    let two = package_from c.index.result.now.symbol.kind (sym c.is_package-then-is_package.ensures ∙ c.if-is_package-2.true) in
    let same : c.index.result.now ≡ f.0 = c.index.ensures ∙ get_or_default c.args.self.now.rows.items c.args.row c.index.result.now f.0 c.requires.within ∙ sym f.2 in
    let was : f.0.is_declared ≡ true = ap (λ (z : Row). z.is_declared) f.2 ∙ c.requires.declared f.0 in
    shared_row f.0 f.1 c.requires.within f.2 one (ap (λ (z : Row). z.symbol.kind) (sym same) ∙ two) was f.4 f.5 f.6 f.7 (f.8 ∙ was) f.3 refl

pub returns-else-is_package-clause-clash : goal.returns-else-is_package-clause-clash
returns-else-is_package-clause-clash c = record {
  row = c.args.row;
  within = c.requires.within;
  name = refl;
  declared = c.requires.declared;
  apart = λ d. elim c.else-is_package.branch [
    | else-is_package-via-then-is_package+else-is_package-2 w ↦
        and_not (is_package c.args.symbol.kind) (is_package (get_or c.args.self.now.rows.items c.args.row d).symbol.kind)
        (ap (λ (z : Row). is_package z.symbol.kind) (get_or_default c.args.self.now.rows.items c.args.row d w.index.result.now c.requires.within ∙ sym w.index.ensures) ∙ sym w.is_package-then-is_package.ensures ∙ w.if-is_package-2.false)
    | else-is_package-via-else-is_package w ↦ ap (λ z. z && is_package (get_or c.args.self.now.rows.items c.args.row d).symbol.kind) (sym c.is_package.ensures ∙ w.if-is_package.false)
  ];
}

pub returns-else-is_package-clause-clash_kept : goal.returns-else-is_package-clause-clash_kept
returns-else-is_package-clause-clash_kept c = record { rows = refl; below = refl }

pub returns-in_err-add_file : goal.returns-in_err-add_file
returns-in_err-add_file c =
    let r = c.from_residual.result in
    let err = c.from_residual.ensures.0 in
    record {
      table = IfOk-from_err r _ err;
      index = IfOk-from_err r _ err;
      row = IfOk-from_err r _ err;
      change = IfOk-from_err r _ err;
      clash = IfOk-from_err r _ err;
      clash_kept = IfOk-from_err r _ err;
      kept = at_refusal r _ (record { rows = c.in_err-add_file.ensures.kept; below = refl });
    }
