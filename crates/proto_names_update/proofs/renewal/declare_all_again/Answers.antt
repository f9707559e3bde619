use Rattle.std.proofs.Common.{◌≡◌, ◌<◌, ◌≤◌, [], ◌∷◌, ◌++◌, length, get_or, map, take, IfSome, refl, sym, ◌∙◌, ap, subst, arith, append-nil, length-append}
use Rattle.std.proofs.lemmas.List.{take_all}
use Rattle.std.specs.Cow.{cow_str_bytes}
use Rattle.proto_names_outline.specs.Listing.{needs}
use Rattle.proto_names_rules.proofs.Common.{IsPlain, front, under}
use Rattle.proto_names_table.specs.Common.{AreRowsOfNames, Holds, IsIndexOf, IsRowOf, SymbolIsDeclared, declaration_of, named_in, names_of, number_above, symbol_named}
use Rattle.proto_names_table.proofs.Filled.{held_next, kept_both, kept_itself, no_rows, rows_next, rows_within}
use Rattle.proto_names_table.proofs.Naming.{named_length}
use Rattle.proto_names_update.proofs.Renewing.{index_next}
use Rattle.proto_names_update.proofs.renewal.declare_all_again.Goals as goal

pub loop-entry-init : goal.loop-entry-init
loop-entry-init c = record {
  table = c.requires.table;
  fits = c.requires.fits;
  undone = refl;
  kept = kept_itself c.args.table.now;
  count = ap length c.in_ok-rows.ensures.items;
  rows = no_rows c.args.table.now (named_in c.args.file c.args.spelled.now) c.in_ok-rows.rows.items c.in_ok-rows.ensures.items;
  index = λ symbols index. subst (IsIndexOf c.args.table.now) (sym (append-nil symbols)) index;
  held = λ ds held. subst (Holds c.args.table.now) (sym (append-nil ds)) held;
}

pub loop-entry-preserved : goal.loop-entry-preserved
loop-entry-preserved c =
    let i = c.loop-entry.invariant in
    let own = named_in c.args.file c.args.spelled.now in
    let k = c.loop-entry.entry-index in
    let l : k < length c.args.spelled.now = c.loop-entry-test.true in
    let s = c.entry-item.result in
    let before = c.deref.result.now in
    let t = c.loop-entry.table in
    let t' = c.declare_again.new.table in
    let known = subst (AreRowsOfNames t own) (sym c.deref.ensures.value) i.rows in
    let size = ap length c.deref.ensures.value ∙ i.count in
    let text = under (front (names_of t) (number_above before s.above)) (cow_str_bytes s.word) in
    let there = subst (λ o. IfSome o (IsRowOf t t' text (declaration_of c.args.file s))) c.in-Some.is c.in_ok-declared.ensures.row in
    let declared = subst (λ o. IfSome o (λ _. SymbolIsDeclared t t' text (declaration_of c.args.file s))) c.in-Some.is c.in_ok-declared.ensures.index in
    let e = c.in_ok-push-in-Some.ensures.items in
    let more = length-append c.loop-entry.rows.items (c.in-Some.row ∷ []) in
    record {
      table = c.declare_again.ensures.table;
      fits = c.declare_again.ensures.fits;
      undone = c.declare_again.ensures.undone ∙ i.undone;
      kept = kept_both c.args.table.now t t' i.kept there.kept;
      count = omega (arith, ap length e, more, i.count);
      rows = subst (AreRowsOfNames t' own) (ap (λ z. z ++ c.in-Some.row ∷ []) c.deref.ensures.value ∙ sym e)
          (rows_next t t' c.args.file c.args.spelled.now before k s c.entry-item.is c.requires.spelled l size known c.in-Some.row there);
      index = λ symbols index. index_next t t' c.args.file c.args.spelled.now before k s c.entry-item.is c.requires.spelled l size known symbols declared (i.index symbols index);
      held = λ ds held.
          held_next t t' c.args.file c.args.spelled.now before k s c.entry-item.is c.requires.spelled l size known c.in-Some.row there ds 0 (omega arith) i.table c.declare_again.ensures.table declared (i.held ds held);
    }

pub declare_again-requires : goal.declare_again-requires
declare_again-requires c =
    let i = c.loop-entry.invariant in
    let k = c.loop-entry.entry-index in
    let l : k < length c.args.spelled.now = c.loop-entry-test.true in
    let e = ap length c.deref.ensures.value in
    record {
      table = i.table;
      fits = i.fits;
      ordered =
          (let h = c.requires.spelled.ordered k c.entry-item.result l in
          subst (λ z. needs z.above ≤ length c.deref.result.now) (sym c.entry-item.is) (omega (arith, h, e, i.count)));
      plain = subst (λ z. IsPlain (cow_str_bytes z.word)) (sym c.entry-item.is) (c.requires.spelled.plain k c.entry-item.result l);
      within = λ j row lj.
          subst (λ z. get_or z j row < length c.loop-entry.table.rows.items) (sym c.deref.ensures.value) (rows_within c.loop-entry.table (named_in c.args.file c.args.spelled.now) c.loop-entry.rows.items i.rows j row (omega (arith, lj, e)));
    }

pub returns-clause-declared : goal.returns-clause-declared
returns-clause-declared c =
    let i = c.loop-entry.invariant in
    let own = named_in c.args.file c.args.spelled.now in
    let n = named_length c.args.file c.args.spelled.now in
    let past = c.loop-entry-test.false in
    let all : take c.loop-entry.entry-index own ≡ own = take_all c.loop-entry.entry-index own (omega (arith, n, past)) in
    record {
      kept = i.kept;
      count = omega (arith, i.count, past, i.rows.count, n);
      each = i.rows;
      index = λ symbols index. subst (λ z. IsIndexOf c.loop-entry.table (symbols ++ map symbol_named z)) all (i.index symbols index);
      held = λ ds held. subst (λ z. Holds c.loop-entry.table (ds ++ z)) all (i.held ds held);
    }
