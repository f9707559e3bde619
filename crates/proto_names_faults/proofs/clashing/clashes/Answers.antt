use Rattle.std.proofs.Common.{◌||◌, ◌++◌, ◌+◌, ◌<◌, length, map, take, string_bytes, refl, sym, ◌∙◌, ap, subst, bytes_eq, take_all, arith}
use Rattle.std.specs.HashSet.{contains_text}
use Rattle.proto_base.proofs.Common.{Vec, length-map}
use Rattle.proto_names_rules.proofs.Common.{package_from}
use Rattle.proto_names_faults.specs.Common.{AreFlawsOf, Flaw, IsClash, flaw_if, shown}
use Rattle.proto_names_faults.proofs.Added.{flaw_added, none_found}
use Rattle.proto_names_faults.proofs.Clashes.{no_clash, other_turn, package_turn}
use Rattle.proto_names_faults.proofs.TakenNames.{no_package, none_taken, other_kept, other_put, shown_at}
use Rattle.proto_names_faults.proofs.clashing.clashes.Goals.{then-not-is_package+in_ok-is_taken+in_ok-add_flaw, else-not-is_package}
use Rattle.proto_names_faults.proofs.clashing.clashes.Goals as goal

pub loop-one-init : goal.loop-one-init
loop-one-init c = record {
  names = λ text. none_taken _ _ (c.requires text);
  flaws = none_found _ _ c.new-found.ensures.items (no_clash (map shown c.args.all.now));
}

pub loop-one-preserved : goal.loop-one-preserved
loop-one-preserved c =
    let all = map shown c.args.all.now in
    let i = c.loop-one.one-index in
    let one = c.one-item.result in
    let l : i < length all = omega (arith, c.loop-one-test.true, length-map c.args.all.now shown) in
    let here = shown_at c.args.all.now i one c.loop-one-test.true c.one-item.is in
    elim c.if-not-is_package.branch [
      | then-not-is_package+in_ok-is_taken+in_ok-add_flaw w ↦
          let plain = sym c.is_package.ensures ∙ w.if-not-is_package.true in
          let text = w.as_str.ensures.value in
          let taken = w.in_ok-is_taken.ensures.was ∙ ap (contains_text c.loop-one.taken) text ∙ c.loop-one.invariant.names (string_bytes one.text) in
          let new = w.in_ok-add_flaw.ensures ∙ ap (λ k. c.loop-one.found.items ++ flaw_if one.file one.token k) w.kind_if.ensures in
          record {
            names = λ other.
                (other_put other c.args.all.now i one c.loop-one-test.true c.one-item.is plain _ _ _ (c.loop-one.invariant.names other)
                (ap (λ z. contains_text z other) w.taken-is ∙ w.in_ok-is_taken.ensures.names other ∙ ap (λ t. contains_text c.loop-one.taken other || bytes_eq t other) text));
            flaws = subst (λ (v : Vec Flaw). AreFlawsOf (IsClash all (take (i + 1) all)) v.items) (sym w.found-is)
                (other_turn all i (shown one) l here (no_package one.kind plain) one.file one.token w.in_ok-is_taken.is_taken refl taken c.loop-one.found.items w.add_flaw.new.found.items c.loop-one.invariant.flaws
                (flaw_added c.loop-one.found.items w.add_flaw.new.found.items one.file one.token _ new));
          }
      | else-not-is_package w ↦
          let is_one = sym c.is_package.ensures ∙ w.if-not-is_package.false in
          record {
            names = λ other. other_kept other c.args.all.now i one c.loop-one-test.true c.one-item.is is_one _ _ _ (c.loop-one.invariant.names other) (ap (λ z. contains_text z other) w.taken-is);
            flaws = subst (λ (v : Vec Flaw). AreFlawsOf (IsClash all (take (i + 1) all)) v.items) (sym w.found-is)
                (package_turn all i (shown one) l here (package_from one.kind is_one) c.loop-one.found.items c.loop-one.invariant.flaws);
          }
    ]

pub returns : goal.returns
returns c =
    subst (λ xs. AreFlawsOf (IsClash (map shown c.args.all.now) xs) c.loop-one.found.items)
    (take_all c.loop-one.one-index (map shown c.args.all.now) (omega (arith, c.loop-one-test.false, length-map c.args.all.now shown))) c.loop-one.invariant.flaws
