use Rattle.std.proofs.Common.{◌||◌, map, sym, ◌∙◌, ap, bytes_eq, take_all, arith}
use Rattle.std.specs.HashSet.{contains_text}
use Rattle.std.specs.List.{list_any}
use Rattle.proto_base.proofs.Common.{length-map}
use Rattle.proto_names_faults.specs.Common.{is_package_named, shown}
use Rattle.proto_names_faults.proofs.TakenNames.{package_kept, package_put}
use Rattle.proto_names_faults.proofs.clashing.package_names.Goals.{then-is_package+in_ok-take_name, else-is_package}
use Rattle.proto_names_faults.proofs.clashing.package_names.Goals as goal

pub loop-one-preserved : goal.loop-one-preserved
loop-one-preserved c = λ text. (
    let before = c.loop-one.invariant text in
    let one = c.one-item.result in
    elim c.if-is_package.branch [
      | then-is_package+in_ok-take_name w ↦
          package_put text c.args.all.now c.loop-one.one-index one c.loop-one-test.true c.one-item.is (sym c.is_package.ensures ∙ w.if-is_package.true) _ _ before
          (ap (λ z. contains_text z text) w.taken-is ∙ w.in_ok-take_name.ensures.names text ∙ ap (λ t. contains_text c.loop-one.taken text || bytes_eq t text) w.as_str.ensures.value)
      | else-is_package w ↦
          package_kept text c.args.all.now c.loop-one.one-index one c.loop-one-test.true c.one-item.is (sym c.is_package.ensures ∙ w.if-is_package.false) _ _ before (ap (λ z. contains_text z text) w.taken-is)
    ])

pub returns : goal.returns
returns c = λ text. c.loop-one.invariant text ∙ ap (list_any (is_package_named text)) (take_all c.loop-one.one-index (map shown c.args.all.now) (omega (arith, c.loop-one-test.false, length-map c.args.all.now shown)))
