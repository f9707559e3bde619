use Rattle.std.proofs.Common.{map, sym, ap, ◌∙◌, arith, find, bytes_eq}
use Rattle.std.proofs.lemmas.List.{at_drop_all}
use Rattle.proto_ast.specs.Common.{is_named, text, option_of}
use Rattle.proto_ast.proofs.Statements.{found_here, not_found_here}
use Rattle.proto_ast.proofs.option_values.option_named.Goals as goal

pub loop-option-preserved : goal.loop-option-preserved
loop-option-preserved c =
    c.loop-option.invariant
    ∙ not_found_here (is_named (text c.args.scene.now) c.args.name.now) option_of c.args.options.now c.loop-option.option-index c.option-item.result c.loop-option-test.true c.option-item.is
    (ap (λ w. bytes_eq w c.args.name.now) (sym c.text.ensures) ∙ sym c.eq.ensures ∙ c.if-eq.false)

pub returns-then-eq : goal.returns-then-eq
returns-then-eq c =
    sym (c.loop-option.invariant
    ∙ found_here (is_named (text c.args.scene.now) c.args.name.now) option_of c.args.options.now c.loop-option.option-index c.option-item.result c.loop-option-test.true c.option-item.is
    (ap (λ w. bytes_eq w c.args.name.now) (sym c.text.ensures) ∙ sym c.eq.ensures ∙ c.if-eq.true))

pub returns : goal.returns
returns c =
    sym (c.loop-option.invariant
    ∙ at_drop_all (λ options. find (is_named (text c.args.scene.now) c.args.name.now) (map option_of options)) c.args.options.now c.loop-option.option-index (omega arith))
