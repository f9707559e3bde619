use Rattle.std.proofs.Common.{◌≡◌, ◌++◌, ℕ, Bool, List, [], ◌∷◌, length, map, OnOk, take, sym, ap, subst, ◌∙◌, bytes_eq, take_all}
use Rattle.proto_base.proofs.Common.{map_push, listed_more}
use Rattle.proto_base.specs.declared.fault.FaultKind.TheVariants as kind
use Rattle.proto_ast.proofs.Common.{OptionOf, text, option_of}
use Rattle.proto_desc_numbers.specs.Flaws.{after_earlier, marked}
use Rattle.proto_desc_checks.proofs.OptionNames.{earlier_map, flags_length}
use Rattle.proto_desc_checks.proofs.options.add_repeated.Goals as goal

pub loop-option-preserved : goal.loop-option-preserved
loop-option-preserved c =
    let option = c.option-item.result in
    record {
      tokens = listed_more (λ o. o.name) option_of c.args.options.now c.loop-option.option-index option option c.loop-option.tokens.items _ c.loop-option-test.true c.option-item.is c.in_ok-push.ensures.items c.loop-option.invariant.tokens;
      names = listed_more (λ o. text c.args.scene.now o.name) option_of c.args.options.now c.loop-option.option-index option option (map (λ n. n.now) c.loop-option.names.items) _ c.loop-option-test.true c.option-item.is
          (ap (map (λ n. n.now)) c.in_ok-push-2.ensures.items ∙ map_push (λ n. n.now) c.loop-option.names.items c.text.result ∙ ap (λ (name : List ℕ). map (λ n. n.now) c.loop-option.names.items ++ name ∷ []) c.text.ensures) c.loop-option.invariant.names;
    }

pub add_marked-requires : goal.add_marked-requires
add_marked-requires c =
    let options = map option_of (take c.loop-option.option-index c.args.options.now) in
    ap length c.deref.ensures.value
    ∙ flags_length (λ x y. bytes_eq x.now y.now) (λ n. n.now) (λ o. text c.args.scene.now o.name) (λ o. o.name) options c.loop-option.names.items c.in_ok-flags.flags.items c.loop-option.tokens.items
    c.loop-option.invariant.tokens c.loop-option.invariant.names c.in_ok-flags.ensures.flags
    ∙ ap length (sym c.deref-2.ensures.value)

pub returns : goal.returns
returns c =
    let name = λ (o : OptionOf). text c.args.scene.now o.name in
    let options = map option_of c.args.options.now in
    let all = ap (map option_of) (take_all c.loop-option.option-index c.args.options.now c.loop-option-test.false) in
    let tokens : c.deref.result.now ≡ map (λ o. o.name) options = c.deref.ensures.value ∙ c.loop-option.invariant.tokens ∙ ap (map (λ o. o.name)) all in
    let flags : c.deref-2.result.now ≡ after_earlier bytes_eq (map name options) =
    c.deref-2.ensures.value ∙ c.in_ok-flags.ensures.flags
    ∙ earlier_map (λ n. n.now) bytes_eq [] c.loop-option.names.items
    ∙ ap (after_earlier bytes_eq) (c.loop-option.invariant.names ∙ ap (map name) all) in
    let Added : List ℕ → List Bool → Type 0 = λ ts bs. OnOk c.add_marked.result (c.add_marked.new.found.items ≡ c.args.found.now.items ++ marked kind.BadOption ts bs) in
    subst (λ (ts : List ℕ). Added ts (after_earlier bytes_eq (map name options))) tokens (subst (λ (bs : List Bool). Added c.deref.result.now bs) flags c.add_marked.ensures)
