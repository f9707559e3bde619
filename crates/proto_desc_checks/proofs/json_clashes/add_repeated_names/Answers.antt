use Rattle.std.proofs.Common.{◌≡◌, ℕ, List, [], Bool, ◌++◌, map, ap, ◌∙◌, bytes_eq, string_bytes}
use Rattle.std.proofs.lemmas.Result.{on_ok_weaker}
use Rattle.proto_base.specs.declared.fault.FaultKind.TheVariants as kind
use Rattle.proto_ast.proofs.Common.{field_of, json_name_of}
use Rattle.proto_desc_numbers.specs.Flaws.{after_earlier, marked}
use Rattle.proto_desc_checks.proofs.OptionNames.{earlier_map, flags_length}
use Rattle.proto_desc_checks.proofs.json_clashes.add_repeated_names.Goals as goal

pub add_marked-requires : goal.add_marked-requires
add_marked-requires c = flags_length (λ x y. bytes_eq (string_bytes x) (string_bytes y)) string_bytes (json_name_of c.args.scene.now) (λ f. f.name) (map field_of c.args.fields.now) c.in_ok-names.names.items c.deref-2.result.now c.deref.result.now (c.deref.ensures.value ∙ c.in_ok-tokens.ensures) c.in_ok-names.ensures (c.deref-2.ensures.value ∙ c.in_ok-flags.ensures.flags)

pub returns : goal.returns
returns c =
    let found = c.args.found.now.items in
    let fields = map field_of c.args.fields.now in
    let again = after_earlier bytes_eq (map (json_name_of c.args.scene.now) fields) in
    let tokens : c.deref.result.now ≡ map (λ f. f.name) fields = c.deref.ensures.value ∙ c.in_ok-tokens.ensures in
    let flags : c.deref-2.result.now ≡ again = c.deref-2.ensures.value ∙ c.in_ok-flags.ensures.flags ∙ earlier_map string_bytes bytes_eq [] c.in_ok-names.names.items ∙ ap (after_earlier bytes_eq) c.in_ok-names.ensures in
    on_ok_weaker c.add_marked.result
    (λ e. e ∙ ap (λ (bs : List Bool). found ++ marked kind.JsonClash c.deref.result.now bs) flags ∙ ap (λ (ts : List ℕ). found ++ marked kind.JsonClash ts again) tokens)
    c.add_marked.ensures
