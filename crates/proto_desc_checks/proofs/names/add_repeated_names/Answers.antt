use Rattle.std.proofs.Common.{List, [], Bool, ◌++◌, length, ap, sym, ◌∙◌, bytes_eq, string_bytes}
use Rattle.std.proofs.lemmas.Result.{on_ok_weaker}
use Rattle.proto_base.specs.declared.fault.FaultKind.TheVariants as kind
use Rattle.proto_desc_numbers.proofs.Common.{marked, repeats_length}
use Rattle.proto_desc_checks.proofs.OptionNames.{earlier_map}
use Rattle.proto_desc_checks.proofs.names.add_repeated_names.Goals as goal

pub add_marked-requires : goal.add_marked-requires
add_marked-requires c = c.requires ∙ sym (repeats_length (λ x y. bytes_eq (string_bytes x) (string_bytes y)) [] c.args.names.items) ∙ sym (ap length (c.deref.ensures.value ∙ c.in_ok-flags.ensures.flags))

pub returns : goal.returns
returns c =
    on_ok_weaker c.add_marked.result
    (λ e. e ∙ ap (λ (flags : List Bool). c.args.found.now.items ++ marked kind.ReservedName c.args.tokens.now flags) (c.deref.ensures.value ∙ c.in_ok-flags.ensures.flags ∙ earlier_map string_bytes bytes_eq [] c.args.names.items))
    c.add_marked.ensures
