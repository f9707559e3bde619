use Rattle.std.proofs.Common.{◌∙◌, int_eq}
use Rattle.proto_desc_numbers.proofs.FlawLists.{flags_length}
use Rattle.proto_desc_numbers.proofs.numbers.add_repeated_fields.Goals as goal

pub add_marked-requires : goal.add_marked-requires
add_marked-requires c = flags_length int_eq (λ n. n.token) (λ n. n.number) c.args.numbers.now c.deref.result.now c.deref-2.result.now (c.deref.ensures.value ∙ c.in_ok-tokens.ensures) (c.deref-2.ensures.value ∙ c.in_ok-flags.ensures)
