use Rattle.std.proofs.Common.{ℕ, List, Option, sym, ap, ◌∙◌}
use Rattle.proto_text.specs.Values.{is_value, value_of}
use Rattle.proto_files.proofs.StringsAt.{no_value, value_there}
use Rattle.proto_files.proofs.words.Words.says.Goals as goal

pub returns-then-has_string : goal.returns-then-has_string
returns-then-has_string c =
    let value = c.args.value.now in
    c.stands_for.ensures.test
    ∙ ap (λ (text : List ℕ). is_value (value_of text) value) c.get.ensures
    ∙ ap (λ (o : Option (List ℕ)). is_value o value) (sym (value_there c.args.self.now c.args.index (sym c.has_string.ensures ∙ c.if-has_string.true)))

pub returns-else-has_string : goal.returns-else-has_string
returns-else-has_string c = c.if-has_string.false ∙ sym (ap (λ (o : Option (List ℕ)). is_value o c.args.value.now) (no_value c.args.self.now c.args.index (sym c.has_string.ensures ∙ c.if-has_string.false)))
