use Rattle.proto_text.proofs.Values.{strings_have_values, one_value, value_is_value_of}
use Rattle.proto_text.proofs.laws.strings_have_one_value.Goals as goal

pub returns : goal.returns
returns c = record { some = strings_have_values; one = one_value; found = value_is_value_of }
