use Rattle.std.proofs.Common.{refl}
use Rattle.proto_descriptors_json.proofs.key_order.keys_rise.Goals as goal

pub returns : goal.returns
returns c = record {
  files = λ f. refl;
  file_options = λ o. refl;
  messages = λ m nested. refl;
  message_options = λ o. refl;
  ranges = λ r. refl;
  fields = λ f. refl;
  field_options = λ o. refl;
  enums = λ e. refl;
  enum_options = λ o. refl;
  enum_values = λ v. refl;
  enum_value_options = λ o. refl;
  enum_ranges = λ r. refl;
  services = λ s. refl;
  service_options = λ o. refl;
  methods = λ m. refl;
  method_options = λ o. refl;
}
