use Rattle.proto_descriptors_json.proofs.Sending.{option_map-option_map, optioned}
use Rattle.proto_descriptors_json.specs.JsonText.{json_string}
use Rattle.std.proofs.Common.{string_bytes}
use Rattle.std.proofs.lemmas.Result.{IfOk-weaker}
use Rattle.proto_descriptors_json.proofs.file.put_java_options.Goals as goal

pub returns : goal.returns
returns g c =
    IfOk-weaker c.put_option-6.result _ _ (λ is_open sent last rest.
    (c.in_ok-is_open.ensures _ _
    (c.in_ok-is_open-2.ensures _ _
    (c.in_ok-is_open-3.ensures _ _
    (optioned (option_map-option_map json_string string_bytes c.args.options.now.java_outer_classname) (c.in_ok-is_open-4.ensures _ _
    (optioned (option_map-option_map json_string string_bytes c.args.options.now.java_package) (c.in_ok-is_open-5.ensures _ _
    (sent _ _
    rest)))))))))
    c.put_option-6.ensures
