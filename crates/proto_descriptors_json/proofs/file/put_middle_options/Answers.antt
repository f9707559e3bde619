use Rattle.proto_descriptors_json.proofs.Sending.{option_map-option_map, optioned}
use Rattle.proto_descriptors_json.specs.JsonText.{json_string}
use Rattle.std.proofs.Common.{string_bytes}
use Rattle.std.proofs.lemmas.Result.{IfOk-weaker}
use Rattle.proto_descriptors_json.proofs.file.put_middle_options.Goals as goal

pub returns : goal.returns
returns g c =
    IfOk-weaker c.put_option-5.result _ _ (λ is_open sent last rest.
    (optioned (option_map-option_map json_string string_bytes c.args.options.now.objc_class_prefix) (c.in_ok-is_open.ensures _ _
    (c.in_ok-is_open-2.ensures _ _
    (optioned (option_map-option_map json_string string_bytes c.args.options.now.php_class_prefix) (c.in_ok-is_open-3.ensures _ _
    (c.in_ok-is_open-4.ensures _ _
    (optioned (option_map-option_map json_string string_bytes c.args.options.now.php_metadata_namespace) (sent _ _
    rest)))))))))
    c.put_option-5.ensures
