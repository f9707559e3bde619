use Rattle.proto_descriptors_json.proofs.Sending.{option_map-option_map, optioned}
use Rattle.proto_descriptors_json.specs.JsonText.{json_string}
use Rattle.std.proofs.Common.{string_bytes}
use Rattle.std.proofs.lemmas.Result.{on_ok_weaker}
use Rattle.proto_descriptors_json.proofs.file.put_later_options.Goals as goal

pub returns : goal.returns
returns g c =
    on_ok_weaker c.close.result (λ ends.
    (optioned (option_map-option_map json_string string_bytes c.args.options.now.php_namespace) (c.in_ok-is_open.ensures _ _
    (c.in_ok-is_open-2.ensures _ _
    (optioned (option_map-option_map json_string string_bytes c.args.options.now.ruby_package) (c.in_ok-is_open-3.ensures _ _
    (optioned (option_map-option_map json_string string_bytes c.args.options.now.swift_prefix) (c.in_ok-is_open-4.ensures _ _
    ends))))))))
    c.close.ensures
