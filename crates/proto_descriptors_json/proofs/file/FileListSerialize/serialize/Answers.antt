use Rattle.proto_descriptors.proofs.Common.{map_both, file_desc}
use Rattle.proto_descriptors_json.proofs.Sending.{last, listed, object_sent}
use Rattle.proto_descriptors_json.specs.DescriptorText.{file_text}
use Rattle.std.proofs.lemmas.Result.{on_ok_weaker}
use Rattle.proto_descriptors_json.proofs.file.FileListSerialize.serialize.Goals as goal

pub returns : goal.returns
returns g c =
    on_ok_weaker c.end_map.result (object_sent _ c.in_ok-begin_map.ensures
    (last (listed (map_both file_text file_desc c.args.self.now.files.now) c.in_ok-put_list.ensures)))
    c.end_map.ensures
