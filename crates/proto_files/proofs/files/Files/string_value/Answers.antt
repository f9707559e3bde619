use Rattle.proto_files.proofs.OwnTokens.{own_string}
use Rattle.proto_files.proofs.files.Files.string_value.Goals as goal

pub string_value-requires : goal.string_value-requires
string_value-requires c = own_string c.args.self.now c.args.file c.args.token c.token_text.result.now c.requires.token c.token_text.ensures.slice
