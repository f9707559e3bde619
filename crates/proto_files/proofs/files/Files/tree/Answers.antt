use Rattle.std.proofs.Common.{◌<◌, List, length, ap, subst, arith}
use Rattle.proto_text.specs.declared.lexer.Token.{Token}
use Rattle.proto_text.specs.Tokens.{AreTokens}
use Rattle.proto_tree.proofs.Common.{tree_of_file, ReadsIn}
use Rattle.proto_files.specs.GivenFiles.{FileOf, file_at}
use Rattle.proto_files.proofs.LeastOfFiles.{tree_at, length-read_files}
use Rattle.proto_files.proofs.files.Files.tree.Goals as goal

pub returns : goal.returns
returns c =
    let files = c.self.inside.files.items in
    let within : c.args.place < length files = omega (arith, length-read_files files, ap length c.self.view_is, c.requires) in
    subst (λ (fs : List FileOf). (tokens : List Token) → AreTokens (file_at fs c.args.place).bytes tokens → ReadsIn (file_at fs c.args.place).profile (file_at fs c.args.place).bytes tokens (tree_of_file c.index.result.now.tree)) c.self.view_is
    (tree_at files c.args.place c.index.result.now c.self.invariant.read within c.index.ensures)
