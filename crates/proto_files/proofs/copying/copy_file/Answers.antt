use Rattle.std.proofs.Common.{◌≡◌, ℕ, List, sym, ◌∙◌, subst}
use Rattle.proto_text.specs.declared.lexer.Token.{Token}
use Rattle.proto_text.specs.Tokens.{AreTokens}
use Rattle.proto_tree.proofs.Common.{tree_of_file, ReadsIn}
use Rattle.proto_files.specs.Common.{ReadFile, read_file}
use Rattle.proto_files.proofs.SetFiles.{read_again}
use Rattle.proto_files.proofs.copying.copy_file.Goals as goal

pub parse_as-requires : goal.parse_as-requires
parse_as-requires c =
    let tokens = c.deref.ensures.value ∙ c.in_ok-tokens.ensures.items ∙ c.as_slice.ensures.value in
    subst (λ (text : List ℕ). AreTokens text c.deref.result.now) (sym c.in_ok-source.ensures)
    (subst (λ (ts : List Token). AreTokens c.args.file.now.source ts) (sym tokens) c.requires.reads.tokens_are)

pub returns-in-Ok-clause-same : goal.returns-in-Ok-clause-same
returns-in-Ok-clause-same c = λ i. record { path = (c.in_ok-path.ensures.ok ∙ c.as_str.ensures.value) i; bytes = c.in_ok-source.ensures i; profile = c.args.file.now.profile }

pub returns-in-Ok-clause-read : goal.returns-in-Ok-clause-read
returns-in-Ok-clause-read c =
    let profile = c.args.file.now.profile in
    let copy : ReadFile = record { path = c.in_ok-path.path; source = c.in_ok-source.source; tokens = c.in_ok-tokens.tokens; tree = c.in-Ok.tree; profile = profile } in
    let same : read_file copy ≡ read_file c.args.file.now = λ i. record { path = (c.in_ok-path.ensures.ok ∙ c.as_str.ensures.value) i; bytes = c.in_ok-source.ensures i; profile = profile } in
    read_again c.args.file.now copy c.requires same (c.in_ok-tokens.ensures.items ∙ c.as_slice.ensures.value)
    (subst (λ (ts : List Token). ReadsIn profile copy.source ts (tree_of_file copy.tree)) c.deref.ensures.value c.in-Ok.ensures.found)
