use Rattle.proto_lint.proofs.linting.Linter.new.Goals as goal

pub returns-clause-linter : goal.returns-clause-linter
returns-clause-linter c = record {
  heads_are = rw c.files-files.ensures.files at c.in_ok-heads.ensures;
  imports_are = rw c.files-files.ensures.files at c.in_ok-imports.ensures;
  messages_are = c.in_ok-messages.ensures;
}
