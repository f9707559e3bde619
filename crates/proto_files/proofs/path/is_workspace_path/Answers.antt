use Rattle.proto_files.proofs.WorkspacePathTest.{is_path_by_test}
use Rattle.proto_files.proofs.path.is_workspace_path.Goals as goal

pub returns-clause-valid : goal.returns-clause-valid
returns-clause-valid c = is_path_by_test c.args.path.now c.passes.result c.passes.ensures
