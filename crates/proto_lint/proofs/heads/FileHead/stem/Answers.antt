use Rattle.std.proofs.Common.{sym, subst}
use Rattle.proto_lint.proofs.HeadLists.{name_ends}
use Rattle.proto_lint.specs.Heads.{IsProtoPath}
use Rattle.proto_lint.proofs.heads.FileHead.stem.Goals as goal

pub unreachable-requires : goal.unreachable-requires
unreachable-requires c =
    let ends = subst IsProtoPath (sym c.file_name_of.ensures) (name_ends c.self.inside.path.now c.self.invariant.1) in
    c.in-None.ensures.cases ends.0 ends.1
