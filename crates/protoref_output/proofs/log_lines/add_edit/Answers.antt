use Rattle.std.proofs.Common.{sym}
use Rattle.protoref_output.proofs.log_lines.add_edit.Goals as goal

pub returns-in-AddImport : goal.returns-in-AddImport
returns-in-AddImport c = rw (c.in-AddImport.is, sym c.as_str-in-AddImport.ensures.value, sym c.as_str-in-AddImport-2.ensures.value) c.add_two-in-AddImport.ensures
