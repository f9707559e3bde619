use Rattle.std.proofs.Common.{subst, ◌↔◌, ◌≡◌, Bool, true, sym}
use Rattle.proto_edit_rules.specs.Options.{HasWritten}
use Rattle.proto_option_values.proofs.WrittenFiles.{some_written}
use Rattle.proto_option_values.proofs.fixed.has_written.Goals as goal

pub returns : goal.returns
returns c = subst (λ (r : Bool). (r ≡ true) ↔ HasWritten c.args.files.now) (sym c.some_is_written.ensures) (some_written c.args.files.now)
