use Rattle.std.proofs.Common.{List, Bool, length, ap, subst, ◌≡◌, ◌∙◌, IfOk}
use Rattle.proto_edit_rename.specs.MadeChanges.{marked_tokens}
use Rattle.proto_edit_rename.proofs.FileChanges.{marks_are_as_many}
use Rattle.proto_edit_rename.proofs.changing.marked_at.Goals as goal

pub tokens_with_marks-requires : goal.tokens_with_marks-requires
tokens_with_marks-requires c = ap length (c.deref.ensures.value ∙ c.in_ok-marks.ensures) ∙ marks_are_as_many c.args.tokens.now c.args.places.now

pub returns : goal.returns
returns c = subst (λ (ms : List Bool). IfOk c.tokens_with_marks.result (λ found. found.items ≡ marked_tokens c.args.tokens.now ms)) (c.deref.ensures.value ∙ c.in_ok-marks.ensures) c.tokens_with_marks.ensures
