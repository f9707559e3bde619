use Rattle.std.proofs.Common.{[], ◌∷◌, Some, None, append-nil, sym, rules}
use Rattle.proto_session_replies.proofs.offering.add_deletion.Goals as goal

pub returns-in_default : goal.returns-in_default
returns-in_default c = (None, rw c.in_default.is at c.in_ok-edits.ensures, [], sym (append-nil c.args.actions.now.items), tt)

pub returns : goal.returns
returns c = (Some c.in-Some.edits, rw c.in-Some.is at c.in_ok-edits.ensures, c.in_ok-action.field-0 ∷ [], c.in_ok-push.ensures.items, search rules)
