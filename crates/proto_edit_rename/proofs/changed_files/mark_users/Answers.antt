use Rattle.std.proofs.Common.{List, ℕ, Bor, option_map, sym, ap, ◌∙◌}
use Rattle.proto_base.proofs.Common.{none-some}
use Rattle.proto_edit_rename.proofs.changed_files.mark_users.Goals as goal

pub returns-in-Some-clause-users : goal.returns-in-Some-clause-users
returns-in-Some-clause-users c = λ row name is said. c.mark_named.ensures.users row (said ∙ sym is ∙ ap (option_map (λ (x : Bor (List ℕ)). x.now)) c.in-Some.is)

pub returns-in-None-clause-users : goal.returns-in-None-clause-users
returns-in-None-clause-users c = λ row name is said. absurd (none-some name (sym (ap (option_map (λ (x : Bor (List ℕ)). x.now)) c.in-None.is) ∙ is))
