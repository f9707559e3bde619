use Rattle.std.proofs.Common.{[], ◌∷◌, ◌++◌, codes, decimal, sym, ap, ◌∙◌, append_assoc}
use Rattle.proto_edit_statements.proofs.deleting.reservation.Goals as goal

pub returns : goal.returns
returns c = c.in_ok-format.ensures.ok ∙ ap (λ z. codes "reserved " ++ (decimal c.args.number ++ (codes "; reserved " ++ 34 ∷ z))) (sym (append_assoc c.args.name.now (34 ∷ []) (59 ∷ [])))
