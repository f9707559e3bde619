use Rattle.std.proofs.Common.{ℕ, List, Bor, map, ap, ◌∙◌}
use Rattle.proto_lint_names.specs.Methods.{is_shared}
use Rattle.proto_lint_names.proofs.Twice.{shared_of_moved}
use Rattle.proto_lint_names.proofs.shared.Messages.is_shared.Goals as goal

pub returns : goal.returns
returns c =
    let name = c.args.name.now in
    c.stands_twice.ensures ∙ ap (λ (ss : List (Bor (List ℕ))). is_shared (map (λ s. s.now) ss) name) c.deref.ensures.value
    ∙ shared_of_moved (λ s. s.now) name c.self.inside.all.items c.self.inside.sorted.items c.self.invariant.0 ∙ ap (λ (all : List (List ℕ)). is_shared all name) c.self.view_is
