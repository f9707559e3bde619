use Rattle.std.proofs.Common.{ℕ, List, ◌∷◌, map, length, sym, ap, ◌∙◌, arith}
use Rattle.std.proofs.lemmas.List.{length-map}
use Rattle.proto_tree.specs.References.{dotted}
use Rattle.proto_tree.specs.declared.tree.Behind.{Behind}
use Rattle.proto_edit_rename.specs.StandingTokens.{from_end}
use Rattle.proto_edit_rename.proofs.EndTokens.{end_behind, none_at_end}
use Rattle.proto_edit_rename.proofs.standing.from_end.Goals as goal

pub returns-then-behind-rest : goal.returns-then-behind-rest
returns-then-behind-rest c =
    end_behind c.args.words.now.first c.as_slice-rest.result.now c.args.behind (record { separator = 0; item = 0 }) c.if-behind-rest.true
    ∙ ap (λ (z : List (Behind ℕ)). from_end c.args.behind (c.args.words.now.first ∷ map (λ b. b.item) z)) c.as_slice-rest.ensures

pub returns-else-behind-rest-2 : goal.returns-else-behind-rest-2
returns-else-behind-rest-2 c =
    let many = length-map c.args.words.now.rest (λ (b : Behind ℕ). b.item) in
    let same = ap length c.as_slice-rest.ensures in
    let a = c.if-behind-rest.false in
    let b = c.if-behind-rest-2.false in
    sym (none_at_end (dotted c.args.words.now) c.args.behind (omega (arith, many, same, a, b)))
