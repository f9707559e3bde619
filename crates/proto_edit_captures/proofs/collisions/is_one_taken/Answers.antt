use Rattle.std.proofs.Common.{List, ℕ, Bor, option_map, ap}
use Rattle.proto_edit_captures.proofs.IfOks.{second_taken}
use Rattle.proto_edit_captures.proofs.collisions.is_one_taken.Goals as goal

pub returns-in-Some : goal.returns-in-Some
returns-in-Some c =
    let entry = option_map (λ (x : Bor (List ℕ)). x.now) c.args.old.now.entry in
    second_taken c.args.link.now c.args.old.now.front.now c.args.old.now.own.now entry c.args.to.now c.in-Some.new_entry.now (option_map (λ (x : Bor (List ℕ)). x.now) c.args.new_entry) (ap (option_map (λ (x : Bor (List ℕ)). x.now)) c.in-Some.is)
    c.in_ok-is_taken.field-0 c.in_ok-is_taken.ensures c.if-branch.false c.is_taken-in-Some.result c.is_taken-in-Some.ensures
