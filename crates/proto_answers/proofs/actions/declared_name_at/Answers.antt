use Rattle.std.proofs.Common.{List, ℕ, string_bytes, subst, sym}
use Rattle.proto_answers.specs.Common.{IsDeclaring, MayBeRenamed}
use Rattle.proto_answers.proofs.DeclaredThere.{declared_there, none_declared, not_declared_there}
use Rattle.proto_answers.proofs.NamedTokens.{compiled_is_linked, stands_for_target}
use Rattle.proto_answers.proofs.actions.declared_name_at.Goals as goal

pub returns-in_default : goal.returns-in_default
returns-in_default c = none_declared c.args.workspace.now c.args.spot (rw c.in_default.is at c.in_ok-found.ensures)

pub declaring_token-requires : goal.declaring_token-requires
declaring_token-requires c =
    let s = rw c.in-Some.is at c.in_ok-found.ensures in
    subst (MayBeRenamed c.args.workspace.now) (sym c.as_str.ensures.value) (stands_for_target c.args.workspace.now c.args.spot c.in-Some.found.token (string_bytes c.in-Some.found.name) s)

pub returns-then-is_at : goal.returns-then-is_at
returns-then-is_at c =
    let w = c.args.workspace.now in
    let t = c.in-Some.found in
    let s = rw c.in-Some.is at c.in_ok-found.ensures in
    let declaring = c.in_ok-declaring.declaring in
    let is = subst (λ (n : List ℕ). IsDeclaring w n declaring) c.as_str.ensures.value c.in_ok-declaring.ensures in
    declared_there w c.args.spot t.token (string_bytes t.name) s.0 s.1 s.2 declaring is c.is_at.result c.is_at.ensures c.if-is_at.true

pub returns-else-is_at : goal.returns-else-is_at
returns-else-is_at c =
    let w = c.args.workspace.now in
    let t = c.in-Some.found in
    let s = rw c.in-Some.is at c.in_ok-found.ensures in
    let declaring = c.in_ok-declaring.declaring in
    let is = subst (λ (n : List ℕ). IsDeclaring w n declaring) c.as_str.ensures.value c.in_ok-declaring.ensures in
    not_declared_there w c.args.spot t.token (string_bytes t.name) s.0 s.1 s.2 declaring is c.is_at.result c.is_at.ensures (compiled_is_linked w c.files.ensures.compiled) c.if-is_at.false
