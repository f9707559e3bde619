use Rattle.std.proofs.Common.{List, ℕ, string_bytes, subst, sym}
use Rattle.proto_answers.specs.Common.{AreReferences, MayBeRenamed}
use Rattle.proto_answers.proofs.NamedTokens.{stands_for_target}
use Rattle.proto_answers.proofs.references.references_at.Goals as goal

pub returns-in_default : goal.returns-in_default
returns-in_default c = rw c.in_default.is at c.in_ok-found.ensures

pub left_out_token-requires : goal.left_out_token-requires
left_out_token-requires c =
    let s = rw c.in-Some.is at c.in_ok-found.ensures in
    subst (MayBeRenamed c.args.workspace.now) (sym c.as_str-name.ensures.value) (stands_for_target c.args.workspace.now c.args.spot c.in-Some.found.token (string_bytes c.in-Some.found.name) s)

pub locations_of_name-requires : goal.locations_of_name-requires
locations_of_name-requires c =
    let s = rw c.in-Some.is at c.in_ok-found.ensures in
    subst (MayBeRenamed c.args.workspace.now) (sym c.as_str-name.ensures.value) (stands_for_target c.args.workspace.now c.args.spot c.in-Some.found.token (string_bytes c.in-Some.found.name) s)

pub returns : goal.returns
returns c =
    let w = c.args.workspace.now in
    let s = rw c.in-Some.is at c.in_ok-found.ensures in
    let l = c.in_ok-locations.ensures s.0 s.1 c.args.with_declaration c.in_ok-left_out.ensures in
    (s.0, s.1, c.in-Some.found.token, string_bytes c.in-Some.found.name, l.0, s.2, subst (λ (n : List ℕ). AreReferences w s.0 n c.args.with_declaration l.0) c.as_str-name.ensures.value l.1, l.2)
