use Rattle.std.proofs.Common.{◌≡◌, ◌<◌, List, length, string_bytes, subst, sym}
use Rattle.proto_files.proofs.Common.{AreRead, FileOf}
use Rattle.proto_answers.specs.Common.{MayBeRenamed, at_token, location_of}
use Rattle.proto_answers.proofs.NamedTokens.{stands_for_target}
use Rattle.proto_answers.proofs.definitions.definition_at.Goals as goal

pub returns-in_default : goal.returns-in_default
returns-in_default c = rw c.in_default.is at c.in_ok-found.ensures

pub declaring_token-requires : goal.declaring_token-requires
declaring_token-requires c =
    let s = rw c.in-Some.is at c.in_ok-found.ensures in
    subst (MayBeRenamed c.args.workspace.now) (sym c.as_str.ensures.value) (stands_for_target c.args.workspace.now c.args.spot c.in-Some.found.token (string_bytes c.in-Some.found.name) s)

pub location_of-location-requires : goal.location_of-location-requires
location_of-location-requires c = subst (λ (w : List FileOf). c.in_ok-declaring.declaring.file < length w) (sym c.files-files.ensures.files) c.in_ok-declaring.ensures.within

pub returns : goal.returns
returns c =
    let s = rw c.in-Some.is at c.in_ok-found.ensures in
    let e = c.args.encoding in
    let reads = s.0 in
    let t = at_token c.in_ok-declaring.declaring in
    let declares = rw c.as_str.ensures.value at (c.in_ok-declaring.ensures.declares reads s.1) in
    let there = c.location_of-location.ensures reads (subst (λ (w : List FileOf). AreRead w reads) (sym c.files-files.ensures.files) s.1) in
    (reads, s.1, c.in-Some.found.token, string_bytes c.in-Some.found.name, t, s.2, declares, subst (λ (w : List FileOf). c.location_of-location.result ≡ location_of e w reads t) c.files-files.ensures.files there)
