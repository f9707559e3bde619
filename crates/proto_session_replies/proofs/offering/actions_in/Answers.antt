use Rattle.std.proofs.Common.{inl, inr, refl}
use Rattle.std.proofs.lemmas.Result.{IfOk-weaker}
use Rattle.proto_session_files.specs.Views.{view_at}
use Rattle.proto_session_replies.specs.Edits.{start_of}
use Rattle.proto_session_replies.proofs.AskedSpots.{spot_of, spot_within}
use Rattle.proto_session_replies.proofs.offering.actions_in.Goals as goal

pub actions_at-requires : goal.actions_at-requires
actions_at-requires c =
    let v = view_at c.args.view.now in
    let w = c.args.workspace.now in
    let asked = start_of c.args.uri.now c.args.range in
    spot_within v w asked c.in-Some.spot (rw c.in-Some.is at (spot_of v c.files.result.now w asked c.args.uri.now c.files.ensures.files refl c.in_ok-spot.field-0 c.in_ok-spot.ensures))

pub returns-in-Some : goal.returns-in-Some
returns-in-Some c =
    let v = view_at c.args.view.now in
    let w = c.args.workspace.now in
    let asked = start_of c.args.uri.now c.args.range in
    let at = rw c.in-Some.is at (spot_of v c.files.result.now w asked c.args.uri.now c.files.ensures.files refl c.in_ok-spot.field-0 c.in_ok-spot.ensures) in
    IfOk-weaker c.actions_at.result _ _ (λ actions h. inr (w, c.requires, inr (c.in-Some.spot, at, h.0, h.1, h.2))) c.actions_at.ensures

pub returns-in-None : goal.returns-in-None
returns-in-None c =
    let v = view_at c.args.view.now in
    let w = c.args.workspace.now in
    let asked = start_of c.args.uri.now c.args.range in
    inr (w, c.requires, inl (rw c.in-None.is at (spot_of v c.files.result.now w asked c.args.uri.now c.files.ensures.files refl c.in_ok-spot.field-0 c.in_ok-spot.ensures), c.new.ensures.items))
