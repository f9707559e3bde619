use Rattle.std.proofs.Common.{map, subst}
use Rattle.std.specs.Prelude.{IfOk}
use Rattle.proto_session_files.specs.Views.{ViewOf}
use Rattle.proto_session_told.specs.Telling.{IsToldOf, told_of}
use Rattle.proto_session.specs.Changes.{changed}
use Rattle.proto_session.specs.Sessions.{session_of}
use Rattle.proto_session.proofs.SeenSessions.{view_is}
use Rattle.proto_session.proofs.server.told_after.Goals as goal

pub returns : goal.returns
returns c =
    let seen = view_is (changed (session_of c.args.session.now) c.args.change.now) _ c.encoding_after.result c.disk_after.result.now c.in_ok-files.files.items c.as_slice.result.now c.opened_after-opened.result.now
    c.home_after.ensures c.encoding_after.ensures c.disk_after.ensures c.opened_after-opened.ensures c.in_ok-files.ensures c.as_slice.ensures.value in
    subst (λ (v : ViewOf). IfOk c.to_be_told.result (λ told. IsToldOf v (map told_of told.items))) seen c.to_be_told.ensures
