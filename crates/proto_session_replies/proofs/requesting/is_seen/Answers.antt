use Rattle.std.proofs.Common.{◌≡◌, string_bytes, rules}
use Rattle.proto_files.specs.GivenFiles.{file_at}
use Rattle.proto_session_replies.proofs.SeenFiles.{seen_there}
use Rattle.proto_session_replies.proofs.requesting.is_seen.Goals as goal

pub returns-then-eq : goal.returns-then-eq
returns-then-eq c = λ yes_.
    (let f = file_at c.args.files.now c.args.file in
    let x = c.seen-item.result in
    let path : f.path ≡ string_bytes x.0 = search rules in
    let bytes : f.bytes ≡ x.1.items = search rules in
    let profile : f.profile ≡ c.args.view.now.profile = search rules in
    seen_there c.args.view.now.profile c.args.view.now.files.now c.loop-seen.seen-index x f c.loop-seen-test.true c.seen-item.is path bytes profile)
