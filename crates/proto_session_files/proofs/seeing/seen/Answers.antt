use Rattle.std.proofs.Common.{◌≡◌, List, map, string_bytes, take_all, ap, ◌∙◌, rules}
use Rattle.proto_base.specs.GivenFiles.{files_of}
use Rattle.proto_base.specs.declared.profile.Profile.TheVariants.{Core}
use Rattle.proto_session_files.specs.Views.{open_of, seen_over}
use Rattle.proto_session_files.specs.declared.open_text.OpenText.{OpenText}
use Rattle.proto_session_files.proofs.InLanguage.{seen_in}
use Rattle.proto_session_files.proofs.LaidTexts.{seen_more}
use Rattle.proto_session_files.proofs.seeing.seen.Goals as goal

pub loop-open-preserved : goal.loop-open-preserved
loop-open-preserved c =
    let x = c.open-item.result in
    let path : string_bytes c.in_ok-path.path ≡ string_bytes x.path = search rules in
    let bytes : c.in_ok-bytes.bytes.items ≡ string_bytes x.text = search rules in
    seen_more (files_of c.args.disk.now) (files_of c.loop-open.files.items) c.args.opened.now c.loop-open.open-index x x _ _ _ c.loop-open-test.true c.open-item.is path bytes c.in_ok-lay.ensures c.loop-open.invariant

pub returns : goal.returns
returns c = λ p.
    seen_in p c.loop-open.files.items c.args.disk.now (map open_of c.args.opened.now)
    (c.loop-open.invariant ∙ ap (λ (xs : List OpenText). seen_over Core (files_of c.args.disk.now) (map open_of xs)) (take_all c.loop-open.open-index c.args.opened.now c.loop-open-test.false))
