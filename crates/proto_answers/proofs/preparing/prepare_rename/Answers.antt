use Rattle.std.proofs.Common.{◌≡◌, ◌<◌, List, length, subst, sym, string_bytes}
use Rattle.proto_files.proofs.Common.{AreRead, FileOf}
use Rattle.proto_names_imports.proofs.Common.{text_of}
use Rattle.proto_names_rules.specs.Grown.{at}
use Rattle.proto_answers.specs.Common.{location_of}
use Rattle.proto_answers.proofs.NamedTokens.{file_is_there}
use Rattle.proto_answers.proofs.preparing.prepare_rename.Goals as goal

pub returns-in_default : goal.returns-in_default
returns-in_default c = rw c.in_default.is at c.in_ok-found.ensures

pub prepared_at-requires : goal.prepared_at-requires
prepared_at-requires c =
    let s = rw c.in-Some.is at c.in_ok-found.ensures in
    subst (λ (w : List FileOf). c.args.spot.file < length w) (sym c.files.ensures.files)
    (file_is_there c.args.workspace.now s.0 s.1 c.args.spot.file c.args.spot.offset c.in-Some.found.token s.2.this.there)

pub returns : goal.returns
returns c =
    let s = rw c.in-Some.is at c.in_ok-found.ensures in
    let e = c.args.encoding in
    let p = c.in_ok-word.word in
    let reads = s.0 in
    let a = at c.args.spot.file c.in-Some.found.token in
    let said = c.in_ok-word.ensures reads (subst (λ (w : List FileOf). AreRead w reads) (sym c.files.ensures.files) s.1) in
    let mine = subst (λ (w : List FileOf). (p.location ≡ location_of e w reads a) × (string_bytes p.word ≡ text_of w reads a)) c.files.ensures.files said in
    (reads, s.1, c.in-Some.found.token, string_bytes c.in-Some.found.name, s.2, mine.0, mine.1)
