use Rattle.std.proofs.Common.{find, option_map, string_bytes, sym, ap, ◌∙◌}
use Rattle.proto_base.proofs.Common.{Path}
use Rattle.proto_base.specs.GivenFiles.{file_of, file_of_as, files_of}
use Rattle.proto_session_files.specs.Views.{view_at}
use Rattle.proto_session_replies.specs.Symbols.{has_path}
use Rattle.proto_session_replies.proofs.InLanguage.{found_in, none_in}
use Rattle.proto_session_replies.proofs.SentSymbols.{asked_there, null_faulty, null_there, null_unnamed}
use Rattle.proto_session_replies.proofs.symbols.symbols_reply.Goals as goal

pub returns-in_default : goal.returns-in_default
returns-in_default c = null_unnamed (view_at c.args.view.now) c.args.uri.now (sym c.in_ok-path.ensures ∙ ap (option_map string_bytes) c.in_default.is)

pub returns-in_default-file_at : goal.returns-in_default-file_at
returns-in_default-file_at c =
    let xs = c.args.view.now.files.now in
    let named = sym c.in_ok-path.ensures ∙ ap (option_map string_bytes) c.in-Some.is in
    let none = none_in c.args.view.now.profile (string_bytes c.in-Some.path) xs (sym (ap (option_map (λ file. file_of file.now)) c.in_default-file_at.is) ∙ (c.file_at.ensures ∙ ap (λ (q : Path). find (has_path q) (files_of xs)) c.as_str.ensures.value)) in
    null_there (view_at c.args.view.now) c.args.uri.now (string_bytes c.in-Some.path) named none

pub returns-in-Some-2 : goal.returns-in-Some-2
returns-in-Some-2 c =
    let v = view_at c.args.view.now in
    let p = c.args.view.now.profile in
    let xs = c.args.view.now.files.now in
    let x = c.in-Some-file_at.file.now in
    let named = sym c.in_ok-path.ensures ∙ ap (option_map string_bytes) c.in-Some.is in
    let found = found_in p (string_bytes c.in-Some.path) xs x (sym (ap (option_map (λ file. file_of file.now)) c.in-Some-file_at.is) ∙ (c.file_at.ensures ∙ ap (λ (q : Path). find (has_path q) (files_of xs)) c.as_str.ensures.value)) in
    let said = rw c.in-Some-2.is at c.in_ok-sent.ensures.some in
    (file_of_as p x, asked_there v c.args.uri.now (string_bytes c.in-Some.path) (file_of_as p x) named found, said.0, said.1, said.2)

pub returns : goal.returns
returns c =
    let v = view_at c.args.view.now in
    let p = c.args.view.now.profile in
    let xs = c.args.view.now.files.now in
    let x = c.in-Some-file_at.file.now in
    let named = sym c.in_ok-path.ensures ∙ ap (option_map string_bytes) c.in-Some.is in
    let found = found_in p (string_bytes c.in-Some.path) xs x (sym (ap (option_map (λ file. file_of file.now)) c.in-Some-file_at.is) ∙ (c.file_at.ensures ∙ ap (λ (q : Path). find (has_path q) (files_of xs)) c.as_str.ensures.value)) in
    null_faulty v c.args.uri.now (string_bytes c.in-Some.path) (file_of_as p x) named found (c.in_ok-sent.ensures.none c.in-None.is)
