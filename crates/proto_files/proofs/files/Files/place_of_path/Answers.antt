use Rattle.std.proofs.Common.{List, Ok, Err, position, bytes_eq, rules, of_calls, string_bytes, sym, ◌∙◌, ap, subst}
use Rattle.std.proofs.lemmas.Fn.{always_returns_same}
use Rattle.proto_files.specs.Common.{ReadFile, AreWorkspaceFiles, FileOf, paths_of, path_cmp, read_files}
use Rattle.proto_files.proofs.FoundPath.{place_found}
use Rattle.proto_files.proofs.files.Files.place_of_path.Goals as goal

pub returns-in-Ok : goal.returns-in-Ok
returns-in-Ok c =
    let files = c.deref.result.now in
    let facts = c.in-Ok.ensures in
    let by = facts.position (λ f. path_cmp (string_bytes f.path) c.args.path.now) (always_returns_same _ _ _ (λ a r f called. search (rules, of_calls))) in
    let w = subst (λ (fs : List ReadFile). AreWorkspaceFiles (read_files fs)) (sym c.deref.ensures.value) c.self.invariant.workspace in
    place_found files w c.args.path.now (Ok c.in-Ok.place) facts.bound by
    ∙ ap (λ (fs : List FileOf). position (bytes_eq c.args.path.now) (paths_of fs)) (ap read_files c.deref.ensures.value ∙ c.self.view_is)

pub returns-in-Err : goal.returns-in-Err
returns-in-Err c =
    let files = c.deref.result.now in
    let facts = c.in-Err.ensures in
    let by = facts.position (λ f. path_cmp (string_bytes f.path) c.args.path.now) (always_returns_same _ _ _ (λ a r f called. search (rules, of_calls))) in
    let w = subst (λ (fs : List ReadFile). AreWorkspaceFiles (read_files fs)) (sym c.deref.ensures.value) c.self.invariant.workspace in
    place_found files w c.args.path.now (Err c.in-Err.field-0) facts.bound by
    ∙ ap (λ (fs : List FileOf). position (bytes_eq c.args.path.now) (paths_of fs)) (ap read_files c.deref.ensures.value ∙ c.self.view_is)
