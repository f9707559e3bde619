use Rattle.std.proofs.Common.{map, length, ◌∙◌, ap, subst, arith}
use Rattle.std.proofs.lemmas.List.{length-map}
use Rattle.proto_names_imports.specs.ImportSteps.{IsFileIndex}
use Rattle.proto_lint.proofs.imports.files_by_path.Goals as goal

pub first_places-requires : goal.first_places-requires
first_places-requires c =
    let paths = length-map c.in_ok-paths.paths.items (λ p. p.now) in
    let files = length-map c.args.files.now (λ f. f.path) in
    omega (arith, paths, files, ap length c.deref.ensures.value, ap length c.in_ok-paths.ensures, c.len-count.ensures.workspace.few)

pub returns : goal.returns
returns c = subst (IsFileIndex c.in_ok-index.index) (ap (map (λ p. p.now)) c.deref.ensures.value ∙ c.in_ok-paths.ensures) c.in_ok-index.ensures
