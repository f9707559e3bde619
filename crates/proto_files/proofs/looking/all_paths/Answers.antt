use Rattle.std.proofs.Common.{◌<◌, [], ◌∷◌, ◌++◌, length, map, take, sym, ◌∙◌, ap, arith}
use Rattle.std.proofs.lemmas.List.{get_or-map, length-map, map-append, take_more}
use Rattle.proto_files.specs.GivenFiles.{no_file, paths_of}
use Rattle.proto_files.proofs.looking.all_paths.Goals as goal

pub loop-file-preserved : goal.loop-file-preserved
loop-file-preserved c =
    let files = c.args.files.now in
    let file = c.loop-file.file in
    let within : file < length files = omega (arith, c.loop-file-test.true, c.len-file-end.ensures.len) in
    let path = c.path.ensures ∙ sym (get_or-map (λ f. f.path) files file no_file [] within) in
    ap (map (λ p. p.now)) c.in_ok-push.ensures.items
    ∙ map-append (λ p. p.now) c.loop-file.paths.items (c.path.result ∷ [])
    ∙ ap (λ ps. ps ++ c.path.result.now ∷ []) c.loop-file.invariant
    ∙ ap (λ p. take file (paths_of files) ++ p ∷ []) path
    ∙ sym (take_more (paths_of files) file [] (omega (arith, within, length-map files (λ f. f.path))))
