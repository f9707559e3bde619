use Rattle.std.proofs.Common.{◌++◌, ◌∷◌, [], ℕ, List, Bor, map, ap, ◌∙◌, arith}
use Rattle.proto_base.proofs.Common.{map_push}
use Rattle.proto_base.proofs.Turns.{listed_all, listed_more}
use Rattle.proto_files.specs.GivenFiles.{FileOf, file_of}
use Rattle.proto_all_faults.proofs.paths.given_paths.Goals as goal

pub loop-file-preserved : goal.loop-file-preserved
loop-file-preserved c =
    let said = λ (p : Bor (List ℕ)). p.now in
    listed_more (λ (f : FileOf). f.path) file_of c.args.given.now c.loop-file.file-index c.file-item.result c.file-item.result (map said c.loop-file.paths.items) (map said c.push.new.self.items) c.loop-file-test.true c.file-item.is
    (ap (map said) c.in_ok-push.ensures.items ∙ map_push said c.loop-file.paths.items c.as_str.result ∙ ap (λ (t : List ℕ). map said c.loop-file.paths.items ++ t ∷ []) c.as_str.ensures.value)
    c.loop-file.invariant

pub returns : goal.returns
returns c = listed_all (λ (f : FileOf). f.path) file_of c.args.given.now c.loop-file.file-index (map (λ (p : Bor (List ℕ)). p.now) c.loop-file.paths.items) (omega (arith, c.loop-file-test.false)) c.loop-file.invariant
