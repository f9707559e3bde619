use Rattle.std.proofs.Common.{length, map, ◌∙◌, ap, subst, arith}
use Rattle.proto_base.proofs.Common.{IfOk-weaker, length-map}
use Rattle.proto_names_imports.specs.Common.{IsFileIndex}
use Rattle.proto_names_faults.proofs.sight.file_index.Goals as goal

pub first_places-requires : goal.first_places-requires
first_places-requires c =
    omega (arith, ap length c.deref.ensures.value, ap length c.in_ok-paths.ensures, length-map c.in_ok-paths.paths.items (λ p. p.now), length-map c.args.files.now (λ f. f.path), c.len-count.ensures.workspace.few)

pub returns : goal.returns
returns c = IfOk-weaker c.first_places.result _ _ (λ index h. subst (IsFileIndex index) (ap (map (λ p. p.now)) c.deref.ensures.value ∙ c.in_ok-paths.ensures) h) c.first_places.ensures
