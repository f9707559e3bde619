use Rattle.std.proofs.Common.{◌++◌, ◌∷◌, if◌then◌else◌, get_or, string_bytes, ◌∙◌, ap, arith}
use Rattle.std.specs.Prelude.{◌==◌}
use Rattle.proto_names_table.proofs.PackageTexts.{text_next}
use Rattle.proto_names_table.proofs.packages.package_text.Goals as goal

pub loop-k-preserved : goal.loop-k-preserved
loop-k-preserved c =
    let m = c.loop-k-test.true in
    let n = c.requires in
    c.in_ok-push_word.ensures
    ∙ ap (λ z. string_bytes c.loop-k.text ++ (if c.loop-k.k == 0 then z else 46 ∷ z)) c.as_str.ensures.value
    ∙ text_next c.args.spelled.now c.loop-k.k (get_or c.args.spelled.now c.loop-k.k c.index-spelled-k.result) (string_bytes c.loop-k.text) (omega (arith, m, n)) (ap (get_or c.args.spelled.now c.loop-k.k) c.index-spelled-k.is) c.loop-k.invariant
