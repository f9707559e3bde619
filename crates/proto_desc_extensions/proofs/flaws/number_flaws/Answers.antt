use Rattle.std.proofs.Common.{◌≡◌, [], map, replicate, sym, ap, ◌∙◌}
use Rattle.proto_base.proofs.Common.{IfOk-weaker}
use Rattle.proto_desc_extensions.specs.Common.{AreNumberFlaws}
use Rattle.proto_desc_extensions.proofs.NoExtensions.{none_wrong}
use Rattle.proto_desc_extensions.proofs.flaws.number_flaws.Goals as goal

pub returns-then-not-some_has_extend : goal.returns-then-not-some_has_extend
returns-then-not-some_has_extend c =
    IfOk-weaker c.no_flaws.result (λ found. map (λ v. v.items) found.items ≡ replicate c.file_count.result []) (λ found. AreNumberFlaws c.args.linked.now.files found.items)
    (λ found empty. none_wrong c.args.linked.now.files found.items (empty ∙ ap (λ n. replicate n []) c.file_count.ensures.len)
    (λ reads are. sym c.if-not-some_has_extend.true ∙ (rw c.files-files.ensures.files at c.some_has_extend.ensures) reads are)) c.no_flaws.ensures
