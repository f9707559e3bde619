-- A target stands in one of the files (for the crates above).
use Rattle.std.proofs.Common.{◌<◌, List, length, sym, ap, subst, inl}
use Rattle.proto_files.proofs.Common.{FileOf, AreRead, ReadOf}
use Rattle.proto_names_rules.specs.Grown.{At}
use Rattle.proto_edit_captures.proofs.Common.{Target, tokens_are_inside, IsFoundTarget}
use Rattle.proto_edit_captures.specs.declared.rename_target.RenameTarget.{RenameTarget}

pub aim_inside : (files : List FileOf) (reads : List ReadOf) → AreRead files reads → (a : RenameTarget) (t : Target) → IsFoundTarget files reads a t → a.file < length files
aim_inside files reads are a t h =
    let i = tokens_are_inside files reads are t.token (inl (t.aim, h.named.within, (t.above, inl h.named.path))) in
    subst (λ f. f < length files) (sym (ap (λ (z : At). z.file) h.token)) i.0
