-- Names that clash are the faults of names of files.
use Rattle.std.proofs.Common.{◌≡◌, List, map, ◌∙◌, ap, subst}
use Rattle.proto_base.proofs.Common.{Vec}
use Rattle.proto_files.proofs.Common.{AreRead, FileOf, ReadOf}
use Rattle.proto_names_rules.proofs.Common.{NameFault}
use Rattle.proto_names_imports.proofs.Common.{link_skeleton, names_in, text_of}
use Rattle.proto_names_table.proofs.Common.{ClashFault, Named, all_named, clashes_are_faults, tree_named}
use Rattle.proto_names_table.specs.declared.spelled.Spelled.{Spelled}
use Rattle.proto_names_update.proofs.FilesDeclare.{spans}
use Rattle.proto_names_faults.specs.Common.{AreFlawsOf, Flaw}
use Rattle.proto_names_faults.proofs.Added.{flaws_as}

pub clashes_as_read : (files : List FileOf) (reads : List ReadOf) → AreRead files reads → (spelled given : List (Vec Spelled)) → given ≡ spelled → all_named 0 (map (λ v. v.items) spelled) ≡ tree_named (text_of files reads) 0 (map names_in reads)
    → (ws : List Flaw) → AreFlawsOf (ClashFault (all_named 0 (map (λ v. v.items) given))) ws → AreFlawsOf (NameFault (text_of files reads) (link_skeleton files reads).declared) ws
clashes_as_read files reads are spelled given e names ws h =
    flaws_as (ClashFault (tree_named (text_of files reads) 0 (map names_in reads))) (NameFault (text_of files reads) (link_skeleton files reads).declared) ws
    (clashes_are_faults (text_of files reads) (map names_in reads) (spans files reads are))
    (subst (λ (ds : List Named). AreFlawsOf (ClashFault ds) ws) (ap (λ (vs : List (Vec Spelled)). all_named 0 (map (λ v. v.items) vs)) e ∙ names) h)
