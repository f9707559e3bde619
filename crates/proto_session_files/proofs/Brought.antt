-- The workspace that files have.
use Rattle.std.proofs.Common.{◌≡◌, List, subst}
use Rattle.proto_base.proofs.Common.{IsPermutation-refl}
use Rattle.proto_base.specs.GivenFiles.{FileOf}
use Rattle.proto_desc.proofs.Common.{IsSortedOf}
use Rattle.proto_edit.specs.Compiled.{AreCompiled}

-- files that compile are in the order of their paths
pub sorted_as_given : (files w : List FileOf) → w ≡ files → AreCompiled w → IsSortedOf files w
sorted_as_given files w same compiled =
    subst (λ (fs : List FileOf). IsSortedOf fs w) same (record { same = IsPermutation-refl w; ordered = compiled.workspace.ordered })
