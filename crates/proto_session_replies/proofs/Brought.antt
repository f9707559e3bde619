-- The workspace of the files that the client sees, once it was brought.
use Rattle.std.proofs.Common.{◌≡◌, Bool, true, false, List, Option, Some, None, sym, subst}
use Rattle.proto_base.proofs.Common.{FileOf}
use Rattle.proto_files.proofs.Common.{HasNoFault}
use Rattle.proto_desc.specs.Whole.{WorkspaceFaults}
use Rattle.proto_session_files.specs.Compiling.{IsBrought, IsWorkspaceOf}
use Rattle.proto_session_files.specs.Views.{ViewOf}
use Rattle.proto_session_replies.specs.Replies.{Compiles}

-- it is there where the files compile
pub brought_compiles : (v : ViewOf) (good : Option (List FileOf)) (b : Bool) (w : List FileOf) → IsBrought v.files good b → b ≡ true → Some w ≡ good → Compiles v w
brought_compiles v good b w brought yes_ is =
    let s = subst (λ (g : Option (List FileOf)). IsWorkspaceOf v.files g) (sym is) (subst (IsBrought v.files good) yes_ brought) in
    record { sorted = s.0; clean = s.1 }

pub brought_there : (files : List FileOf) (good : Option (List FileOf)) (b : Bool) → IsBrought files good b → b ≡ true → None ≡ good → ⊥
brought_there files good b brought yes_ none = subst (λ (g : Option (List FileOf)). IsWorkspaceOf files g) (sym none) (subst (IsBrought files good) yes_ brought)

pub brought_not : (files : List FileOf) (good : Option (List FileOf)) (b : Bool) → IsBrought files good b → b ≡ false → HasNoFault (WorkspaceFaults files) → ⊥
brought_not files good b brought no_ = subst (IsBrought files good) no_ brought

-- where it is not there, they do not compile
pub brought_none : (files : List FileOf) (good : Option (List FileOf)) (b : Bool) → IsBrought files good b → None ≡ good → HasNoFault (WorkspaceFaults files) → ⊥
brought_none files good true brought none clean = subst (λ (g : Option (List FileOf)). IsWorkspaceOf files g) (sym none) brought
brought_none files good false brought none clean = brought clean
