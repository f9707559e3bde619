-- What is aimed at stands at a token of a file (for the crates above).
use Rattle.std.proofs.Common.{List, sym, subst, inl}
use Rattle.proto_files.proofs.Common.{ReadOf, AreRead, FileOf}
use Rattle.proto_names_rules.specs.Grown.{at}
use Rattle.proto_edit_rename_laws.proofs.Common.{IsInside, tokens_are_inside, Target}
use Rattle.proto_edit_captures.specs.Common.{IsFoundTarget, IsTargetOf, RenameTarget}

pub aimed_inside : (files : List FileOf) (reads : List ReadOf) → AreRead files reads → (a : RenameTarget) (t : Target) → IsFoundTarget files reads a t → IsInside files reads (at a.file a.token)
aimed_inside files reads r a t h = subst (IsInside files reads) (sym h.token) (tokens_are_inside files reads r t.token (inl (t.aim, h.named.within, (t.above, inl h.named.path))))

pub aim_inside : (files : List FileOf) (reads : List ReadOf) → AreRead files reads → (a : RenameTarget) → IsTargetOf files a → IsInside files reads (at a.file a.token)
aim_inside files reads r a h = let t = h reads r in aimed_inside files reads r a t.0 t.1
