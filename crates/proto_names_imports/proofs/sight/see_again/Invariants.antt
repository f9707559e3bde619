use Rattle.std.proofs.Common.{length, map, take}
use Rattle.proto_names_imports.proofs.SeenAgain.{IsLogged, SeeAgain}
use Rattle.proto_names_imports.proofs.SeenFiles.{MarksSight}
use Rattle.proto_names_imports.proofs.sight.see_again.Given as goal

abbrev pub invariant-loop-file : goal.invariant-loop-file
invariant-loop-file l = record {
  logged : IsLogged (length l.imports) l.initial.seen.items l.seen.items l.log.items;
  again : SeeAgain (MarksSight (length l.imports) (map (λ v. v.items) l.imports)) l.initial.seen.items l.seen.items (take l.file-index l.file-items);
}
