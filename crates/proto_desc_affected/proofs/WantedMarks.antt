-- Marks of the files whose enums references mean.
use Rattle.std.proofs.Common.{All, List, Bool, [], ℕ, arith, get_or}
use Rattle.std.proofs.lemmas.List.Elements.{All-weaker}
use Rattle.proto_names_affected.specs.Marking.{MarksStay}
use Rattle.proto_names.specs.Linking.{LinkOf, Meant}
use Rattle.proto_desc_affected.specs.Common.{IsEnumMarked}

-- what is marked stays so
pub enums_stay : (l : LinkOf) (old new : List Bool) → MarksStay old new → (ms : List Meant) → All (IsEnumMarked l old) ms → All (IsEnumMarked l new) ms
enums_stay l old new stay = All-weaker (IsEnumMarked l old) (IsEnumMarked l new) (λ m h other file own within. stay.set file (h other file own (omega (arith, within, stay.count))))

pub files_stay : (l : LinkOf) (old new : List Bool) → MarksStay old new → (files : List ℕ) → All (λ (file : ℕ). All (IsEnumMarked l old) (get_or l.meant file [])) files → All (λ (file : ℕ). All (IsEnumMarked l new) (get_or l.meant file [])) files
files_stay l old new stay = All-weaker (λ (file : ℕ). All (IsEnumMarked l old) (get_or l.meant file [])) (λ (file : ℕ). All (IsEnumMarked l new) (get_or l.meant file [])) (λ file. enums_stay l old new stay (get_or l.meant file []))
