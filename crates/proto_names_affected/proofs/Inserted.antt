-- Files that are put into a set (for the crates above).
use Rattle.std.proofs.Common.{◌≡◌, ℕ, ◌<◌, Bool, true, List, length, length-set, sym, ◌∙◌, ap, subst, slice_set}
use Rattle.proto_file_sets.proofs.Members.{inserted_is_in, others_stay_in}
use Rattle.proto_names_affected.specs.Marking.{IsMarked, MarksStay}

-- a file that is put into a set is marked, and others stay so
pub inserted_stay : (old new : List Bool) (file : ℕ) → new ≡ slice_set old file true → MarksStay old new
inserted_stay old new file is = record {
  count = ap length is ∙ length-set old file true;
  set = λ other marked. subst (λ marks. IsMarked marks other) (sym is) (others_stay_in old file other marked);
}

pub inserted_marked : (old new : List Bool) (file : ℕ) → file < length old → new ≡ slice_set old file true → IsMarked new file
inserted_marked old new file within is = subst (λ marks. IsMarked marks file) (sym is) (inserted_is_in old file within)
