-- What is said of faults and refusals, without line feeds.
use Rattle.std.proofs.Common.{◌≡◌, ◌+◌, ◌-◌, ◌<◌, ◌++◌, ℕ, List, [], ◌∷◌, length, length-append, map, slice_get, slice_index, take, Some, None, refl, subst, ap, ◌∙◌, append_assoc, arith}
use Rattle.std.proofs.Math.Seq.{take-append_seam}
use Rattle.std.specs.Prelude.{codes, decimal}
use Rattle.proto_base.proofs.Common.{FileOf, Text, kind_number, same_Some}
use Rattle.proto_base.specs.FaultTable.{kind_name}
use Rattle.proto_edit_entries.specs.RefusalTable as refusals
use Rattle.proto_edit_entries.specs.declared.refusal.Refusal.{Refusal}
use Rattle.proto_base.specs.declared.fault.Fault.{Fault}
use Rattle.proto_files.specs.Faults.{FaultAt, HasNoFault, IsLeastFault, fault_at}
use Rattle.proto_desc.specs.Whole.{WorkspaceFaults}
use Rattle.proto_all_faults.specs.Laws.{AreAllFaults, FirstIsLeast, NoneIsListed}
use Rattle.protoref_output.specs.EditLines.{reference_text, refused_line}
use Rattle.protoref_output.specs.FaultLines.{line_of}

end_of : (text : Text) → slice_index (text ++ 10 ∷ []) (length text) ≡ 10
end_of [] = refl
end_of (b ∷ text) = end_of text

-- a text without the line feed that it ends in
pub without_feed : (all rest text : Text) (n : ℕ) → n ≡ length all → (0 < n → slice_index all (n - 1) < 128 → rest ≡ take (n - 1) all) → all ≡ text ++ 10 ∷ [] → rest ≡ text
without_feed all rest text n count cut is =
    let len : length all ≡ length text + 1 = ap length is ∙ length-append text (10 ∷ []) in
    let last : n - 1 ≡ length text = omega arith in
    let feed : slice_index all (n - 1) ≡ 10 = ap (slice_index all) last ∙ (ap (λ (l : Text). slice_index l (length text)) is ∙ end_of text) in
    cut (omega arith) (omega arith) ∙ (ap (λ (k : ℕ). take k all) last ∙ (ap (take (length text)) is ∙ take-append_seam text (10 ∷ [])))

-- the line of a fault ends in a line feed
pub fault_line_ends : (x : FaultAt) (line column : ℕ) → (t : Text) × (line_of x line column ≡ t ++ codes "\n")
fault_line_ends x line column = (
  x.path ++ (codes ":" ++ (decimal line ++ (codes ":" ++ (decimal column ++ (codes ": " ++ (decimal (kind_number x.kind) ++ (codes " " ++ kind_name x.kind))))))),
  simp append_assoc,
)

-- that of a refusal does
pub refused_line_ends : (files : List FileOf) (r : Refusal) → (t : Text) × (refused_line files r ≡ t ++ codes "\n")
refused_line_ends files r = (
  codes "refused: " ++ (decimal (refusals.refusal_number r) ++ (codes " " ++ (refusals.refusal_name r ++ reference_text files r))),
  simp append_assoc,
)

-- ---- the least fault of those that are listed

pub least_is_first : FirstIsLeast → (given : List FileOf) (listed : List Fault) (x : Fault) → AreAllFaults given (map fault_at listed) → slice_get listed 0 ≡ Some x → IsLeastFault (WorkspaceFaults given) (fault_at x)
least_is_first law given [] x are first = absurd (none_some first)
  where
    none_some : None ≡ Some x → ⊥
    none_some e = cc
least_is_first law given (y ∷ rest) x are first =
    let is : y ≡ x = same_Some y x first in
    subst (λ (z : Fault). IsLeastFault (WorkspaceFaults given) (fault_at z)) is (law given (fault_at y) (map fault_at rest) are)

pub none_without_fault : NoneIsListed → (given : List FileOf) (listed : List Fault) → AreAllFaults given (map fault_at listed) → slice_get listed 0 ≡ None → (HasNoFault (WorkspaceFaults given) → ⊥) → ⊥
none_without_fault law given [] are none has = has ((law given [] are).0 refl)
none_without_fault law given (y ∷ rest) are none has = absurd (some_none none)
  where
    some_none : Some y ≡ None → ⊥
    some_none e = cc
