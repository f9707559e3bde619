-- One turn of a loop over places that sets the marks there, and its end.
use Rattle.std.proofs.Common.{◌≡◌, ℕ, ◌+◌, ◌<◌, ◌≤◌, Bool, true, List, length, get_or, drop, sym, ap, ◌∙◌, slice_set}
use Rattle.proto_base.proofs.Common.{drop_all, front_element}
use Rattle.proto_edit_rename.specs.MadeChanges.{marked_from}

pub marks_turn : (places : List ℕ) (i p d : ℕ) (marks next whole : List Bool) → i < length places → p ≡ get_or places i d → next ≡ slice_set marks p true
    → marked_from marks (drop i places) ≡ whole → marked_from next (drop (i + 1) places) ≡ whole
marks_turn places i p d marks next whole lt is new before =
    ap (λ (ms : List Bool). marked_from ms (drop (i + 1) places)) new ∙ ap (marked_from marks) (sym (front_element places i p d lt is)) ∙ before

pub all_marked : (places : List ℕ) (i : ℕ) (marks whole : List Bool) → length places ≤ i → marked_from marks (drop i places) ≡ whole → marks ≡ whole
all_marked places i marks whole le before = ap (marked_from marks) (sym (drop_all i places le)) ∙ before
