-- The lines of changes, one more at a time.
use Rattle.std.proofs.Common.{◌≡◌, ℕ, ◌+◌, ◌<◌, List, [], ◌∷◌, ◌++◌, Option, drop, get_or, length, map, take, sym, subst, ap, ◌∙◌, append-nil, take-append-drop}
use Rattle.proto_base.proofs.Common.{Appends, flat_map-append, map-append, take_more}
use Rattle.proto_edit_entries.specs.Entries.{change_of}
use Rattle.proto_edit_entries.specs.declared.entry.Change.{Change}
use Rattle.protoref_output.specs.EditLines.{changed_line, changed_lines}
use Rattle.protoref_output.specs.Writing.{AppendsBeginning}
use Rattle.protoref_output.proofs.Beginnings.{begins_behind, begins_longer}

-- one more change
pub changes_more : (cs : List Change) (i : ℕ) (c : Change) → i < length cs → c ≡ get_or cs i c
    → changed_lines (map change_of (take (i + 1) cs)) ≡ changed_lines (map change_of (take i cs)) ++ changed_line (change_of c)
changes_more cs i c within is =
    ap (λ (l : List Change). changed_lines (map change_of l)) (take_more cs i c within ∙ ap (λ (x : Change). take i cs ++ x ∷ []) (sym is))
    ∙ ap changed_lines (map-append change_of (take i cs) (c ∷ []))
    ∙ flat_map-append changed_line (map change_of (take i cs)) (change_of c ∷ [])
    ∙ ap (λ l. changed_lines (map change_of (take i cs)) ++ l) (append-nil (changed_line (change_of c)))

-- the lines of the first changes, and of the others
changes_split : (cs : List Change) (k : ℕ) → changed_lines (map change_of cs) ≡ changed_lines (map change_of (take k cs)) ++ changed_lines (map change_of (drop k cs))
changes_split cs k =
    ap (λ (l : List Change). changed_lines (map change_of l)) (sym (take-append-drop k cs))
    ∙ ap changed_lines (map-append change_of (take k cs) (drop k cs))
    ∙ flat_map-append changed_line (map change_of (take k cs)) (map change_of (drop k cs))

-- a beginning of one more line is a beginning of them all
pub lines_begun : (a b d : Option (List ℕ)) (cs : List Change) (i : ℕ) (c : Change) → i < length cs → c ≡ get_or cs i c → Appends a b (changed_lines (map change_of (take i cs)))
    → AppendsBeginning b d (changed_line (change_of c)) → AppendsBeginning a d (changed_lines (map change_of cs))
lines_begun a b d cs i c within is done begun =
    let whole : List ℕ → Type 0 = λ l. AppendsBeginning a d l in
    let more : whole (changed_lines (map change_of (take (i + 1) cs))) =
    subst whole (sym (changes_more cs i c within is)) (begins_behind a b d (changed_lines (map change_of (take i cs))) (changed_line (change_of c)) done begun) in
    subst whole (sym (changes_split cs (i + 1))) (begins_longer a d (changed_lines (map change_of (take (i + 1) cs))) (changed_lines (map change_of (drop (i + 1) cs))) more)
