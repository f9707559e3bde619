-- The lines of records and the paths of changes, one more at a time.
use Rattle.std.proofs.Common.{◌≡◌, ℕ, ◌+◌, ◌<◌, List, [], ◌∷◌, ◌++◌, get_or, length, map, sym, take, ap, ◌∙◌, append_assoc, append-nil, arith, length-take-le, flat_map}
use Rattle.proto_base.proofs.Common.{flat_map-append, map-append, take_more}
use Rattle.proto_edit_entries.specs.Entries.{ChangeOf, change_of}
use Rattle.proto_edit_entries.specs.declared.entry.Change.{Change}
use Rattle.protoref_output.specs.LogLines.{joined_paths, lines_from, record_line}
use Rattle.proto_journal_records.specs.Records.{RecordOf}

-- one more record
pub lines_more : (n : ℕ) (rs : List RecordOf) (r : RecordOf) → lines_from n (rs ++ r ∷ []) ≡ lines_from n rs ++ record_line (n + length rs) r
lines_more n [] r = append-nil (record_line n r) ∙ ap (λ k. record_line k r) (let e : n ≡ n + 0 = omega arith in e)
lines_more n (s ∷ rs) r =
    ap (λ l. record_line n s ++ l) (lines_more (n + 1) rs r ∙ ap (λ k. lines_from (n + 1) rs ++ record_line k r) (let e : (n + 1) + length rs ≡ n + length (s ∷ rs) = omega arith in e))
    ∙ sym (append_assoc (record_line n s) (lines_from (n + 1) rs) (record_line (n + length (s ∷ rs)) r))

-- one more of the records that are gone through
pub records_more : (rs : List RecordOf) (i : ℕ) (r : RecordOf) → i < length rs → r ≡ get_or rs i r → lines_from 1 (take (i + 1) rs) ≡ lines_from 1 (take i rs) ++ record_line (i + 1) r
records_more rs i r within is =
    ap (lines_from 1) (take_more rs i r within ∙ ap (λ (x : RecordOf). take i rs ++ x ∷ []) (sym is))
    ∙ lines_more 1 (take i rs) r
    ∙ ap (λ k. lines_from 1 (take i rs) ++ record_line k r) (let e : 1 + length (take i rs) ≡ i + 1 = omega (arith, length-take-le i rs (omega (arith, within))) in e)

-- the paths behind the first, each with its comma
abbrev pub behind : List ChangeOf → List ℕ
behind cs = flat_map (λ c. 44 ∷ c.path) cs

-- one more of the changes behind the first
pub behind_more : (rest : List Change) (i : ℕ) (c : Change) → i < length rest → c ≡ get_or rest i c
    → behind (map change_of (take (i + 1) rest)) ≡ behind (map change_of (take i rest)) ++ (44 ∷ (change_of c).path)
behind_more rest i c within is =
    ap (λ (l : List Change). behind (map change_of l)) (take_more rest i c within ∙ ap (λ (x : Change). take i rest ++ x ∷ []) (sym is))
    ∙ ap behind (map-append change_of (take i rest) (c ∷ []))
    ∙ flat_map-append (λ d. 44 ∷ d.path) (map change_of (take i rest)) (change_of c ∷ [])
    ∙ ap (λ l. behind (map change_of (take i rest)) ++ l) (append-nil (44 ∷ (change_of c).path))

-- the first path and what is behind it
pub joined_behind : (first : ChangeOf) (cs : List ChangeOf) → joined_paths (first ∷ cs) ≡ first.path ++ behind cs
joined_behind first [] = sym (append-nil first.path)
joined_behind first (c ∷ cs) = ap (λ l. first.path ++ (44 ∷ l)) (joined_behind c cs)
