-- Marks that stay, and marks of a file more.
use Rattle.std.proofs.Common.{◌≡◌, ℕ, zero, suc, ◌==◌, Bool, false, List, [], ◌∷◌, get_or, map, refl, ◌∙◌, arith, All}
use Rattle.std.specs.Global.{Vec}
use Rattle.std.specs.List.{Contains, list_any}
use Rattle.std.proofs.lemmas.Bool.{both_ways, eq-eqb}
use Rattle.proto_base.proofs.Common.{any_from}
use Rattle.proto_names_table.specs.declared.ids.Meant.{Meant}
use Rattle.proto_names_table.specs.declared.ids.RefId.{RefId}
use Rattle.proto_names_affected.specs.Marking.{MarksStay, begins_so}

pub stay_same : (marks : List Bool) → MarksStay marks marks
stay_same marks = record { count = refl; set = λ file h. h }

pub stay_more : (a b c : List Bool) → MarksStay a b → MarksStay b c → MarksStay a c
stay_more a b c p q = record { count = q.count ∙ p.count; set = λ file h. q.set file (p.set file h) }

-- what is known of the lists is known of the list of a row
pub own_within : (P : RefId → Type 0) (vs : List (Vec RefId)) (row : ℕ) → All (λ v. All P v.items) vs → All P (get_or (map (λ v. v.items) vs) row [])
own_within P [] row h = λ k d l. absurd (omega (arith, l))
own_within P (v ∷ vs) zero h = h 0 v (omega arith)
own_within P (v ∷ vs) (suc row) h = own_within P vs row (λ k d l. h (suc k) d (omega (arith, l)))

-- where no reference passes, none begins with one of the keys
pub none_begins : (keys : List ℕ) (ms : List Meant) (m : Meant) → begins_so keys ms ≡ false → Contains ms m → Contains keys m.first → ⊥
none_begins keys ms m none there key =
    both_ways (begins_so keys ms) none
    (any_from (λ k. list_any (λ (x : Meant). x.first == k) ms) keys m.first key
    (any_from (λ (x : Meant). x.first == m.first) ms m there (eq-eqb m.first m.first refl)))

-- where no reference begins with a word of the key, none has the key
pub none_with : (ms : List Meant) (key : ℕ) (m : Meant) → list_any (λ x. x.first == key) ms ≡ false → Contains ms m → m.first ≡ key → ⊥
none_with ms key m none there is =
    both_ways (list_any (λ (x : Meant). x.first == key) ms) none (any_from (λ (x : Meant). x.first == key) ms m there (eq-eqb m.first key is))

pub nothing_there : {X : Type 0} (x : X) → Contains [] x → ⊥
nothing_there x c = absurd (omega (arith, c.1))
