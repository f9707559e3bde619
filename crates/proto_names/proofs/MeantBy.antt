-- References by the names that they mean, file by file.
use Rattle.std.proofs.Common.{◌≡◌, ℕ, suc, ◌+◌, ◌<◌, Bool, true, false, cond, List, [], ◌∷◌, ◌++◌, length, get_or, map, take, refl, sym, ◌∙◌, ap, subst, arith, append_assoc, slice_set, ◌==◌, filter, append-nil, get_or-set_other, get_or-set_same, length-take-le}
use Rattle.proto_base.proofs.Common.{nat_tests, map-append, filter-append}
use Rattle.proto_names.specs.Common.{MeantBy, meant_in_file, all_meant, references_to, RefId, Meant}
use Rattle.proto_names_imports.proofs.Turned.{take_more}

all_meant_more : (n : ℕ) (fs : List (List Meant)) (x : List Meant) → all_meant n (fs ++ x ∷ []) ≡ all_meant n fs ++ map (meant_in_file (n + length fs)) x
all_meant_more n [] x = let z : n ≡ n + 0 = omega arith in append-nil (map (meant_in_file n) x) ∙ ap (λ k. map (meant_in_file k) x) z
all_meant_more n (y ∷ fs) x =
    let z : suc n + length fs ≡ n + suc (length fs) = omega arith in
    ap (λ t. map (meant_in_file n) y ++ t) (all_meant_more (suc n) fs x ∙ ap (λ k. all_meant (suc n) fs ++ map (meant_in_file k) x) z)
    ∙ sym (append_assoc (map (meant_in_file n) y) (all_meant (suc n) fs) (map (meant_in_file (n + suc (length fs))) x))

pub references_more : (row : ℕ) (xs ys : List MeantBy) → references_to row (xs ++ ys) ≡ references_to row xs ++ references_to row ys
references_more row xs ys =
    ap (map (λ m. m.reference)) (filter-append (λ m. m.row == row) xs ys) ∙ map-append (λ m. m.reference) (filter (λ m. m.row == row) xs) (filter (λ m. m.row == row) ys)

-- one file more
pub more_meant : (fs : List (List Meant)) (file row : ℕ) (old new : List RefId) → file < length fs → old ≡ references_to row (all_meant 0 (take file fs)) → new ≡ old ++ references_to row (map (meant_in_file file) (get_or fs file []))
    → new ≡ references_to row (all_meant 0 (take (file + 1) fs))
more_meant fs file row old new l was is =
    let n : 0 + length (take file fs) ≡ file = let t = length-take-le file fs (omega (arith, l)) in omega (arith, t) in
    let x = get_or fs file [] in
    is
    ∙ ap (λ z. z ++ references_to row (map (meant_in_file file) x)) was
    ∙ sym (ap (λ z. references_to row (all_meant 0 z)) (take_more fs file [] l)
    ∙ ap (references_to row) (all_meant_more 0 (take file fs) x ∙ ap (λ k. all_meant 0 (take file fs) ++ map (meant_in_file k) x) n)
    ∙ references_more row (all_meant 0 (take file fs)) (map (meant_in_file file) x))

-- one reference more of a file
pub more_put : (file : ℕ) (ms : List Meant) (i : ℕ) (m d : Meant) → i < length ms → m ≡ get_or ms i d → (lists new : List (List RefId)) → m.row < length lists
    → new ≡ slice_set lists m.row (get_or lists m.row [] ++ record { file = file; token = m.token } ∷ []) → (row : ℕ) (before : List RefId)
    → get_or lists row [] ≡ before ++ references_to row (map (meant_in_file file) (take i ms)) → get_or new row [] ≡ before ++ references_to row (map (meant_in_file file) (take (i + 1) ms))
more_put file ms i m d l m_is lists new within new_is row before was =
    ap (λ (ls : List (List RefId)). get_or ls row []) new_is
    ∙ go (m.row == row) refl
    ∙ ap (λ rs. rs ++ references_to row (meant_in_file file m ∷ [])) was
    ∙ append_assoc before (references_to row (map (meant_in_file file) (take i ms))) (references_to row (meant_in_file file m ∷ []))
    ∙ ap (λ rs. before ++ rs) (sym (ap (λ (zs : List Meant). references_to row (map (meant_in_file file) zs)) (take_more ms i d l ∙ ap (λ z. take i ms ++ z ∷ []) (sym m_is))
    ∙ ap (references_to row) (map-append (meant_in_file file) (take i ms) (m ∷ []))
    ∙ references_more row (map (meant_in_file file) (take i ms)) (meant_in_file file m ∷ [])))
  where
    go : (b : Bool) → (m.row == row) ≡ b → get_or (slice_set lists m.row (get_or lists m.row [] ++ record { file = file; token = m.token } ∷ [])) row [] ≡ get_or lists row [] ++ references_to row (meant_in_file file m ∷ [])
    go true e =
        let same : m.row ≡ row = grind (arith, nat_tests, e) in
        subst (λ k. get_or (slice_set lists m.row (get_or lists m.row [] ++ record { file = file; token = m.token } ∷ [])) k [] ≡ get_or lists k [] ++ record { file = file; token = m.token } ∷ []) same
        (get_or-set_same lists m.row _ [] within)
        ∙ ap (λ b. get_or lists row [] ++ map (λ m. m.reference) (cond b (meant_in_file file m ∷ []) [])) (sym e)
    go false e =
        get_or-set_other lists m.row row _ [] (λ same. grind (arith, nat_tests, e, same))
        ∙ sym (append-nil (get_or lists row []))
        ∙ ap (λ b. get_or lists row [] ++ map (λ m. m.reference) (cond b (meant_in_file file m ∷ []) [])) (sym e)
