-- The test of a workspace path decides its definition.
use Rattle.std.proofs.Common.{◌≡◌, ℕ, ◌-◌, ◌<◌, Bool, true, false, ◌&&◌, ◌==◌, List, [], ◌∷◌, length, take, refl, sym, ap, ◌∙◌, subst, arith, length-append, ◌↔◌, IsTrue, codes, nat_le, nat_eq, All, leb-true, le-leb}
use Rattle.proto_base.proofs.Common.{AllPass, list_all, join_with_byte, slice_split, ends_with, false≢true, nat_tests, Decides-eqb, ends_is, All-nil, All-cons, All-head, All-tail}
use Rattle.std.proofs.lemmas.List.Splits.{slice_split_at, slice_split_none, join_with_byte-slice_split}
use Rattle.proto_files.specs.WorkspacePaths.{is_path_byte, is_path_part, IsWorkspacePath, is_workspace_path}

and_left : (a b : Bool) → (a && b) ≡ true → a ≡ true
and_left true b h = refl
and_left false b h = h

and_right : (a b : Bool) → (a && b) ≡ true → b ≡ true
and_right true b h = h
and_right false b h = absurd (false≢true h)

and_both : (a b : Bool) → a ≡ true → b ≡ true → (a && b) ≡ true
and_both a b p q = cc

-- a list passes a test where each element does
pub AllPass-from_list_all : {X : Type 0} (p : X → Bool) (xs : List X) → list_all p xs ≡ true → AllPass p xs
AllPass-from_list_all p [] h = All-nil (λ x. p x ≡ true)
AllPass-from_list_all p (x ∷ xs) h = All-cons (λ x. p x ≡ true) x xs (and_left (p x) _ h) (AllPass-from_list_all p xs (and_right (p x) _ h))

pub list_all-from_AllPass : {X : Type 0} (p : X → Bool) (xs : List X) → AllPass p xs → list_all p xs ≡ true
list_all-from_AllPass p [] h = refl
list_all-from_AllPass p (x ∷ xs) h = and_both _ _ (All-head (λ x. p x ≡ true) x xs h) (list_all-from_AllPass p xs (All-tail (λ x. p x ≡ true) x xs h))

path_byte_no_slash : (b : ℕ) → is_path_byte b ≡ true → (b == 47) ≡ false
path_byte_no_slash b h = grind (arith, nat_tests)

bytes_no_slash : (part : List ℕ) → list_all is_path_byte part ≡ true → All (λ b. (b == 47) ≡ false) part
bytes_no_slash [] h = All-nil (λ b. (b == 47) ≡ false)
bytes_no_slash (b ∷ part) h =
    All-cons (λ b. (b == 47) ≡ false) b part (path_byte_no_slash b (and_left (is_path_byte b) _ h)) (bytes_no_slash part (and_right (is_path_byte b) _ h))

part_no_slash : (part : List ℕ) → is_path_part part ≡ true → All (λ b. (b == 47) ≡ false) part
part_no_slash part h = bytes_no_slash part (and_right _ (list_all is_path_byte part) h)

-- parts are the parts of the text that they join to
slice_split-join : (part : List ℕ) (parts : List (List ℕ)) → AllPass is_path_part (part ∷ parts) → slice_split (λ b. b == 47) (join_with_byte 47 (part ∷ parts)) ≡ part ∷ parts
slice_split-join part [] h = slice_split_none (λ b. b == 47) part (part_no_slash part (All-head (λ x. is_path_part x ≡ true) part [] h))
slice_split-join part (next ∷ parts) h =
    slice_split_at (λ b. b == 47) part 47 (join_with_byte 47 (next ∷ parts)) (part_no_slash part (All-head (λ x. is_path_part x ≡ true) part (next ∷ parts) h)) refl
    ∙ ap (λ rest. part ∷ rest) (slice_split-join next parts (All-tail (λ x. is_path_part x ≡ true) part (next ∷ parts) h))

joined_parts : (path : List ℕ) (parts : List (List ℕ)) → 0 < length path → path ≡ join_with_byte 47 parts → AllPass is_path_part parts → AllPass is_path_part (slice_split (λ b. b == 47) path)
joined_parts path [] long e h = absurd (omega (arith, ap length e))
joined_parts path (part ∷ parts) long e h =
    subst (λ xs. AllPass is_path_part xs) (sym (ap (slice_split (λ b. b == 47)) e ∙ slice_split-join part parts h)) h

pub is_path_from_test : (path : List ℕ) → is_workspace_path path ≡ true → IsWorkspacePath path
is_path_from_test path h =
    let front = and_left (nat_le (length path) 255 && ends_with nat_eq path (codes ".proto")) _ h in
    let short = and_left (nat_le (length path) 255) _ front in
    let ending = (ends_is Decides-eqb path (codes ".proto") _ refl).0 (and_right (nat_le (length path) 255) _ front) in
    let parts = and_right (nat_le (length path) 255 && ends_with nat_eq path (codes ".proto")) _ h in
    record {
      not_empty = omega (arith, ap length ending, length-append (take (length path - 6) path) (codes ".proto"));
      short = leb-true _ _ short;
      ending = (take (length path - 6) path, ending);
      parted = (slice_split (λ b. b == 47) path, sym (join_with_byte-slice_split 47 path), AllPass-from_list_all is_path_part _ parts);
    }

pub test_from_is_path : (path : List ℕ) → IsWorkspacePath path → is_workspace_path path ≡ true
test_from_is_path path h =
    and_both (nat_le (length path) 255 && ends_with nat_eq path (codes ".proto")) (list_all is_path_part (slice_split (λ b. b == 47) path))
    (and_both (nat_le (length path) 255) (ends_with nat_eq path (codes ".proto")) (le-leb _ _ h.short)
    ((ends_is Decides-eqb path (codes ".proto") _ refl).1 h.ending.0 h.ending.1))
    (list_all-from_AllPass is_path_part _ (joined_parts path h.parted.0 h.not_empty h.parted.1 h.parted.2))

-- the test says that the text is a workspace path
pub is_path_by_test : (path : List ℕ) (r : Bool) → r ≡ is_workspace_path path → IsTrue r ↔ IsWorkspacePath path
is_path_by_test path r e = (λ h. is_path_from_test path (sym e ∙ h), λ h. e ∙ test_from_is_path path h)
