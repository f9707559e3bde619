-- The flaws of numbers and ranges, with one cap and another: what differs stands at a token where a number is outside its limits (for the crates above).
use Rattle.std.proofs.Common.{◌≡◌, ◌⊎◌, ℕ, ℤ, int_le, Bool, true, false, not, ◌&&◌, ◌||◌, List, [], ◌∷◌, ◌++◌, map, refl, sym, ◌∙◌, ap, subst, inl, inr, Contains, int_eq}
use Rattle.proto_base.proofs.Common.{list_any, cases_Bool, and_parts, and_from, true_from_ne_false, contains_head, contains_later, contains_map}
use Rattle.proto_base.specs.declared.fault.FaultKind.{FaultKind}
use Rattle.proto_base.specs.declared.fault.FaultKind.TheVariants as kind
use Rattle.proto_desc_numbers.specs.Common.{Flaw, NumberAt, flaw, flaw_if, after_earlier, marked, is_within, outside, is_sound_range, broken_ranges, is_inside, reserved_numbers, share, overlaps, repeated_numbers}
use Rattle.proto_ast.specs.declared.ranges.RangeAt.{RangeAt}
use Rattle.proto_desc_numbers.proofs.CappedNumbers.{Alike, alike_back, is_near, near_between, near_within, same_near, numbers_same, le_through, le_or_back, IsLimit}
use Rattle.proto_desc_numbers.proofs.CappedCovers.{Beneath, Covered, covered_equal, covered_join, covered_if, covered_marked, contains_flat, flaw_here}

pub agree : (a b : Bool) → (a ≡ true → b ≡ true) → (b ≡ true → a ≡ true) → a ≡ b
agree true b h k = sym (h refl)
agree false true h k = k refl
agree false false h k = refl

not_false : (b : Bool) → b ≡ false → not b ≡ true
not_false b e = ap not e

-- ---- numbers

abbrev pub numbered : {A : Type 0} → (A → ℕ) → (A → ℤ) → A → NumberAt
numbered tok number a = record { token = tok a; number = number a }

tokens_numbered : {A : Type 0} (tok : A → ℕ) (number : A → ℤ) (items : List A) → map (λ n. n.token) (map (numbered tok number) items) ≡ map tok items
tokens_numbered tok number [] = refl
tokens_numbered tok number (a ∷ items) = ap (λ l. tok a ∷ l) (tokens_numbered tok number items)

numbers_numbered : {A : Type 0} (tok : A → ℕ) (number : A → ℤ) (items : List A) → map (λ n. n.number) (map (numbered tok number) items) ≡ map number items
numbers_numbered tok number [] = refl
numbers_numbered tok number (a ∷ items) = ap (λ l. number a ∷ l) (numbers_numbered tok number items)

marked_numbered : {A : Type 0} (k : FaultKind) (tok : A → ℕ) (number : A → ℤ) (items : List A)
    → marked k (map (λ n. n.token) (map (numbered tok number) items)) (repeated_numbers (map (numbered tok number) items)) ≡ marked k (map tok items) (after_earlier int_eq (map number items))
marked_numbered k tok number items =
    ap (λ l. marked k l (repeated_numbers (map (numbered tok number) items))) (tokens_numbered tok number items)
    ∙ ap (λ l. marked k (map tok items) (after_earlier int_eq l)) (numbers_numbered tok number items)

pub outside_here : {A : Type 0} (limits : ℤ → Bool) (tok : A → ℕ) (number : A → ℤ) (items : List A) (a : A) → Contains items a → limits (number a) ≡ false → Contains (outside limits (map (numbered tok number) items)) (flaw kind.NumberRange (tok a))
outside_here limits tok number items a c e =
    contains_flat (λ n. flaw_if (not (limits n.number)) kind.NumberRange n.token) (map (numbered tok number) items) (numbered tok number a) (flaw kind.NumberRange (tok a))
    (contains_map (numbered tok number) items a c)
    (flaw_here (not (limits (number a))) kind.NumberRange (tok a) (not_false (limits (number a)) e))

module _ {A : Type 0} (limits : ℤ → Bool) (limit : IsLimit limits) (tok : A → ℕ) (number other : A → ℤ) (alike : (a : A) → Alike (number a) (other a)) where
  pub outside_same : (items : List A) → outside limits (map (numbered tok number) items) ≡ outside limits (map (numbered tok other) items)
  outside_same [] = refl
  outside_same (a ∷ items) =
      ap (λ b. flaw_if (not b) kind.NumberRange (tok a) ++ outside limits (map (numbered tok number) items)) (limit.same (number a) (other a) (alike a))
      ∙ ap (λ l. flaw_if (not (limits (other a))) kind.NumberRange (tok a) ++ l) (outside_same items)

  pub number_same : (a : A) → limits (number a) ≡ true → number a ≡ other a
  number_same a e = same_near (number a) (other a) (alike a) (limit.near (number a) e)

  module _ (zs : List Flaw) (k : FaultKind) (all : List A) (below : (a : A) → Contains all a → limits (number a) ≡ false → Beneath zs (flaw k (tok a))) where
    still_same : (a b : A) → Contains all b → int_eq (number a) (number b) ≡ true → (int_eq (other a) (other b) ≡ true) ⊎ Beneath zs (flaw k (tok b))
    still_same a b c h = go (cases_Bool (limits (number b)))
      where
        go : (limits (number b) ≡ true) ⊎ (limits (number b) ≡ false) → (int_eq (other a) (other b) ≡ true) ⊎ Beneath zs (flaw k (tok b))
        go (inl e) =
            let first : number a ≡ other a = number_same a (ap limits (numbers_same (number a) (number b) h) ∙ e) in
            let second : number b ≡ other b = number_same b e in
            inl (sym (ap (λ z. int_eq z (number b)) first ∙ ap (λ z. int_eq (other a) z) second) ∙ h)
        go (inr e) = inr (below b c e)

    pub covered_repeated : Covered zs (marked k (map (λ n. n.token) (map (numbered tok number) all)) (repeated_numbers (map (numbered tok number) all))) (marked k (map (λ n. n.token) (map (numbered tok other) all)) (repeated_numbers (map (numbered tok other) all)))
    covered_repeated =
        subst (λ (l : List Flaw). Covered zs l (marked k (map (λ n. n.token) (map (numbered tok other) all)) (repeated_numbers (map (numbered tok other) all)))) (sym (marked_numbered k tok number all))
        (subst (λ (l : List Flaw). Covered zs (marked k (map tok all) (after_earlier int_eq (map number all))) l) (sym (marked_numbered k tok other all))
        (covered_marked zs int_eq k tok number other all still_same))

-- ---- ranges

abbrev pub ranged : {B : Type 0} → (B → ℕ) → (B → ℤ) → (B → ℤ) → B → RangeAt
ranged tok first last b = record { token = tok b; first = first b; last = last b }

tokens_ranged : {B : Type 0} (tok : B → ℕ) (first last : B → ℤ) (bs : List B) → map (λ r. r.token) (map (ranged tok first last) bs) ≡ map tok bs
tokens_ranged tok first last [] = refl
tokens_ranged tok first last (b ∷ bs) = ap (λ l. tok b ∷ l) (tokens_ranged tok first last bs)

pub broken_here : {B : Type 0} (least most : ℤ) (tok : B → ℕ) (first last : B → ℤ) (bs : List B) (b : B) → Contains bs b → is_sound_range least most (ranged tok first last b) ≡ false → Contains (broken_ranges least most (map (ranged tok first last) bs)) (flaw kind.NumberRange (tok b))
broken_here least most tok first last bs b c e =
    contains_flat (λ r. flaw_if (not (is_sound_range least most r)) kind.NumberRange r.token) (map (ranged tok first last) bs) (ranged tok first last b) (flaw kind.NumberRange (tok b))
    (contains_map (ranged tok first last) bs b c)
    (flaw_here (not (is_sound_range least most (ranged tok first last b))) kind.NumberRange (tok b) (not_false (is_sound_range least most (ranged tok first last b)) e))

-- the ends of a sound range are near
record HasNearEnds (first last : ℤ) : Type 0 where
  first_near : is_near first ≡ true
  last_near : is_near last ≡ true

module _ (least most : ℤ) (l : is_near least ≡ true) (m : is_near most ≡ true) where
  near_ends : (r : RangeAt) → is_sound_range least most r ≡ true → HasNearEnds r.first r.last
  near_ends r h =
      let p = and_parts (is_within least most r.first) (is_within least most r.last && int_le r.first r.last) h in
      let q = and_parts (is_within least most r.last) (int_le r.first r.last) p.1 in
      record { first_near = near_within least most r.first l m p.0; last_near = near_within least most r.last l m q.0 }

  module _ {B : Type 0} (tok : B → ℕ) (first last : B → ℤ) (first' last' : B → ℤ) (alike_first : (b : B) → Alike (first b) (first' b)) (alike_last : (b : B) → Alike (last b) (last' b)) where
    sound_too : (b : B) → is_sound_range least most (ranged tok first last b) ≡ true → is_sound_range least most (ranged tok first' last' b) ≡ true
    sound_too b h =
        let n = near_ends (ranged tok first last b) h in
        subst (λ z. is_sound_range least most (record { token = tok b; first = first' b; last = z }) ≡ true) (same_near (last b) (last' b) (alike_last b) n.last_near)
        (subst (λ z. is_sound_range least most (record { token = tok b; first = z; last = last b }) ≡ true) (same_near (first b) (first' b) (alike_first b) n.first_near) h)

  module _ {B : Type 0} (tok : B → ℕ) (first last : B → ℤ) (first' last' : B → ℤ) (alike_first : (b : B) → Alike (first b) (first' b)) (alike_last : (b : B) → Alike (last b) (last' b)) where
    pub sound_same : (b : B) → is_sound_range least most (ranged tok first last b) ≡ is_sound_range least most (ranged tok first' last' b)
    sound_same b =
        agree (is_sound_range least most (ranged tok first last b)) (is_sound_range least most (ranged tok first' last' b))
        (sound_too tok first last first' last' alike_first alike_last b)
        (sound_too tok first' last' first last (λ x. alike_back (first x) (first' x) (alike_first x)) (λ x. alike_back (last x) (last' x) (alike_last x)) b)

    pub broken_same : (bs : List B) → broken_ranges least most (map (ranged tok first last) bs) ≡ broken_ranges least most (map (ranged tok first' last') bs)
    broken_same [] = refl
    broken_same (b ∷ bs) =
        ap (λ v. flaw_if (not v) kind.NumberRange (tok b) ++ broken_ranges least most (map (ranged tok first last) bs)) (sound_same b)
        ∙ ap (λ z. flaw_if (not (is_sound_range least most (ranged tok first' last' b))) kind.NumberRange (tok b) ++ z) (broken_same bs)

    -- a near number is in the same ranges
    pub inside_same : (n : ℤ) → is_near n ≡ true → (bs : List B) → list_any (is_inside n) (map (ranged tok first last) bs) ≡ list_any (is_inside n) (map (ranged tok first' last') bs)
    inside_same n e [] = refl
    inside_same n e (b ∷ bs) =
        ap (λ v. (v && int_le n (last b)) || list_any (is_inside n) (map (ranged tok first last) bs)) ((alike_first b).under n e)
        ∙ ap (λ v. (int_le (first' b) n && v) || list_any (is_inside n) (map (ranged tok first last) bs)) ((alike_last b).over n e)
        ∙ ap (λ v. is_inside n (ranged tok first' last' b) || v) (inside_same n e bs)

    no_both : (v : Bool) → v ≡ true → v ≡ false → ⊥
    no_both v e f = no_true (sym e ∙ f)
      where
        no_true : true ≡ false → ⊥
        no_true h = cc

    -- what shares a number with a range of near ends does so with any cap
    share_near : (a : B) (s : RangeAt) → HasNearEnds s.first s.last → share (ranged tok first last a) s ≡ true → share (ranged tok first' last' a) s ≡ true
    share_near a s n h =
        let p = and_parts (int_le (first a) (last a)) (int_le s.first s.last && (int_le (first a) s.last && int_le s.first (last a))) h in
        let q = and_parts (int_le s.first s.last) (int_le (first a) s.last && int_le s.first (last a)) p.1 in
        let r = and_parts (int_le (first a) s.last) (int_le s.first (last a)) q.1 in
        let starts : int_le (first' a) s.last ≡ true = sym ((alike_first a).under s.last n.last_near) ∙ r.0 in
        let ends : int_le s.first (last' a) ≡ true = sym ((alike_last a).over s.first n.first_near) ∙ r.1 in
        and_from (int_le (first' a) (last' a)) (int_le s.first s.last && (int_le (first' a) s.last && int_le s.first (last' a)))
        (true_from_ne_false (int_le (first' a) (last' a)) (λ e. crossed p.0 starts ends e))
        (and_from (int_le s.first s.last) (int_le (first' a) s.last && int_le s.first (last' a)) q.0 (and_from (int_le (first' a) s.last) (int_le s.first (last' a)) starts ends))
      where
        crossed : int_le (first a) (last a) ≡ true → int_le (first' a) s.last ≡ true → int_le s.first (last' a) ≡ true → int_le (first' a) (last' a) ≡ false → ⊥
        crossed o starts ends e =
            let back = le_or_back (first' a) (last' a) e in
            let near_first = near_between s.first s.last (first' a) n.first_near n.last_near (le_through s.first (last' a) (first' a) ends back) starts in
            let near_last = near_between s.first s.last (last' a) n.first_near n.last_near ends (le_through (last' a) (first' a) s.last back starts) in
            let one = same_near (first' a) (first a) (alike_back (first a) (first' a) (alike_first a)) near_first in
            let two = same_near (last' a) (last a) (alike_back (last a) (last' a) (alike_last a)) near_last in
            no_both (int_le (first' a) (last' a)) (ap (λ z. int_le z (last' a)) one ∙ ap (λ z. int_le (first a) z) two ∙ o) e

    module _ (zs : List Flaw) (all : List B) (below : (b : B) → Contains all b → is_sound_range least most (ranged tok first last b) ≡ false → Beneath zs (flaw kind.RangeOverlap (tok b))) where
      still_share : (a b : B) → Contains all b → share (ranged tok first last a) (ranged tok first last b) ≡ true → (share (ranged tok first' last' a) (ranged tok first' last' b) ≡ true) ⊎ Beneath zs (flaw kind.RangeOverlap (tok b))
      still_share a b c h = go (cases_Bool (is_sound_range least most (ranged tok first last b)))
        where
          go : (is_sound_range least most (ranged tok first last b) ≡ true) ⊎ (is_sound_range least most (ranged tok first last b) ≡ false) → (share (ranged tok first' last' a) (ranged tok first' last' b) ≡ true) ⊎ Beneath zs (flaw kind.RangeOverlap (tok b))
          go (inl e) =
              let n = near_ends (ranged tok first last b) e in
              inl (subst (λ z. share (ranged tok first' last' a) (record { token = tok b; first = first' b; last = z }) ≡ true) (same_near (last b) (last' b) (alike_last b) n.last_near)
              (subst (λ z. share (ranged tok first' last' a) (record { token = tok b; first = z; last = last b }) ≡ true) (same_near (first b) (first' b) (alike_first b) n.first_near)
              (share_near a (ranged tok first last b) n h)))
          go (inr e) = inr (below b c e)

      pub covered_overlaps : Covered zs (overlaps (map (ranged tok first last) all)) (overlaps (map (ranged tok first' last') all))
      covered_overlaps =
          subst (λ (l : List ℕ). Covered zs (marked kind.RangeOverlap l (after_earlier share (map (ranged tok first last) all))) (overlaps (map (ranged tok first' last') all))) (sym (tokens_ranged tok first last all))
          (subst (λ (l : List ℕ). Covered zs (marked kind.RangeOverlap (map tok all) (after_earlier share (map (ranged tok first last) all))) (marked kind.RangeOverlap l (after_earlier share (map (ranged tok first' last') all)))) (sym (tokens_ranged tok first' last' all))
          (covered_marked zs share kind.RangeOverlap tok (ranged tok first last) (ranged tok first' last') all still_share))

-- ---- reserved numbers

module _ {A : Type 0} (limits : ℤ → Bool) (limit : IsLimit limits) (tok : A → ℕ) (number other : A → ℤ) (alike : (a : A) → Alike (number a) (other a))
    (rs ss : List RangeAt) (same : (n : ℤ) → is_near n ≡ true → list_any (is_inside n) rs ≡ list_any (is_inside n) ss)
    (zs : List Flaw) (all : List A) (below : (a : A) → Contains all a → limits (number a) ≡ false → Beneath zs (flaw kind.ReservedNumber (tok a))) where
  still_inside : (a : A) → Contains all a → list_any (is_inside (number a)) rs ≡ true → (list_any (is_inside (other a)) ss ≡ true) ⊎ Beneath zs (flaw kind.ReservedNumber (tok a))
  still_inside a c h = go (cases_Bool (limits (number a)))
    where
      go : (limits (number a) ≡ true) ⊎ (limits (number a) ≡ false) → (list_any (is_inside (other a)) ss ≡ true) ⊎ Beneath zs (flaw kind.ReservedNumber (tok a))
      go (inl e) = inl (ap (λ z. list_any (is_inside z) ss) (sym (number_same limits limit tok number other alike a e)) ∙ sym (same (number a) (limit.near (number a) e)) ∙ h)
      go (inr e) = inr (below a c e)

  reserved_from : (items : List A) → ((a : A) → Contains items a → Contains all a) → Covered zs (reserved_numbers rs (map (numbered tok number) items)) (reserved_numbers ss (map (numbered tok other) items))
  reserved_from [] within = covered_equal zs [] [] refl
  reserved_from (a ∷ items) within =
      covered_join zs
      (flaw_if (list_any (is_inside (number a)) rs) kind.ReservedNumber (tok a)) (flaw_if (list_any (is_inside (other a)) ss) kind.ReservedNumber (tok a))
      (reserved_numbers rs (map (numbered tok number) items)) (reserved_numbers ss (map (numbered tok other) items))
      (covered_if zs kind.ReservedNumber (tok a) (list_any (is_inside (number a)) rs) (list_any (is_inside (other a)) ss) (still_inside a (within a (contains_head a items))))
      (reserved_from items (λ x c. within x (contains_later a x items c)))

  pub covered_reserved : Covered zs (reserved_numbers rs (map (numbered tok number) all)) (reserved_numbers ss (map (numbered tok other) all))
  covered_reserved = reserved_from all (λ a c. c)
