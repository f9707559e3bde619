-- Numbers with a cap and without one: those below the cap are the same, and the others are past every limit (for the crates above).
use Rattle.std.proofs.Common.{◌≡◌, ℕ, zero, suc, ◌-◌, ◌^◌, ◌≤◌, min, ℤ, pos, negsuc, neg_ℤ, int_le, Bool, true, false, not, ◌&&◌, if◌then◌else◌, Option, Some, None, is_some, refl, sym, ◌∙◌, ap, subst, inl, inr, arith, int_eq}
use Rattle.proto_base.proofs.Common.{cases_lt, and_parts, and_from, false_from_ne_true, true_from_ne_false, Decides-int_eq, same_from_decides}
use borrow.Author.Differences.{le-true, le-false, same_in}
use Rattle.proto_tree.specs.declared.tree.RangeEnd.{RangeEnd}
use Rattle.proto_tree.specs.declared.tree.RangeEnd.TheVariants as range_end
use Rattle.proto_tree.specs.declared.tree.UpTo.{UpTo}
use Rattle.proto_tree.specs.declared.tree.Signed.{Signed}
use Rattle.proto_ast.proofs.Common.{past, number_value, Scene, text, up_to_cap, number_at, signed_value}
use Rattle.proto_desc_numbers.specs.NumberFlaws.{is_within, is_field_number, is_value_number, most_field, least_value, most_value, bound_of, end_of}

-- ---- the order

pub le_itself : (a : ℤ) → int_le a a ≡ true
le_itself a = true_from_ne_false (int_le a a) (λ e. let x = le-false a a e in omega (arith, x))

pub le_through : (a b c : ℤ) → int_le a b ≡ true → int_le b c ≡ true → int_le a c ≡ true
le_through a b c h k = true_from_ne_false (int_le a c) (λ e. let x = le-false a c e in let y = le-true a b h in let z = le-true b c k in omega (arith, x, y, z))

pub le_or_back : (a b : ℤ) → int_le a b ≡ false → int_le b a ≡ true
le_or_back a b h = true_from_ne_false (int_le b a) (λ e. let x = le-false a b h in let y = le-false b a e in omega (arith, x, y))

pub le_both : (a b : ℤ) → int_le a b ≡ true → int_le b a ≡ true → a ≡ b
le_both a b h k = let x = le-true a b h in let y = le-true b a k in same_in a b (omega (arith, x, y))

-- ---- numbers that no test below the cap tells apart

-- nearer to 0 than the cap
abbrev pub is_near : ℤ → Bool
is_near n = is_within (negsuc (2 ^ 64 - 2)) (pos (2 ^ 64 - 1)) n

pub record Alike (a b : ℤ) : Type 0 where
  pub under : (m : ℤ) → is_near m ≡ true → int_le a m ≡ int_le b m
  pub over : (m : ℤ) → is_near m ≡ true → int_le m a ≡ int_le m b

pub alike_itself : (a : ℤ) → Alike a a
alike_itself a = record { under = λ m n. refl; over = λ m n. refl }

pub alike_back : (a b : ℤ) → Alike a b → Alike b a
alike_back a b h = record { under = λ m n. sym (h.under m n); over = λ m n. sym (h.over m n) }

pub within_alike : (least most a b : ℤ) → is_near least ≡ true → is_near most ≡ true → Alike a b → is_within least most a ≡ is_within least most b
within_alike least most a b l m h = ap (λ t. t && int_le a most) (h.over least l) ∙ ap (λ t. int_le least b && t) (h.under most m)

-- between two that are near
pub near_between : (least most n : ℤ) → is_near least ≡ true → is_near most ≡ true → int_le least n ≡ true → int_le n most ≡ true → is_near n ≡ true
near_between least most n l m h k =
    and_from (int_le (negsuc (2 ^ 64 - 2)) n) (int_le n (pos (2 ^ 64 - 1)))
    (le_through (negsuc (2 ^ 64 - 2)) least n (and_parts (int_le (negsuc (2 ^ 64 - 2)) least) (int_le least (pos (2 ^ 64 - 1))) l).0 h)
    (le_through n most (pos (2 ^ 64 - 1)) k (and_parts (int_le (negsuc (2 ^ 64 - 2)) most) (int_le most (pos (2 ^ 64 - 1))) m).1)

pub near_within : (least most n : ℤ) → is_near least ≡ true → is_near most ≡ true → is_within least most n ≡ true → is_near n ≡ true
near_within least most n l m h = let p = and_parts (int_le least n) (int_le n most) h in near_between least most n l m p.0 p.1

pub same_near : (a b : ℤ) → Alike a b → is_near a ≡ true → a ≡ b
same_near a b h n = le_both a b (sym (h.over a n) ∙ le_itself a) (sym (h.under a n) ∙ le_itself a)

pub numbers_same : (a b : ℤ) → int_eq a b ≡ true → a ≡ b
numbers_same a b h = (Decides-int_eq a b).0 h

-- two that are alike are equal to what is near, or both are not
pub equal_alike : (a b m : ℤ) → is_near m ≡ true → Alike a b → int_eq a m ≡ int_eq b m
equal_alike a b m n h =
    same_from_decides (int_eq a m) (int_eq b m) (Decides-int_eq a m) (
      (λ e. let p : b ≡ m = (Decides-int_eq b m).0 e in sym (same_near b a (alike_back a b h) (ap is_near p ∙ n)) ∙ p),
      (λ p. (Decides-int_eq b m).1 (sym (same_near a b h (ap is_near p ∙ n)) ∙ p)),
    )

-- ---- a cap

far_under : (n : ℕ) (m : ℤ) → past ≤ n → is_near m ≡ true → int_le (pos n) m ≡ false
far_under n m l h =
    let near = le-true m (pos (2 ^ 64 - 1)) (and_parts (int_le (negsuc (2 ^ 64 - 2)) m) (int_le m (pos (2 ^ 64 - 1))) h).1 in
    false_from_ne_true (int_le (pos n) m) (λ e. let x = le-true (pos n) m e in omega (arith, x, near, l))

far_over : (n : ℕ) (m : ℤ) → past ≤ n → is_near m ≡ true → int_le m (pos n) ≡ true
far_over n m l h =
    let near = le-true m (pos (2 ^ 64 - 1)) (and_parts (int_le (negsuc (2 ^ 64 - 2)) m) (int_le m (pos (2 ^ 64 - 1))) h).1 in
    true_from_ne_false (int_le m (pos n)) (λ e. let x = le-false m (pos n) e in omega (arith, x, near, l))

deep_under : (n : ℕ) (m : ℤ) → past ≤ suc n → is_near m ≡ true → int_le (negsuc n) m ≡ true
deep_under n m l h =
    let near = le-true (negsuc (2 ^ 64 - 2)) m (and_parts (int_le (negsuc (2 ^ 64 - 2)) m) (int_le m (pos (2 ^ 64 - 1))) h).0 in
    true_from_ne_false (int_le (negsuc n) m) (λ e. let x = le-false (negsuc n) m e in omega (arith, x, near, l))

deep_over : (n : ℕ) (m : ℤ) → past ≤ suc n → is_near m ≡ true → int_le m (negsuc n) ≡ false
deep_over n m l h =
    let near = le-true (negsuc (2 ^ 64 - 2)) m (and_parts (int_le (negsuc (2 ^ 64 - 2)) m) (int_le m (pos (2 ^ 64 - 1))) h).0 in
    false_from_ne_true (int_le m (negsuc n)) (λ e. let x = le-true m (negsuc n) e in omega (arith, x, near, l))

far_alike : (n k : ℕ) → past ≤ n → past ≤ k → Alike (pos n) (pos k)
far_alike n k l r = record { under = λ m h. far_under n m l h ∙ sym (far_under k m r h); over = λ m h. far_over n m l h ∙ sym (far_over k m r h) }

deep_alike : (n k : ℕ) → past ≤ n → past ≤ k → Alike (neg_ℤ (pos n)) (neg_ℤ (pos k))
deep_alike zero k l r = absurd (omega (arith, l))
deep_alike (suc n) zero l r = absurd (omega (arith, r))
deep_alike (suc n) (suc k) l r = record { under = λ m h. deep_under n m l h ∙ sym (deep_under k m r h); over = λ m h. deep_over n m l h ∙ sym (deep_over k m r h) }

-- each number is the same with one cap and the other, as far as tests below the cap tell
pub record AlikeCaps (c d : Option ℕ) : Type 0 where
  pub plain : (n : ℕ) → Alike (pos (up_to_cap c n)) (pos (up_to_cap d n))
  pub negative : (n : ℕ) → Alike (neg_ℤ (pos (up_to_cap c n))) (neg_ℤ (pos (up_to_cap d n)))

pub caps_back : (c d : Option ℕ) → AlikeCaps c d → AlikeCaps d c
caps_back c d h = record {
  plain = λ n. alike_back (pos (up_to_cap c n)) (pos (up_to_cap d n)) (h.plain n);
  negative = λ n. alike_back (neg_ℤ (pos (up_to_cap c n))) (neg_ℤ (pos (up_to_cap d n))) (h.negative n);
}

capped_plain : (n : ℕ) → Alike (pos (min past n)) (pos n)
capped_plain n = elim (cases_lt n past) [
  | inl low ↦ let e : n ≡ min past n = omega (arith, low) in subst (λ (k : ℕ). Alike (pos k) (pos n)) e (alike_itself (pos n))
  | inr high ↦ let e : past ≤ min past n = omega (arith, high) in far_alike (min past n) n e high
]

capped_negative : (n : ℕ) → Alike (neg_ℤ (pos (min past n))) (neg_ℤ (pos n))
capped_negative n = elim (cases_lt n past) [
  | inl low ↦ let e : n ≡ min past n = omega (arith, low) in subst (λ (k : ℕ). Alike (neg_ℤ (pos k)) (neg_ℤ (pos n))) e (alike_itself (neg_ℤ (pos n)))
  | inr high ↦ let e : past ≤ min past n = omega (arith, high) in deep_alike (min past n) n e high
]

pub past_or_none : (c : Option ℕ) → c ≡ Some past → AlikeCaps c None
past_or_none c e = subst (λ (z : Option ℕ). AlikeCaps z None) (sym e) (record { plain = capped_plain; negative = capped_negative })

-- ---- what a scene says with one cap and the other

abbrev pub capped : Scene → Option ℕ → Scene
capped scene c = record scene { cap = c }

module _ (scene : Scene) (c d : Option ℕ) (caps : AlikeCaps c d) where
  pub alike_at : (token : ℕ) → Alike (number_at (capped scene c) token) (number_at (capped scene d) token)
  alike_at token = caps.plain (number_value (text scene token))

  pub alike_signed : (s : Signed) → Alike (signed_value (capped scene c) s) (signed_value (capped scene d) s)
  alike_signed s = go (is_some s.minus) (number_value (text scene s.number))
    where
      go : (b : Bool) (n : ℕ) → Alike (if b then neg_ℤ (pos (up_to_cap c n)) else pos (up_to_cap c n)) (if b then neg_ℤ (pos (up_to_cap d n)) else pos (up_to_cap d n))
      go true n = caps.negative n
      go false n = caps.plain n

pub alike_bound : {N : Type 0} (most : ℤ) (number other : N → ℤ) → ((n : N) → Alike (number n) (other n)) → (end : RangeEnd N) → Alike (bound_of most number end) (bound_of most other end)
alike_bound most number other h (range_end.Number n) = h n
alike_bound most number other h (range_end.Max i) = alike_itself most

pub alike_end : {N : Type 0} (most : ℤ) (number other : N → ℤ) → ((n : N) → Alike (number n) (other n)) → (first : N) (end : Option (UpTo N)) → Alike (end_of most number first end) (end_of most other first end)
alike_end most number other h first None = h first
alike_end most number other h first (Some to) = alike_bound most number other h to.end

-- ---- the limits

pub record IsLimit (limits : ℤ → Bool) : Type 0 where
  pub near : (a : ℤ) → limits a ≡ true → is_near a ≡ true
  pub same : (a b : ℤ) → Alike a b → limits a ≡ limits b

pub field_limit : IsLimit is_field_number
field_limit = record {
  near = λ a h. near_within (pos 1) most_field a refl refl (and_parts (is_within (pos 1) most_field a) (not (is_within (pos 19000) (pos 19999) a)) h).0;
  same = λ a b h.
      ap (λ t. t && not (is_within (pos 19000) (pos 19999) a)) (within_alike (pos 1) most_field a b refl refl h)
      ∙ ap (λ t. is_within (pos 1) most_field b && not t) (within_alike (pos 19000) (pos 19999) a b refl refl h);
}

pub value_limit : IsLimit is_value_number
value_limit = record { near = λ a h. near_within least_value most_value a refl refl h; same = λ a b h. within_alike least_value most_value a b refl refl h }
