-- The test of words joined by dots decides its definition.
use Rattle.std.proofs.Common.{◌≡◌, ◌≢◌, ℕ, Bool, true, false, ◌==◌, List, [], ◌∷◌, refl, sym, ap, ◌∙◌, subst, ◌↔◌, IsTrue, inl, inr}
use Rattle.std.specs.List.{All, AllPass, list_all, join_with_byte, slice_split}
use Rattle.std.proofs.lemmas.Bool.{false≢true, cases_Bool, eqb-true}
use Rattle.std.proofs.lemmas.List.Elements.{All-nil, All-cons, All-head, All-tail}
use Rattle.std.proofs.lemmas.List.Splits.{slice_split_at, slice_split_none, join_with_byte-slice_split}
use Rattle.proto_text.proofs.Common.{EachByte, class_of, extends_word, is_identifier, IsRun, is_run, is_run_again, run_is}
use Rattle.proto_text.specs.declared.class.Class.TheVariants.{Letter}
use Rattle.proto_files.proofs.WorkspacePathTest.{AllPass-from_list_all, list_all-from_AllPass}
use Rattle.proto_edit_entries.specs.EditsAsked.{IsDotted}

no_dot : (b : ℕ) → is_identifier b ≡ true → (b == 46) ≡ false
unfolding class_of
no_dot b h = elim (cases_Bool (b == 46)) [
  | inl t ↦ absurd (false≢true (sym (ap is_identifier (eqb-true b 46 t)) ∙ h))
  | inr f ↦ f
]

none_dotted : (bytes : List ℕ) → EachByte is_identifier bytes → All (λ b. (b == 46) ≡ false) bytes
none_dotted [] h = All-nil (λ b. (b == 46) ≡ false)
none_dotted (b ∷ bytes) h = All-cons (λ b. (b == 46) ≡ false) b bytes (no_dot b h.0) (none_dotted bytes h.1)

word_no_dot : (word : List ℕ) → IsRun Letter word → All (λ b. (b == 46) ≡ false) word
word_no_dot [] h = absurd h
word_no_dot (b ∷ bytes) h = none_dotted (b ∷ bytes) (ap extends_word h.0, h.1)

-- words are the parts of the text that they join to
split_again : (word : List ℕ) (words : List (List ℕ)) → AllPass is_run (word ∷ words) → slice_split (λ b. b == 46) (join_with_byte 46 (word ∷ words)) ≡ word ∷ words
split_again word [] h = slice_split_none (λ b. b == 46) word (word_no_dot word (run_is word (All-head (λ x. is_run x ≡ true) word [] h)))
split_again word (next ∷ words) h =
    slice_split_at (λ b. b == 46) word 46 (join_with_byte 46 (next ∷ words)) (word_no_dot word (run_is word (All-head (λ x. is_run x ≡ true) word (next ∷ words) h))) refl
    ∙ ap (λ rest. word ∷ rest) (split_again next words (All-tail (λ x. is_run x ≡ true) word (next ∷ words) h))

parts_pass : (name : List ℕ) (words : List (List ℕ)) → name ≢ [] → name ≡ join_with_byte 46 words → AllPass is_run words → AllPass is_run (slice_split (λ b. b == 46) name)
parts_pass name [] some e h = absurd (some e)
parts_pass name (word ∷ words) some e h =
    subst (λ xs. AllPass is_run xs) (sym (ap (slice_split (λ b. b == 46)) e ∙ split_again word words h)) h

not_empty : (name : List ℕ) → list_all is_run (slice_split (λ b. b == 46) name) ≡ true → name ≢ []
not_empty name h none = false≢true (sym (ap (λ n. list_all is_run (slice_split (λ b. b == 46) n)) none) ∙ h)

-- the test says that the text is words joined by dots
pub is_dotted_by_test : (name : List ℕ) (r : Bool) → r ≡ list_all is_run (slice_split (λ b. b == 46) name) → IsTrue r ↔ IsDotted name
is_dotted_by_test name r e = (
  λ h. record {
    some = not_empty name (sym e ∙ h);
    parted = (slice_split (λ b. b == 46) name, sym (join_with_byte-slice_split 46 name), AllPass-from_list_all is_run _ (sym e ∙ h));
  },
  λ h. e ∙ list_all-from_AllPass is_run _ (parts_pass name h.parted.0 h.some h.parted.1 h.parted.2),
)

pub run_by_test : (word : List ℕ) (r : Bool) → IsTrue r ↔ IsRun Letter word → r ≡ is_run word
run_by_test word true h = sym (is_run_again word (h.0 refl))
run_by_test word false h = elim (cases_Bool (is_run word)) [
  | inl t ↦ absurd (false≢true (h.1 (run_is word t)))
  | inr f ↦ sym f
]
