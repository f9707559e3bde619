-- A rename does not suit a file only where a carriage return stands alone in it.
use Rattle.std.proofs.Common.{◌≡◌, ◌≢◌, ◌⊎◌, ℕ, zero, suc, ◌+◌, All, List, [], ◌∷◌, ◌++◌, slice_get, Option, Some, None, refl, sym, ap, subst, ◌∙◌, arith, inl, inr, Contains}
use Rattle.proto_base.proofs.Common.{All-cons, All-from_recursion, AllByRecursion, Text, cases_Bool, cases_eq, none-some, same_Some}
use Rattle.proto_base.specs.Ascii as ascii
use Rattle.proto_text.proofs.Common.{EachByte, Edit, IsRun, edit_if, is_identifier, is_run, run_is, text_at, token_edits}
use Rattle.proto_text.specs.declared.class.Class.TheVariants as class
use Rattle.proto_text.specs.declared.lexer.Token.{Token}
use Rattle.proto_files.proofs.Common.{AreRead, FileOf, ReadOf, file_at, read_at}
use Rattle.proto_names_rules.specs.Grown.{at}
use Rattle.proto_edit_entries.proofs.Common.{ChangeOf, rename}
use Rattle.proto_edit_rename_laws.proofs.ChangesPut.{edits_at, from_changes, is_by}
use Rattle.proto_edit_rename_laws.proofs.Common.{not_an_identifier, renamed_words, words_of_file}
use Rattle.proto_edit_rename_laws.proofs.OldTexts.{old_texts}
use Rattle.proto_edit.specs.Workspaces.{AreChanges, IsAdmissible}
use Rattle.proto_answers.specs.Common.{HasLoneReturn, HasNoLineEnd, IsLoneReturn, RenameLineEndsAreLone}
use Rattle.proto_answers.proofs.StepPositions.{steps_have_positions}
use Rattle.proto_answers.proofs.TokenPositions.{extends_no_feed, extends_no_return, letter≢space, no_feed, no_return}

-- ---- a carriage return stands alone, or none does

feed_or_not : (bs : List ℕ) → (slice_get bs 0 ≡ Some ascii.line_feed) ⊎ (slice_get bs 0 ≡ Some ascii.line_feed → ⊥)
feed_or_not [] = inr (λ e. none-some ascii.line_feed e)
feed_or_not (b ∷ bs) = elim (cases_eq b ascii.line_feed) [
  | inl is ↦ inl (ap (λ (x : ℕ). Some x) is)
  | inr other ↦ inr (λ e. other (same_Some b ascii.line_feed e))
]

first_alone : (b : ℕ) (bs : List ℕ) → IsLoneReturn (b ∷ bs) 0 ⊎ (IsLoneReturn (b ∷ bs) 0 → ⊥)
first_alone b bs = elim (cases_eq b ascii.carriage_return) [
  | inr other ↦ inr (λ r. other (same_Some b ascii.carriage_return r.here))
  | inl is ↦ elim (feed_or_not bs) [
    | inl feed ↦ inr (λ r. r.alone feed)
    | inr none ↦ inl (record { here = ap (λ (x : ℕ). Some x) is; alone = none })
  ]
]

-- the byte behind the next one
one_later : (b : ℕ) (bs : List ℕ) (o : ℕ) → slice_get (b ∷ bs) (suc o + 1) ≡ slice_get bs (o + 1)
one_later b bs o = let e : suc o + 1 ≡ suc (o + 1) = omega arith in ap (λ (n : ℕ). slice_get (b ∷ bs) n) e

later_alone : (b : ℕ) (bs : List ℕ) (o : ℕ) → IsLoneReturn bs o → IsLoneReturn (b ∷ bs) (suc o)
later_alone b bs o r = record { here = r.here; alone = λ feed. r.alone (sym (one_later b bs o) ∙ feed) }

alone_later : (b : ℕ) (bs : List ℕ) (o : ℕ) → IsLoneReturn (b ∷ bs) (suc o) → IsLoneReturn bs o
alone_later b bs o r = record { here = r.here; alone = λ feed. r.alone (one_later b bs o ∙ feed) }

alone_or_not : (text : Text) → HasLoneReturn text ⊎ (HasLoneReturn text → ⊥)
alone_or_not [] = inr (λ r. none-some ascii.carriage_return r.1.here)
alone_or_not (b ∷ bs) = elim (alone_or_not bs) [
  | inl r ↦ inl (suc r.0, later_alone b bs r.0 r.1)
  | inr none ↦ elim (first_alone b bs) [
    | inl r ↦ inl (0, r)
    | inr other ↦ inr (λ r. by r.0 r.1 none other)
  ]
]
  where
    by : (o : ℕ) → IsLoneReturn (b ∷ bs) o → (HasLoneReturn bs → ⊥) → (IsLoneReturn (b ∷ bs) 0 → ⊥) → ⊥
    by zero r none other = other r
    by (suc o) r none other = none (o, alone_later b bs o r)

-- ---- a new word has no line end

no_line_end : (bytes : Text) → IsRun class.Letter bytes → HasNoLineEnd bytes
no_line_end [] is = absurd is
no_line_end (b ∷ bytes) is =
    All-cons (λ (x : ℕ). (x ≢ ascii.carriage_return) × (x ≢ ascii.line_feed)) b bytes (no_return b class.Letter is.0 letter≢space, no_feed b class.Letter is.0 letter≢space) (All-from_recursion (λ (x : ℕ). (x ≢ ascii.carriage_return) × (x ≢ ascii.line_feed)) bytes (each bytes is.1))
  where
    each : (bs : List ℕ) → EachByte is_identifier bs → AllByRecursion (λ (x : ℕ). (x ≢ ascii.carriage_return) × (x ≢ ascii.line_feed)) bs
    each [] h = tt
    each (x ∷ bs) h = ((extends_no_return x h.0, extends_no_feed x h.0), each bs h.1)

new_word_is : (files : List FileOf) (name to : Text) → IsAdmissible files (rename name to) → (reads : List ReadOf) → AreRead files reads → IsRun class.Letter to
new_word_is files name to admissible reads are = elim (cases_Bool (is_run to)) [
  | inl y ↦ run_is to y
  | inr n ↦ absurd (admissible 3 (reads, are, not_an_identifier n))
]

-- what each changed word becomes holds of each new text
each_new : (text : Text) (c : ℕ → Option Text) (P : Text → Type 0) (n : ℕ) (ts : List Token) → ((k : ℕ) (w : Text) → c k ≡ Some w → P w) → All (λ (d : Edit). P d.new) (token_edits text c n ts)
each_new text c P n ts h = All-from_recursion (λ (d : Edit). P d.new) (token_edits text c n ts) (go n ts)
  where
    go : (n : ℕ) (ts : List Token) → AllByRecursion (λ (d : Edit). P d.new) (token_edits text c n ts)
    go n [] = tt
    go n (t ∷ ts) = by (c n) refl (go (suc n) ts)
      where
        by : (o : Option Text) → c n ≡ o → AllByRecursion (λ (d : Edit). P d.new) (token_edits text c (suc n) ts) → AllByRecursion (λ (d : Edit). P d.new) (edit_if o t.span.start (text_at text t.span) ++ token_edits text c (suc n) ts)
        by None e rest = rest
        by (Some w) e rest = (h n w e, rest)

new_texts : (files : List FileOf) (name to : Text) (cs : List ChangeOf) → AreChanges files (rename name to) cs → IsAdmissible files (rename name to) → (c : ChangeOf) → Contains cs c → All (λ (d : Edit). HasNoLineEnd d.new) c.splices
new_texts files name to cs (reads, are, (t, named, is)) admissible c k =
    let w = renamed_words files reads t to in
    let h = from_changes w 0 files reads c (subst (λ (z : List ChangeOf). Contains z c) is k) in
    let by = is_by (file_at files h.0) (edits_at w 0 files reads h.0) c h.2 in
    let word = no_line_end to (new_word_is files name to admissible reads are) in
    subst (λ (es : List Edit). All (λ (d : Edit). HasNoLineEnd d.new) es) (sym by.splices)
    (each_new (file_at files h.0).bytes (words_of_file w (0 + h.0)) HasNoLineEnd 0 (read_at reads h.0).tokens
    (λ i v e. subst HasNoLineEnd (sym (old_texts files reads t to (at (0 + h.0) i) v e).0) word))

pub rename_line_ends_are_lone : RenameLineEndsAreLone
rename_line_ends_are_lone files after name to cs compiled step (c, k, none) =
    let there = step.step.put.there c k in
    elim (alone_or_not there.0.bytes) [
      | inl lone ↦ (c, k, there.0, there.1, there.2, lone)
      | inr never ↦ absurd (none there.0 there.1 there.2 (record {
        lines = never;
        positions = steps_have_positions files (rename name to) cs c there.0 compiled.workspace step.step.changes k there.1 there.2;
        ends = inr (new_texts files name to cs step.step.changes step.step.admissible c k);
      }))
    ]
