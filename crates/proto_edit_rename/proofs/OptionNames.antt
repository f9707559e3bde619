-- What a rename asks of options: words that may name its target, and its full names.
use Rattle.std.proofs.Common.{◌≡◌, ◌↔◌, ℕ, Bool, true, false, ◌||◌, IsTrue, List, [], ◌∷◌, ◌++◌, Option, Some, None, refl, sym, ap, subst, ◌∙◌, true≢false}
use Rattle.proto_base.proofs.Common.{append_cancel_right, contains_map}
use Rattle.proto_case.specs.Camel.{entry_name}
use Rattle.proto_text.specs.Words.{is_run}
use Rattle.proto_files.proofs.Common.{AreRead, FileOf, ReadOf}
use Rattle.proto_names_rules.proofs.Common.{ArePlain, At, Token, at, joined, map_append, name_of, spell, symbol_of}
use Rattle.proto_names_rules.specs.Edits.{target}
use Rattle.proto_names_imports.proofs.Common.{link_skeleton, names_are_plain, plain_join, text_of}
use Rattle.proto_edit_rules.specs.Options.{HasWritten, IsOptionWord, is_fixed, is_named_in_values}
use Rattle.proto_edit_rules.specs.Rename.{IsValueWord, NamesOptions}
use Rattle.proto_option_values.specs.OptionValues.{IsOptionValue}
use Rattle.proto_edit_entries.specs.declared.refusal.Refusal.{Refusal}
use Rattle.proto_edit_entries.specs.declared.refusal.Refusal.TheVariants as refusal
use Rattle.proto_edit_rename_laws.proofs.Common.{Target, name_map}
use Rattle.proto_edit_captures.proofs.JoinedNames.{joined_last, lead, plain_parts, word_is_plain}
use Rattle.proto_edit_captures.specs.FoundTargets.{IsFoundTarget}
use Rattle.proto_edit_captures.specs.declared.rename_target.RenameTarget.{RenameTarget}

module _ (files : List FileOf) (reads : List ReadOf) (r : AreRead files reads) (a : RenameTarget) (t : Target) (h : IsFoundTarget files reads a t) (to : List ℕ) where
  -- ---- words of options

  -- a kind that no option names has no word
  pub unnamed : is_named_in_values a.kind ≡ false → (x : At) → IsValueWord files reads t to x → ⊥
  unnamed e x w = true≢false (sym w.0 ∙ ap is_named_in_values (sym h.kind) ∙ e)

  module _ (named : is_named_in_values a.kind ≡ true) (own : List ℕ) (is : own ≡ text_of files reads (at a.file a.token)) where
    -- the words that are asked for are those of the case
    word_to : (x : At) → IsOptionWord files reads a.file (own ∷ to ∷ []) x → IsValueWord files reads t to x
    word_to x w = (
      ap is_named_in_values (sym h.kind) ∙ named,
      subst (λ (z : At). IsOptionWord files reads z.file (text_of files reads z ∷ to ∷ []) x) h.token (subst (λ (z : List ℕ). IsOptionWord files reads a.file (z ∷ to ∷ []) x) is w),
    )

    word_from : (x : At) → IsValueWord files reads t to x → IsOptionWord files reads a.file (own ∷ to ∷ []) x
    word_from x w = subst (λ (z : List ℕ). IsOptionWord files reads a.file (z ∷ to ∷ []) x) (sym is) (subst (λ (z : At). IsOptionWord files reads z.file (text_of files reads z ∷ to ∷ []) x) (sym h.token) w.1)

    pub first_is : (o : Option Refusal) → IsOptionValue files reads (IsOptionWord files reads a.file (own ∷ to ∷ [])) o → IsOptionValue files reads (IsValueWord files reads t to) o
    first_is None none = λ x w. none x (word_from x w)
    first_is (Some (refusal.OptionValue path offset)) f = record {
      a = f.a;
      holds = word_to f.a f.holds;
      least = λ x w. f.least x (word_from x w);
      path_is = f.path_is;
      offset_is = f.offset_is;
    }
    first_is (Some _) f = absurd f

  -- ---- full names

  abbrev pub old : List (List ℕ)
  old = target (name_map files reads t to)

  abbrev pub new : List (List ℕ)
  new = (name_map files reads t to).parent ++ to ∷ []

  path_is : name_of (text_of files reads) entry_name t.aim.path ≡ old
  path_is = ap (name_of (text_of files reads) entry_name) h.named.path ∙ map_append (spell (text_of files reads) entry_name) t.above (Token t.token ∷ [])

  pub old_plain : ArePlain old
  old_plain = subst ArePlain path_is (names_are_plain files reads r (symbol_of (text_of files reads) entry_name t.aim) (contains_map (symbol_of (text_of files reads) entry_name) (link_skeleton files reads).declared t.aim h.named.within))

  pub old_text : joined old ≡ a.name.now
  old_text = ap joined (sym path_is) ∙ h.named.name_is

  -- its name is a front, and its word behind that
  spelled : a.name.now ≡ lead (name_map files reads t to).parent ++ text_of files reads (at a.file a.token)
  spelled = sym old_text ∙ joined_last (name_map files reads t to).parent (text_of files reads t.token) ∙ ap (λ (z : At). lead (name_map files reads t to).parent ++ text_of files reads z) (sym h.token)

  pub new_plain : is_run to ≡ true → ArePlain new
  new_plain word = plain_join (name_map files reads t to).parent to (plain_parts (name_map files reads t to).parent (text_of files reads t.token) old_plain).0 (word_is_plain to word)

  module _ (own : List ℕ) (own_is : own ≡ text_of files reads (at a.file a.token)) where
    by_own : a.name.now ≡ lead (name_map files reads t to).parent ++ own
    by_own = spelled ∙ ap (λ (z : List ℕ). lead (name_map files reads t to).parent ++ z) (sym own_is)

    pub front_there : (front : List ℕ) × (a.name.now ≡ front ++ own)
    front_there = (lead (name_map files reads t to).parent, by_own)

    pub new_text : (front : List ℕ) → a.name.now ≡ front ++ own → joined new ≡ front ++ to
    new_text front is =
        joined_last (name_map files reads t to).parent to
        ∙ ap (λ (z : List ℕ). z ++ to) (append_cancel_right (lead (name_map files reads t to).parent) front own (sym by_own ∙ is))

  -- ---- whether one of them is fixed

  pub none_written : (HasWritten files → ⊥) → IsTrue false ↔ NamesOptions files reads t to
  none_written none = (λ e. absurd (true≢false (sym e)), λ n. absurd (none n.0))

  module _ (written : HasWritten files) where
    pub old_asked : true ≡ is_fixed old → IsTrue true ↔ NamesOptions files reads t to
    old_asked e = (λ _. (written, ap (λ (z : Bool). z || is_fixed new) (sym e)), λ _. refl)

    pub new_asked : false ≡ is_fixed old → (b : Bool) → b ≡ is_fixed new → IsTrue b ↔ NamesOptions files reads t to
    new_asked e b is =
        let both : (is_fixed old || is_fixed new) ≡ is_fixed new = ap (λ (z : Bool). z || is_fixed new) (sym e) in
        (λ h. (written, both ∙ sym is ∙ h), λ n. is ∙ sym both ∙ n.1)
