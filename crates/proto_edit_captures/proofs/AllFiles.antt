-- The first reference of all files that a rename captures, and the rename that an aim asks for.
use Rattle.std.proofs.Common.{◌≡◌, ℕ, ◌+◌, ◌<◌, true, List, [], ◌∷◌, length, map, Option, Some, None, refl, sym, ap, subst, ◌∙◌, inl, inr, arith, Result, Ok, Err, IfOk, Contains}
use Rattle.proto_case.specs.Camel.{entry_name}
use Rattle.proto_text.proofs.Common.{Lexeme, lexeme_at, word_at, is_run}
use Rattle.proto_text.specs.declared.lexer.Token.{Token as TextToken}
use Rattle.proto_files.proofs.Common.{HasNoFault, AreTokensOf, ReadOf, AreRead, read_at, FileOf, file_at}
use Rattle.proto_names_imports.specs.Links.{LinkFaults, names_of_files, text_of, uses_of}
use Rattle.proto_names_rules.proofs.Common.{Collides, target, At, at, used_in, joined, Token, Used, name_of, spell, map_append}
use Rattle.proto_edit_rename_laws.proofs.Common.{Captures, StandsBefore, Target, name_map, tokens_are_inside}
use Rattle.proto_edit_captures.specs.Common.{IsTargetOf, IsFoundTarget, RenameTarget, AreNewNames, IsFirstCaptured, IsFirstIn, IsRenameOf, NewTexts, texts_by}
use Rattle.proto_edit_captures.proofs.JoinedNames.{word_is_plain}
use Rattle.proto_names.proofs.UsesOfFiles.{from_use}

pub if_ok : {A E : Type 0} {P Q : A → Type 0} (r : Result A E) → IfOk r P → ((x : A) → P x → Q x) → IfOk r Q
if_ok (Ok x) h f = f x h
if_ok (Err e) h f = tt

-- ---- the file of a use

module _ (files : List FileOf) (reads : List ReadOf) (are : AreRead files reads) (t : Target) (to : List ℕ) where
  -- a captured use by its file
  captured_in : (u : Used At) → Captures files reads t to u → (k : ℕ) × (v : Used ℕ) × (k < length files) × Contains (uses_of reads k) v × (used_in k v ≡ u)
  captured_in u c =
      let o = from_use 0 reads u c.used in
      let l = o.2 in
      let s = are.same in
      let e : 0 + o.0 ≡ o.0 = omega arith in
      (o.0, o.1, omega (arith, l, s), o.3, subst (λ m. used_in m o.1 ≡ u) e o.4)

  pub none_in_all : ((k : ℕ) → k < length files → IsFirstIn files reads t to k None) → IsFirstCaptured files reads t to None
  none_in_all none u c =
      let o = captured_in u c in
      none o.0 o.2 o.1 o.3 (subst (Captures files reads t to) (sym o.4) c)

  pub first_of_all : (file token : ℕ) → ((k : ℕ) → k < file → IsFirstIn files reads t to k None) → IsFirstIn files reads t to file (Some token) → IsFirstCaptured files reads t to (Some (record { file = file; token = token }))
  first_of_all file token none one = (used_in file one.0, one.2, ap (at file) one.3, least)
    where
      least : (x : Used At) → Captures files reads t to x → StandsBefore x.first (at file one.0.first) → ⊥
      least x c before =
          let o = captured_in x c in
          let c' : Captures files reads t to (used_in o.0 o.1) = subst (Captures files reads t to) (sym o.4) c in
          let place : at o.0 o.1.first ≡ x.first = ap (λ (z : Used At). z.first) o.4 in
          let e1 = ap (λ (z : At). z.file) place in
          let e2 = ap (λ (z : At). z.token) place in
          elim before [
            | inl l ↦ none o.0 (omega (arith, l, e1)) o.1 o.3 c'
            | inr b ↦
                let same : o.0 ≡ file = e1 ∙ b.0 in
                let l = b.1 in
                let e3 = one.3 in
                one.4 o.1 (subst (λ k. Contains (uses_of reads k) o.1) same o.3) (omega (arith, l, e2, e3)) (subst (λ k. Captures files reads t to (used_in k o.1)) same c')
          ]

-- ---- an aim

pub aim_inside : (files : List FileOf) (aim : RenameTarget) → ((reads : List ReadOf) × AreRead files reads) → IsTargetOf files aim → aim.file < length files
aim_inside files aim r is =
    let x = is r.0 r.1 in
    let t = x.0 in
    let i = tokens_are_inside files r.0 r.1 t.token (inl (t.aim, x.1.named.within, (t.above, inl x.1.named.path))) in
    let l = i.0 in
    let e = ap (λ (z : At). z.file) x.1.token in
    omega (arith, l, e)

module _ (files : List FileOf) (aim : RenameTarget) (to : List ℕ) (reads : List ReadOf) (are : AreRead files reads) (t : Target) (aimed : IsFoundTarget files reads aim t) where
  pub rename_of : HasNoFault (LinkFaults files) → is_run to ≡ true → (Collides (name_map files reads t to) (names_of_files files reads) → ⊥) → IsRenameOf files reads t to
  rename_of clean word free = record { read = are; clean = clean; name = aim.name.now; named = aimed.named; word = word_is_plain to word; free = free }

  pub names_of_aim : (ls : List Lexeme) (n : NewTexts) → aim.file < length files → ((tokens : List TextToken) → AreTokensOf files aim.file tokens → ls ≡ map (lexeme_at (file_at files aim.file).bytes) tokens)
      → n ≡ texts_by aim.name.now (word_at ls aim.token) aim.is_map to → AreNewNames files reads t to n
  names_of_aim ls n l lexemes h =
      let T = text_of files reads in
      let full : aim.name.now ≡ joined (target (name_map files reads t to)) =
      sym aimed.named.name_is ∙ ap joined (ap (name_of T entry_name) aimed.named.path ∙ map_append (spell T entry_name) t.above (Token t.token ∷ [])) in
      let old : word_at ls aim.token ≡ T t.token = ap (λ z. word_at z aim.token) (lexemes (read_at reads aim.file).tokens (are.tokens aim.file l)) ∙ ap T aimed.token in
      h ∙ ap (λ z. texts_by z (word_at ls aim.token) aim.is_map to) full ∙ ap (λ z. texts_by (joined (target (name_map files reads t to))) z aim.is_map to) old
      ∙ ap (λ z. texts_by (joined (target (name_map files reads t to))) (T t.token) z to) aimed.is_map

pub nothing : (o : Option ℕ) → ((x : ℕ) → o ≡ Some x → ⊥) → o ≡ None
nothing None h = refl
nothing (Some x) h = absurd (h x refl)
