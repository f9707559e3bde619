-- A rename changes no token of the path or of the value of a custom option (for the crates above).
use Rattle.std.proofs.Common.{◌≡◌, ◌⊎◌, ℕ, zero, suc, ◌+◌, ◌<◌, Bool, true, false, List, [], ◌∷◌, ◌++◌, length, map, flat_map, Option, Some, None, refl, sym, ap, ap₂, subst, ◌∙◌, inl, inr, arith, Contains}
use Rattle.proto_base.proofs.Common.{AllByRecursion, All-contains, All-from_recursion, Contains-append_cases, Contains-append_left, Contains-append_right, contains_cases, contains_head, contains_later, from_map}
use Rattle.proto_base.specs.declared.profile.Profile.{Profile}
use Rattle.proto_ast.specs.Parts.{BlockOf, FieldOf, OptionOf, blocks_in, fields_from, fields_in, map_field, plain_field, setting_options, settings_of, statement_fields, statements}
use Rattle.proto_custom_options.proofs.Stretches.{customs_stand}
use Rattle.proto_custom_options.specs.CustomOptions.{CustomOf, custom_tokens, customs_in}
use Rattle.proto_files.proofs.Common.{ReadOf, AreRead, read_at, FileOf, file_at}
use Rattle.proto_names_imports.specs.Links.{link_skeleton, text_of}
use Rattle.proto_names_rules.specs.Grown.{at}
use Rattle.proto_text.specs.Tokens.{Lexeme}
use Rattle.proto_tree.specs.declared.class.Class.{Class}
use Rattle.proto_tree.specs.declared.class.Class.TheVariants as class
use Rattle.proto_tree.specs.declared.class.Expected.{Expected}
use Rattle.proto_tree.specs.declared.class.Expected.TheVariants as want
use Rattle.proto_tree.specs.declared.piece.Header.{Header}
use Rattle.proto_tree.specs.declared.piece.Header.TheVariants as header
use Rattle.proto_tree.specs.declared.piece.Statement.{Statement}
use Rattle.proto_tree.specs.declared.piece.Statement.TheVariants as statement
use Rattle.proto_tree.specs.declared.tree.Atom.{Atom}
use Rattle.proto_tree.specs.declared.tree.Atom.TheVariants as atom
use Rattle.proto_tree.specs.declared.tree.Behind.{Behind}
use Rattle.proto_tree.specs.declared.tree.Constant.{Constant}
use Rattle.proto_tree.specs.declared.tree.Constant.TheVariants as constant
use Rattle.proto_tree.specs.declared.tree.Custom.{Custom}
use Rattle.proto_tree.specs.declared.tree.CustomValue.{CustomValue}
use Rattle.proto_tree.specs.declared.tree.CustomValue.TheVariants as custom_value
use Rattle.proto_tree.specs.declared.tree.Setting.{Setting}
use Rattle.proto_tree.specs.declared.tree.Setting.TheVariants as setting
use Rattle.proto_tree.specs.declared.tree.Settings.{Settings}
use Rattle.proto_tree.specs.Flat.{fewer, flat_aggregate, flat_custom, flat_custom_value, flat_extension_name, flat_within, inner_expected, last_expected, other_expected}
use Rattle.proto_tree.proofs.Common.{Mark, mark, flat_all, flat_behind, flat_constant, flat_header, flat_option, flat_setting, flat_settings, flat_signed, flat_statement, flat_type, name as name_mark, one, only, text_mark, Numbered, numbered_append, HasRole, Role, is_other, is_value, names, refers, role_of, Tree, End, Leaf, Block, Spells, flat, classes_in, one_mark_in, roles_are_one_in, trees_are_numbered_in}
use Rattle.proto_edit_rules.specs.OptionViews.{texts_at}
use Rattle.proto_edit_rules.specs.Rename.{IsNamed, Target, name_map, renamed_words}
use Rattle.proto_edit_rename_laws.proofs.Common.{Names, lexemes_of}
use Rattle.proto_edit_rename_laws.proofs.DefaultTokens.{IsDefaultOf}
use Rattle.proto_edit_rename_laws.proofs.Rewording.{at_same, other_texts_stay}
use Rattle.proto_edit_rename_laws.proofs.TokenRoles.{IsOther, default_here, default_role, name_role, number_is_other, option_is_other, other_token_stays, spelled, there, use_role}
use Rattle.proto_edit_rename_laws.specs.OptionTexts.{OptionTextsStay, OptionTokensStay}

-- ---- stretches of a tree

-- these are places of the tree, one behind another
record Lies (tree : Tree) (ms : List Mark) : Type 0 where
  n : ℕ
  numbered : Numbered n ms
  inside : (m : Mark) → Contains ms m → Contains (flat tree) m

-- so many tokens before this one the tree wants this
record Wanted (tree : Tree) (token far : ℕ) (w : Expected) : Type 0 where
  place : Mark
  inside : Contains (flat tree) place
  at_is : place.at + far ≡ token
  want_is : place.want ≡ w

-- the words behind dots
abbrev path_marks : List (Behind ℕ) → List Mark
path_marks bs = flat_all (flat_behind class.Dot (only want.OptionName)) bs

-- the name of an option between brackets stands before the `=` before this word, and before it a `[` or a `,`
record IsLed (tree : Tree) (w : ℕ) : Type 0 where
  lead : Class
  lead_is : (lead ≡ class.LeftBracket) ⊎ (lead ≡ class.Comma)
  first : Wanted tree w 3 (want.One lead)
  named : Wanted tree w 2 want.OptionName

module _ (tree : Tree) where
  left : (a b : List Mark) → Lies tree (a ++ b) → Lies tree a
  left a b h = record { n = h.n; numbered = (numbered_append h.n a b h.numbered).0; inside = λ m c. h.inside m (Contains-append_left a b m c) }

  right : (a b : List Mark) → Lies tree (a ++ b) → Lies tree b
  right a b h = record { n = h.n + length a; numbered = (numbered_append h.n a b h.numbered).1; inside = λ m c. h.inside m (Contains-append_right a b m c) }

  tail : (m : Mark) (ms : List Mark) → Lies tree (m ∷ ms) → Lies tree ms
  tail m ms h = record { n = suc h.n; numbered = h.numbered.1; inside = λ x c. h.inside x (contains_later m x ms c) }

  role_here : (m : Mark) → Contains (flat tree) m → HasRole tree (role_of m.want) m.at
  role_here m c = (m, c, refl, refl)

  -- ---- the word that a custom option has for its value

  -- what stands before the `=` before it: a `)`, or a word behind a dot
  abbrev IsBehind : ℕ → Type 0
  IsBehind w = Wanted tree w 2 (want.One class.RightParenthesis) ⊎ Wanted tree w 3 (want.One class.Dot)

  behind_path : (b : Behind ℕ) (bs : List (Behind ℕ)) (equals w : ℕ) → Lies tree (path_marks (b ∷ bs) ++ (one class.Equals equals ++ only want.Constant w)) → Wanted tree w 3 (want.One class.Dot)
  behind_path b [] equals w h = record {
    place = mark (want.One class.Dot) b.separator;
    inside = h.inside (mark (want.One class.Dot) b.separator) (contains_head (mark (want.One class.Dot) b.separator) (mark want.OptionName b.item ∷ mark (want.One class.Equals) equals ∷ mark want.Constant w ∷ []));
    at_is = omega (arith, h.numbered.0, h.numbered.1.1.1.0);
    want_is = refl;
  }
  behind_path b (x ∷ bs) equals w h =
      let ends : List Mark = path_marks (x ∷ bs) ++ (one class.Equals equals ++ only want.Constant w) in
      behind_path x bs equals w (tail (mark want.OptionName b.item) ends (tail (mark (want.One class.Dot) b.separator) (mark want.OptionName b.item ∷ ends) h))

  behind_name : (close : ℕ) (bs : List (Behind ℕ)) (equals w : ℕ) → Lies tree (one class.RightParenthesis close ++ (path_marks bs ++ (one class.Equals equals ++ only want.Constant w))) → IsBehind w
  behind_name close [] equals w h = inl (record {
    place = mark (want.One class.RightParenthesis) close;
    inside = h.inside (mark (want.One class.RightParenthesis) close) (contains_head (mark (want.One class.RightParenthesis) close) (mark (want.One class.Equals) equals ∷ mark want.Constant w ∷ []));
    at_is = omega (arith, h.numbered.0, h.numbered.1.1.0);
    want_is = refl;
  })
  behind_name close (b ∷ bs) equals w h = inr (behind_path b bs equals w (tail (mark (want.One class.RightParenthesis) close) (path_marks (b ∷ bs) ++ (one class.Equals equals ++ only want.Constant w)) h))

  -- ---- the tokens of a custom option

  -- of no role that a rename changes
  abbrev AreOther : List Mark → Type 0
  AreOther ms = AllByRecursion (λ m. IsOther (role_of m.want)) ms

  other_is_other : IsOther is_other
  other_is_other = record { no_name = λ e. cc; no_use = λ e. cc; no_value = λ e. cc }

  path_other : (bs : List (Behind ℕ)) → AreOther (path_marks bs)
  path_other [] = tt
  path_other (b ∷ bs) = (other_is_other, (option_is_other, path_other bs))

  strings_other : (ts : List ℕ) → AreOther (flat_all text_mark ts)
  strings_other [] = tt
  strings_other (t ∷ ts) = (other_is_other, strings_other ts)

  signed_other : (minus : Option ℕ) (number : ℕ) → AreOther (flat_option (one class.Minus) minus ++ one class.Number number)
  signed_other None number = (number_is_other, tt)
  signed_other (Some i) number = (other_is_other, (number_is_other, tt))

  last_other : (n : ℕ) → IsOther (role_of (last_expected n))
  last_other zero = other_is_other
  last_other (suc n) = other_is_other

  inner_other : (n : ℕ) → IsOther (role_of (inner_expected n))
  inner_other zero = other_is_other
  inner_other (suc n) = other_is_other

  element_other : (colon : Bool) → IsOther (role_of (other_expected colon))
  element_other true = other_is_other
  element_other false = other_is_other

  within_other : (colon : Bool) (n : ℕ) (xs : List Atom) (j : ℕ) → AreOther (flat_within colon n xs j)
  within_other colon n [] j = (last_other n, tt)
  within_other colon n (atom.Open i ∷ xs) j = (other_is_other, within_other false (suc n) xs j)
  within_other colon n (atom.Close i ∷ xs) j = (inner_other n, within_other false (fewer n) xs j)
  within_other colon n (atom.Colon i ∷ xs) j = (other_is_other, within_other true n xs j)
  within_other colon n (atom.Word i ∷ xs) j = (option_is_other, within_other false n xs j)
  within_other colon n (atom.Other i ∷ xs) j = (element_other colon, within_other false n xs j)

  -- a token of no role that a rename changes, or the word of a value
  abbrev IsFree : ℕ → Type 0
  IsFree i = ((role : Role) × HasRole tree role i × IsOther role) ⊎ (HasRole tree is_value i × IsBehind i)

  abbrev tokens_of : List Mark → List ℕ
  tokens_of ms = map (λ (m : Mark). m.at) ms

  others_free : (ms : List Mark) → AreOther ms → Lies tree ms → (i : ℕ) → Contains (tokens_of ms) i → IsFree i
  others_free ms all h i c =
      let m = from_map (λ (m : Mark). m.at) ms i c in
      let other : IsOther (role_of m.0.want) = All-contains (λ (x : Mark). IsOther (role_of x.want)) ms m.0 (All-from_recursion (λ (x : Mark). IsOther (role_of x.want)) ms all) m.1 in
      inl (role_of m.0.want, (m.0, h.inside m.0 m.1, m.2, refl), other)

  value_lies : (close : ℕ) (bs : List (Behind ℕ)) (equals : ℕ) (ms : List Mark) → Lies tree (one class.RightParenthesis close ++ (path_marks bs ++ (one class.Equals equals ++ ms))) → Lies tree ms
  value_lies close bs equals ms h = right (one class.Equals equals) ms (right (path_marks bs) (one class.Equals equals ++ ms) (tail (mark (want.One class.RightParenthesis) close) (path_marks bs ++ (one class.Equals equals ++ ms)) h))

  value_free : (close : ℕ) (bs : List (Behind ℕ)) (equals : ℕ) (v : CustomValue) → Lies tree (one class.RightParenthesis close ++ (path_marks bs ++ (one class.Equals equals ++ flat_custom_value v)))
      → (i : ℕ) → Contains (tokens_of (flat_custom_value v)) i → IsFree i
  value_free close bs equals (custom_value.Constant (constant.Word w)) h i c =
      let value : Lies tree (only want.Constant w) = right (one class.Equals equals) (only want.Constant w) (right (path_marks bs) (one class.Equals equals ++ only want.Constant w) (tail (mark (want.One class.RightParenthesis) close) (path_marks bs ++ (one class.Equals equals ++ only want.Constant w)) h)) in
      let here : HasRole tree is_value w = role_here (mark want.Constant w) (value.inside (mark want.Constant w) (contains_head (mark want.Constant w) [])) in
      elim (contains_cases w i [] c) [
        | inl e ↦ subst IsFree e (inr (here, behind_name close bs equals w h))
        | inr d ↦ absurd (omega (arith, d.1))
      ]
  value_free close bs equals (custom_value.Constant (constant.Number n)) h i c = others_free (flat_signed n) (signed_other n.minus n.number) (value_lies close bs equals (flat_signed n) h) i c
  value_free close bs equals (custom_value.Constant (constant.Text t)) h i c = others_free (flat_constant (constant.Text t)) (other_is_other, strings_other t.rest) (value_lies close bs equals (flat_constant (constant.Text t)) h) i c
  value_free close bs equals (custom_value.Aggregate a) h i c = others_free (flat_aggregate a) (other_is_other, within_other false 0 a.atoms a.close) (value_lies close bs equals (flat_aggregate a) h) i c

  path_is : (bs : List (Behind ℕ)) → flat_map (λ b. b.separator ∷ b.item ∷ []) bs ≡ tokens_of (path_marks bs)
  path_is [] = refl
  path_is (b ∷ bs) = ap (λ is. b.separator ∷ b.item ∷ is) (path_is bs)

  custom_free : (c : Custom) → Lies tree (flat_custom c) → (i : ℕ) → Contains (custom_tokens c) i → IsFree i
  custom_free c h i k =
      let value : List Mark = one class.Equals c.equals ++ flat_custom_value c.value in
      let ends : List Mark = one class.RightParenthesis c.close ++ (path_marks c.path ++ value) in
      let closed : Lies tree ends = right (flat_extension_name c.name) ends (tail (mark (want.One class.NameParenthesis) c.«open») (flat_extension_name c.name ++ ends) h) in
      let path : Lies tree (path_marks c.path) = left (path_marks c.path) value (tail (mark (want.One class.RightParenthesis) c.close) (path_marks c.path ++ value) closed) in
      elim (Contains-append_cases (flat_map (λ b. b.separator ∷ b.item ∷ []) c.path) (tokens_of (flat_custom_value c.value)) i k) [
        | inl x ↦ others_free (path_marks c.path) (path_other c.path) path i (subst (λ (zs : List ℕ). Contains zs i) (path_is c.path) x)
        | inr y ↦ value_free c.close c.path c.equals c.value closed i y
      ]

  -- ---- the word that an option between brackets has for its value

  abbrev AreLed : List OptionOf → Type 0
  AreLed os = (o : OptionOf) → Contains os o → (w : ℕ) → o.value ≡ constant.Word w → IsLed tree w

  none_led : AreLed []
  none_led o c = absurd (omega (arith, c.1))

  both_led : (os ps : List OptionOf) → AreLed os → AreLed ps → AreLed (os ++ ps)
  both_led os ps f g o c = elim (Contains-append_cases os ps o c) [ inl x ↦ f o x | inr y ↦ g o y ]

  same_word : (x w : ℕ) → constant.Word x ≡ constant.Word w → x ≡ w
  same_word x w e = cc

  module _ (lead : Class) (is : (lead ≡ class.LeftBracket) ⊎ (lead ≡ class.Comma)) where
    value_led : (i named equals : ℕ) (v : Constant) → Lies tree (mark (want.One lead) i ∷ mark want.OptionName named ∷ mark (want.One class.Equals) equals ∷ flat_constant v) → (w : ℕ) → v ≡ constant.Word w → IsLed tree w
    value_led i named equals (constant.Word x) h w e =
        let behind : List Mark = mark (want.One class.Equals) equals ∷ mark want.Constant x ∷ [] in
        subst (IsLed tree) (same_word x w e) (record {
          lead = lead;
          lead_is = is;
          first = record { place = mark (want.One lead) i; inside = h.inside (mark (want.One lead) i) (contains_head (mark (want.One lead) i) (mark want.OptionName named ∷ behind)); at_is = omega (arith, h.numbered.0, h.numbered.1.1.1.0); want_is = refl };
          named = record { place = mark want.OptionName named; inside = h.inside (mark want.OptionName named) (contains_later (mark (want.One lead) i) (mark want.OptionName named) (mark want.OptionName named ∷ behind) (contains_head (mark want.OptionName named) behind)); at_is = omega (arith, h.numbered.1.0, h.numbered.1.1.1.0); want_is = refl };
        })
    value_led i named equals (constant.Number n) h w e = absurd cc
    value_led i named equals (constant.Text t) h w e = absurd cc

    setting_led : (i : ℕ) (s : Setting) → Lies tree (one lead i ++ flat_setting s) → AreLed (setting_options s)
    setting_led i (setting.Plain p) h = λ o c w v. elim (contains_cases (record { name = p.name; value = p.value }) o [] c) [
      | inl e ↦ value_led i p.name p.equals p.value h w (ap (λ (x : OptionOf). x.value) e ∙ v)
      | inr d ↦ absurd (omega (arith, d.1))
    ]
    setting_led i (setting.Custom c) h = none_led

  rest_led : (bs : List (Behind Setting)) → Lies tree (flat_all (flat_behind class.Comma flat_setting) bs) → AreLed (flat_map setting_options (map (λ b. b.item) bs))
  rest_led [] h = none_led
  rest_led (b ∷ bs) h =
      let rest : List Mark = flat_all (flat_behind class.Comma flat_setting) bs in
      let first : List Mark = one class.Comma b.separator ++ flat_setting b.item in
      both_led (setting_options b.item) (flat_map setting_options (map (λ b. b.item) bs)) (setting_led class.Comma (inr refl) b.separator b.item (left first rest h)) (rest_led bs (right first rest h))

  settings_led : (o : Option Settings) → Lies tree (flat_option flat_settings o) → AreLed (settings_of o)
  settings_led None h = none_led
  settings_led (Some s) h =
      let rest : List Mark = flat_all (flat_behind class.Comma flat_setting) s.list.rest in
      let first : List Mark = one class.LeftBracket s.«open» ++ flat_setting s.list.first in
      let list : Lies tree (first ++ rest) = left (first ++ rest) (one class.RightBracket s.close) h in
      both_led (setting_options s.list.first) (flat_map setting_options (map (λ b. b.item) s.list.rest)) (setting_led class.LeftBracket (inl refl) s.«open» s.list.first (left first rest list)) (rest_led s.list.rest (right first rest list))

  -- ---- the options of fields

  abbrev FieldsLed : List FieldOf → Type 0
  FieldsLed fs = (f : FieldOf) → Contains fs f → AreLed f.options

  no_fields : FieldsLed []
  no_fields f c = absurd (omega (arith, c.1))

  both_fields : (fs gs : List FieldOf) → FieldsLed fs → FieldsLed gs → FieldsLed (fs ++ gs)
  both_fields fs gs p q f c = elim (Contains-append_cases fs gs f c) [ inl x ↦ p f x | inr y ↦ q f y ]

  one_field : (f : FieldOf) → AreLed f.options → FieldsLed (f ∷ [])
  one_field f h g c = elim (contains_cases f g [] c) [
    | inl e ↦ subst (λ (x : FieldOf). AreLed x.options) e h
    | inr d ↦ absurd (omega (arith, d.1))
  ]

  -- what stands from the name of a field on
  ends_led : (named equals number : ℕ) (settings : Option Settings) (semicolon : ℕ) → Lies tree (name_mark named ++ (one class.Equals equals ++ (one class.Number number ++ (flat_option flat_settings settings ++ one class.Semicolon semicolon)))) → AreLed (settings_of settings)
  ends_led named equals number settings semicolon h =
      let ends : List Mark = flat_option flat_settings settings ++ one class.Semicolon semicolon in
      settings_led settings (left (flat_option flat_settings settings) (one class.Semicolon semicolon) (right (name_mark named ++ (one class.Equals equals ++ one class.Number number)) ends h))

  statement_led : (o : Option ℕ) (s : Statement) → Lies tree (flat_statement s) → FieldsLed (statement_fields o s)
  statement_led o (statement.Field f) h =
      let ends : List Mark = name_mark f.name ++ (one class.Equals f.equals ++ (one class.Number f.number ++ (flat_option flat_settings f.settings ++ one class.Semicolon f.semicolon))) in
      one_field (plain_field o f) (ends_led f.name f.equals f.number f.settings f.semicolon (right (flat_type f.kind) ends (right (flat_option (only want.Label) f.label) (flat_type f.kind ++ ends) h)))
  statement_led o (statement.MapField f) h =
      let ends : List Mark = name_mark f.name ++ (one class.Equals f.equals ++ (one class.Number f.number ++ (flat_option flat_settings f.settings ++ one class.Semicolon f.semicolon))) in
      let front : List Mark = one class.Map f.keyword ++ (one class.Less f.«open» ++ (one class.Scalar f.key ++ one class.Comma f.comma)) in
      let typed : Lies tree (one class.Greater f.close ++ ends) = right (flat_type f.value) (one class.Greater f.close ++ ends) (right front (flat_type f.value ++ (one class.Greater f.close ++ ends)) h) in
      one_field (map_field f) (ends_led f.name f.equals f.number f.settings f.semicolon (tail (mark (want.One class.Greater) f.close) ends typed))
  statement_led o _ h = no_fields

  -- ---- the parts of a tree

  within_lies : (h : Header) (i : ℕ) (within : Tree) (j : ℕ) (rest : Tree) → Lies tree (flat (Block h i within j rest)) → Lies tree (flat within)
  within_lies h i within j rest l =
      let behind : List Mark = flat within ++ (one class.Close j ++ flat rest) in
      left (flat within) (one class.Close j ++ flat rest) (right (flat_header h ++ one class.Open i) behind l)

  rest_lies : (h : Header) (i : ℕ) (within : Tree) (j : ℕ) (rest : Tree) → Lies tree (flat (Block h i within j rest)) → Lies tree (flat rest)
  rest_lies h i within j rest l =
      let behind : List Mark = flat within ++ (one class.Close j ++ flat rest) in
      tail (mark (want.One class.Close) j) (flat rest) (right (flat within) (one class.Close j ++ flat rest) (right (flat_header h ++ one class.Open i) behind l))

  statements_led : (o : Option ℕ) (t : Tree) → Lies tree (flat t) → FieldsLed (flat_map (statement_fields o) (statements t))
  statements_led o End l = no_fields
  statements_led o (Leaf s rest) l = both_fields (statement_fields o s) (flat_map (statement_fields o) (statements rest)) (statement_led o s (left (flat_statement s) (flat rest) l)) (statements_led o rest (right (flat_statement s) (flat rest) l))
  statements_led o (Block h i within j rest) l = statements_led o rest (rest_lies h i within j rest l)

  fields_led : (n : ℕ) (t : Tree) → Lies tree (flat t) → FieldsLed (fields_from n t)
  fields_led n End l = no_fields
  fields_led n (Leaf s rest) l = both_fields (statement_fields None s) (fields_from n rest) (statement_led None s (left (flat_statement s) (flat rest) l)) (fields_led n rest (right (flat_statement s) (flat rest) l))
  fields_led n (Block (header.Oneof h) i within j rest) l =
      both_fields (flat_map (statement_fields (Some n)) (statements within)) (fields_from (suc n) rest)
      (statements_led (Some n) within (within_lies (header.Oneof h) i within j rest l)) (fields_led (suc n) rest (rest_lies (header.Oneof h) i within j rest l))
  fields_led n (Block whole i within j rest) l = fields_led n rest (rest_lies whole i within j rest l)

  blocks_lie : (t : Tree) → Lies tree (flat t) → (b : BlockOf) → Contains (blocks_in t) b → Lies tree (flat b.within)
  blocks_lie End l b c = absurd (omega (arith, c.1))
  blocks_lie (Leaf s rest) l b c = blocks_lie rest (right (flat_statement s) (flat rest) l) b c
  blocks_lie (Block h i within j rest) l b c =
      let inner : Lies tree (flat within) = within_lies h i within j rest l in
      elim (contains_cases (record { header = h; within = within }) b (blocks_in within ++ blocks_in rest) c) [
        | inl e ↦ subst (λ (x : BlockOf). Lies tree (flat x.within)) e inner
        | inr d ↦ elim (Contains-append_cases (blocks_in within) (blocks_in rest) b d) [
          | inl x ↦ blocks_lie within inner b x
          | inr y ↦ blocks_lie rest (rest_lies h i within j rest l) b y
        ]
      ]

-- ---- a tree that was read

module _ (p : Profile) (tree : Tree) (ls : List Lexeme) (spells : Spells tree (classes_in p 0 ls)) where
  whole : Lies tree (flat tree)
  whole = record { n = 0; numbered = trees_are_numbered_in p tree ls spells; inside = λ m c. c }

  token_free : (c : CustomOf) → Contains (customs_in tree) c → (i : ℕ) → Contains (custom_tokens c.custom) i → IsFree tree i
  token_free c k i x =
      let s = customs_stand tree c k in
      let stretch : Lies tree (flat_custom c.custom ++ s.back) = right tree s.front (flat_custom c.custom ++ s.back) (subst (Lies tree) s.is whole) in
      custom_free tree c.custom (left tree (flat_custom c.custom) s.back stretch) i x

  -- one place for one token
  one_want : (token far : ℕ) (v w : Expected) → Wanted tree token far v → Wanted tree token far w → v ≡ w
  one_want token far v w a b =
      let same : a.place.at ≡ b.place.at = omega (arith, a.at_is, b.at_is) in
      sym a.want_is ∙ ap (λ (m : Mark). m.want) (one_mark_in p tree ls a.place b.place spells a.inside b.inside same) ∙ b.want_is

  no_lead : (lead : Class) → (lead ≡ class.LeftBracket) ⊎ (lead ≡ class.Comma) → want.One class.Dot ≡ want.One lead → ⊥
  no_lead lead (inl e) q = cc
  no_lead lead (inr e) q = cc

  no_name : want.One class.RightParenthesis ≡ want.OptionName → ⊥
  no_name e = cc

  -- the value of a custom option is none of one that is set by its word
  not_led : (w : ℕ) → IsBehind tree w → IsLed tree w → ⊥
  not_led w (inl a) l = no_name (one_want w 2 (want.One class.RightParenthesis) want.OptionName a l.named)
  not_led w (inr a) l = no_lead l.lead l.lead_is (one_want w 3 (want.One class.Dot) (want.One l.lead) a l.first)

  no_default : (w : ℕ) → IsBehind tree w → (b : BlockOf) (f : FieldOf) (o : OptionOf) → Contains (blocks_in tree) b → Contains (fields_in b.within) f → Contains f.options o → o.value ≡ constant.Word w → ⊥
  no_default w behind b f o cb cf co v = not_led w behind (fields_led tree 0 b.within (blocks_lie tree tree whole b cb) f cf o co w v)

-- ---- files

module _ (files : List FileOf) (reads : List ReadOf) (r : AreRead files reads) (name to : List ℕ) (t : Target) (named : IsNamed files reads name t) where
  stays : (file : ℕ) (c : CustomOf) (i : ℕ) → Contains (customs_in (read_at reads file).tree) c → Contains (custom_tokens c.custom) i → renamed_words files reads t to (at file i) ≡ None
  stays file c i k x = by (token_free profile tree ls spells c k i x)
    where
      profile : Profile
      profile = (file_at files file).profile

      tree : Tree
      tree = (read_at reads file).tree

      ls : List Lexeme
      ls = lexemes_of files reads file

      spells : Spells tree (classes_in profile 0 ls)
      spells = spelled files reads r file (there customs_in refl reads file c k)

      one_role : (a b : Role) → HasRole tree a i → HasRole tree b i → a ≡ b
      one_role a b y z = roles_are_one_in profile tree ls a b i spells y z

      target_named : Names (link_skeleton files reads) t.token
      target_named = (t.aim, named.within, (t.above, inl named.path))

      name_is_none : names ≡ is_value → ⊥
      name_is_none e = cc

      use_is_none : refers ≡ is_value → ⊥
      use_is_none e = cc

      enum : Option (List (List ℕ))
      enum = t.enum

      old : List ℕ
      old = (name_map files reads t to).old

      by : IsFree tree i → renamed_words files reads t to (at file i) ≡ None
      by (inl x) = other_token_stays files reads t to target_named (at file i)
          (λ n. x.2.no_name (sym (one_role names x.0 (name_role files reads r (at file i) n) x.1)))
          (λ u. x.2.no_use (sym (one_role refers x.0 (use_role files reads r (at file i) u) x.1)))
          (λ d. x.2.no_value (sym (one_role is_value x.0 (default_role files reads r enum old (at file i) d) x.1)))
      by (inr x) = other_token_stays files reads t to target_named (at file i)
          (λ n. name_is_none (one_role names is_value (name_role files reads r (at file i) n) x.0))
          (λ u. use_is_none (one_role refers is_value (use_role files reads r (at file i) u) x.0))
          (λ d. let o : IsDefaultOf files reads enum old tree (at file i) = default_here files reads r enum old (at file i) d in
          no_default profile tree ls spells i x.1 o.b o.f o.o o.block o.field o.option o.value)

pub option_tokens_stay : OptionTokensStay
option_tokens_stay files reads name to t r clean named file c i k x = stays files reads r name to t named file c i k x

texts_same : (files after : List FileOf) (reads seen : List ReadOf) (file : ℕ) (is : List ℕ) → ((i : ℕ) → Contains is i → text_of after seen (at file i) ≡ text_of files reads (at file i)) → texts_at after seen file is ≡ texts_at files reads file is
texts_same files after reads seen file [] f = refl
texts_same files after reads seen file (i ∷ is) f = ap₂ (λ (y : List ℕ) (z : List (List ℕ)). y ∷ z) (f i (contains_head i is)) (texts_same files after reads seen file is (λ j c. f j (contains_later i j is c)))

pub option_texts_stay : OptionTextsStay
option_texts_stay files reads name to t after seen r clean named w file c k =
    let tree_is : (read_at seen file).tree ≡ (read_at reads file).tree = at_same (λ (x : ReadOf). x.tree) seen reads (record { tokens = []; tree = End }) file w.trees in
    let was : Contains (customs_in (read_at reads file).tree) c = subst (λ (x : Tree). Contains (customs_in x) c) tree_is k in
    let inside : file < length reads = there customs_in refl reads file c was in
    let l : file < length files = omega (arith, inside, r.same) in
    (was, texts_same files after reads seen file (custom_tokens c.custom) (λ i x. other_texts_stay (renamed_words files reads t to) files reads after seen r w (at file i) l (stays files reads r name to t named file c i was x)))
