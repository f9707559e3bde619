-- The references and imports of a tree, by their tokens: these rise, and each is what its place wants.
use Rattle.std.proofs.Common.{◌≡◌, ℕ, ◌+◌, ◌<◌, ◌≤◌, List, [], ◌∷◌, ◌++◌, length, get_or, map, flat_map, append_assoc, Option, Some, None, is_some, refl, sym, ap, subst, ◌∙◌, inl, inr, arith, length-append, All, AllPairs, Contains}
use Rattle.proto_base.proofs.Common.{AllByRecursion, All-nil, All-cons, All-weaker, Contains-append_right, AllPairs-cons, contains_cases, contains_head}
use Rattle.proto_tree.specs.declared.class.Class.TheVariants as class
use Rattle.proto_tree.specs.declared.class.Expected.TheVariants as want
use Rattle.proto_tree.specs.declared.tree.Behind.{Behind}
use Rattle.proto_tree.specs.declared.tree.Separated.{Separated}
use Rattle.proto_tree.specs.declared.tree.Reference.{Reference}
use Rattle.proto_tree.specs.declared.tree.Custom.{Custom}
use Rattle.proto_tree.specs.declared.tree.Setting.{Setting}
use Rattle.proto_tree.specs.declared.tree.Setting.TheVariants as setting
use Rattle.proto_tree.specs.declared.tree.Settings.{Settings}
use Rattle.proto_tree.specs.declared.tree.FieldType.{FieldType}
use Rattle.proto_tree.specs.declared.tree.FieldType.TheVariants as field_type
use Rattle.proto_tree.specs.declared.tree.MethodType.{MethodType}
use Rattle.proto_tree.specs.declared.tree.Signature.{Signature}
use Rattle.proto_tree.specs.declared.piece.Statement.{Statement}
use Rattle.proto_tree.specs.declared.piece.Statement.TheVariants as statement
use Rattle.proto_tree.specs.declared.piece.Extending.{Extending}
use Rattle.proto_tree.specs.declared.piece.Header.{Header}
use Rattle.proto_tree.specs.declared.piece.Header.TheVariants as header
use Rattle.proto_tree.specs.Flat.{flat_custom, flat_custom_value, flat_extension_name, flat_option_statement}
use Rattle.proto_tree.proofs.Common.{mark, only, one, word, name, text_mark, flat_all, flat_behind, flat_option, flat_words, flat_reference, flat_type, flat_setting, flat_settings, flat_dotted, flat_value, flat_signed, flat_import, flat_field, flat_map_field, flat_method_type, flat_signature, flat_statement, flat_header, Tree, End, Leaf, Block, flat, dotted, first_of, word_token, flat_modifier}
use Rattle.proto_names_rules.specs.declared.wants.Wants.{Wants}
use Rattle.proto_names_rules.specs.declared.wants.Wants.TheVariants as wants
use Rattle.proto_names_rules.proofs.Common.{Source, Token, Used, Rising, rising_spreads, Spreads}
use Rattle.proto_tree.proofs.SpacedWords.{words_stand_apart}
use Rattle.proto_names_outline.specs.FromTree.{used_as, type_uses, signature_uses, setting_uses, settings_uses, option_uses, statement_uses, header_uses, flat_uses, block_uses, member_uses, item_uses, Wanted, statement_imports, imports_in}
use Rattle.proto_names_outline.proofs.MarkedTokens.{Are, are_numbered, are_left, are_right, are_at, leaf_step, block_step}

module _ (W R S : ℕ → Type 0) where
  -- a reference is of one word or more
  abbrev pub IsOfWords : Used ℕ → Type 0
  IsOfWords u = AllByRecursion R u.tokens × (0 < length u.tokens)

  -- words of references at rising places from lo on and before hi
  abbrev pub Words : ℕ → ℕ → List ℕ → Type 0
  Words lo hi [] = lo ≤ hi
  Words lo hi (t ∷ ts) = (lo ≤ t) × (t < hi) × R t × Words (t + 1) hi ts

  -- its words stand a dot apart
  abbrev pub IsSpaced : Used ℕ → Type 0
  IsSpaced u = (number other : ℕ) → number < length u.tokens → get_or u.tokens number other ≡ word_token u.first u.is_absolute number

  -- references one behind the other, each with its words before the next
  abbrev pub Uses : ℕ → ℕ → List (Used ℕ) → Type 0
  Uses lo hi [] = lo ≤ hi
  Uses lo hi (u ∷ us) = (mid : ℕ) × (lo ≤ u.first) × (mid ≤ hi) × Words u.first mid u.tokens × (0 < length u.tokens) × IsSpaced u × Uses mid hi us

  words_order : (ts : List ℕ) (lo hi : ℕ) → Words lo hi ts → lo ≤ hi
  words_order [] lo hi w = w
  words_order (t ∷ ts) lo hi w = omega (arith, w.0, w.1)

  pub words_past : (ts : List ℕ) (lo hi : ℕ) → 0 < length ts → Words lo hi ts → lo < hi
  words_past [] lo hi l w = absurd (omega (arith, l))
  words_past (t ∷ ts) lo hi l w = omega (arith, w.0, w.1)

  words_all : (ts : List ℕ) (lo hi : ℕ) → Words lo hi ts → AllByRecursion R ts
  words_all [] lo hi w = tt
  words_all (t ∷ ts) lo hi w = (w.2, words_all ts (t + 1) hi w.3)

  words_in : (ts : List ℕ) (lo hi i : ℕ) → Words lo hi ts → Contains ts i → (lo ≤ i) × (i < hi)
  words_in [] lo hi i w c = absurd (omega (arith, c.1))
  words_in (t ∷ ts) lo hi i w c = elim (contains_cases t i ts c) [
    | inl e ↦ (omega (arith, w.0, e), omega (arith, w.1, e))
    | inr d ↦ let r = words_in ts (t + 1) hi i w.3 d in (omega (arith, w.0, r.0), r.1)
  ]

  uses_order : (us : List (Used ℕ)) (lo hi : ℕ) → Uses lo hi us → lo ≤ hi
  uses_order [] lo hi r = r
  uses_order (u ∷ us) lo hi r = let w = words_order u.tokens u.first r.0 r.3 in omega (arith, r.1, r.2, w)

  uses_within : (us : List (Used ℕ)) (lo hi low high : ℕ) → low ≤ lo → hi ≤ high → Uses lo hi us → Uses low high us
  uses_within [] lo hi low high a b r = omega (arith, a, b, r)
  uses_within (u ∷ us) lo hi low high a b r = (r.0, omega (arith, a, r.1), omega (arith, b, r.2), r.3, r.4, r.5, uses_within us r.0 hi r.0 high (omega arith) b r.6)

  uses_append : (us vs : List (Used ℕ)) (lo mid next hi : ℕ) → mid ≤ next → Uses lo mid us → Uses next hi vs → Uses lo hi (us ++ vs)
  uses_append [] vs lo mid next hi l r t = uses_within vs next hi lo hi (omega (arith, l, r)) (omega arith) t
  uses_append (u ∷ us) vs lo mid next hi l r t = let o = uses_order vs next hi t in (r.0, r.1, omega (arith, r.2, l, o), r.3, r.4, r.5, uses_append us vs r.0 mid next hi l r.6 t)

  uses_law : Spreads Uses
  uses_law = record { within = uses_within; append = uses_append }

  -- each is of words
  pub uses_each : (us : List (Used ℕ)) (lo hi : ℕ) → Uses lo hi us → (u : Used ℕ) → Contains us u → IsOfWords u
  uses_each [] lo hi r u c = absurd (omega (arith, c.1))
  uses_each (v ∷ us) lo hi r u c = elim (contains_cases v u us c) [
    | inl e ↦ subst IsOfWords e (words_all v.tokens v.first r.0 r.3, r.4)
    | inr d ↦ uses_each us r.0 hi r.6 u d
  ]

  pub uses_spaced : (us : List (Used ℕ)) (lo hi : ℕ) → Uses lo hi us → (u : Used ℕ) → Contains us u → IsSpaced u
  uses_spaced [] lo hi r u c = absurd (omega (arith, c.1))
  uses_spaced (v ∷ us) lo hi r u c = elim (contains_cases v u us c) [
    | inl e ↦ subst IsSpaced e r.5
    | inr d ↦ uses_spaced us r.0 hi r.6 u d
  ]

  firsts_from : (us : List (Used ℕ)) (low lo hi : ℕ) → low ≤ lo → Uses lo hi us → All (λ u. low ≤ u.first) us
  firsts_from [] low lo hi l r = All-nil (λ u. low ≤ u.first)
  firsts_from (u ∷ us) low lo hi l r =
      let w = words_order u.tokens u.first r.0 r.3 in
      All-cons (λ u. low ≤ u.first) u us (omega (arith, l, r.1)) (firsts_from us low r.0 hi (omega (arith, l, r.1, w)) r.6)

  -- their first tokens rise
  pub uses_firsts : (us : List (Used ℕ)) (lo hi : ℕ) → Uses lo hi us → AllPairs (λ a b. a.first < b.first) us
  uses_firsts [] lo hi r = λ i j d a b. absurd (omega (arith, b))
  uses_firsts (u ∷ us) lo hi r =
      let w = words_past u.tokens u.first r.0 r.4 r.3 in
      AllPairs-cons (λ a b. a.first < b.first) u us (All-weaker (λ v. r.0 ≤ v.first) (λ v. u.first < v.first) (λ v h. omega (arith, w, h)) us (firsts_from us r.0 r.0 hi (omega arith) r.6)) (uses_firsts us r.0 hi r.6)

  uses_in : (us : List (Used ℕ)) (lo hi i : ℕ) (u : Used ℕ) → Uses lo hi us → Contains us u → Contains u.tokens i → (lo ≤ i) × (i < hi)
  uses_in [] lo hi i u r c t = absurd (omega (arith, c.1))
  uses_in (v ∷ us) lo hi i u r c t = elim (contains_cases v u us c) [
    | inl e ↦ (
        let w = words_in v.tokens v.first r.0 i r.3 (subst (λ (x : Used ℕ). Contains x.tokens i) (sym e) t) in
        (omega (arith, r.1, w.0), omega (arith, r.2, w.1)))
    | inr d ↦ (
        let w = uses_in us r.0 hi i u r.6 d t in
        let o = words_order v.tokens v.first r.0 r.3 in
        (omega (arith, r.1, o, w.0), w.1))
  ]

  words_once : (ts : List ℕ) (lo hi i : ℕ) → Words lo hi ts → (xs ys zs ws : List ℕ) → ts ≡ xs ++ i ∷ ys → ts ≡ zs ++ i ∷ ws → xs ≡ zs
  words_once ts lo hi i w [] ys [] ws e f = refl
  words_once [] lo hi i w (x ∷ xs) ys zs ws e f = absurd cc
  words_once [] lo hi i w [] ys (z ∷ zs) ws e f = absurd cc
  words_once (t ∷ ts) lo hi i w [] ys (z ∷ zs) ws e f =
      let head : t ≡ i = cc in
      let tail : ts ≡ zs ++ i ∷ ws = cc in
      let later = words_in ts (t + 1) hi i w.3 (subst (λ l. Contains l i) (sym tail) (Contains-append_right zs (i ∷ ws) i (contains_head i ws))) in
      absurd (omega (arith, head, later.0))
  words_once (t ∷ ts) lo hi i w (x ∷ xs) ys [] ws e f =
      let head : t ≡ i = cc in
      let tail : ts ≡ xs ++ i ∷ ys = cc in
      let later = words_in ts (t + 1) hi i w.3 (subst (λ l. Contains l i) (sym tail) (Contains-append_right xs (i ∷ ys) i (contains_head i ys))) in
      absurd (omega (arith, head, later.0))
  words_once (t ∷ ts) lo hi i w (x ∷ xs) ys (z ∷ zs) ws e f =
      let a : t ≡ x = cc in
      let b : t ≡ z = cc in
      let d : ts ≡ xs ++ i ∷ ys = cc in
      let g : ts ≡ zs ++ i ∷ ws = cc in
      ap (λ l. x ∷ l) (words_once ts (t + 1) hi i w.3 xs ys zs ws d g) ∙ ap (λ v. v ∷ zs) (sym a ∙ b)

  -- a token is one word of one reference
  pub uses_once : (us : List (Used ℕ)) (lo hi : ℕ) → Uses lo hi us → (u v : Used ℕ) → Contains us u → Contains us v → (xs ys zs ws : List ℕ) (i : ℕ) → u.tokens ≡ xs ++ i ∷ ys → v.tokens ≡ zs ++ i ∷ ws → (u ≡ v) × (xs ≡ zs)
  uses_once [] lo hi r u v cu cv xs ys zs ws i e f = absurd (omega (arith, cu.1))
  uses_once (x ∷ us) lo hi r u v cu cv xs ys zs ws i e f =
      let iu : Contains u.tokens i = subst (λ l. Contains l i) (sym e) (Contains-append_right xs (i ∷ ys) i (contains_head i ys)) in
      let iv : Contains v.tokens i = subst (λ l. Contains l i) (sym f) (Contains-append_right zs (i ∷ ws) i (contains_head i ws)) in
      elim (contains_cases x u us cu) [
        | inl here ↦ elim (contains_cases x v us cv) [
          | inl there ↦ (sym here ∙ there, words_once x.tokens x.first r.0 i r.3 xs ys zs ws (ap (λ (z : Used ℕ). z.tokens) here ∙ e) (ap (λ (z : Used ℕ). z.tokens) there ∙ f))
          | inr later ↦ (
              let a = words_in x.tokens x.first r.0 i r.3 (subst (λ (z : Used ℕ). Contains z.tokens i) (sym here) iu) in
              let b = uses_in us r.0 hi i v r.6 later iv in
              absurd (omega (arith, a.1, b.0)))
        ]
        | inr later ↦ elim (contains_cases x v us cv) [
          | inl there ↦ (
              let a = words_in x.tokens x.first r.0 i r.3 (subst (λ (z : Used ℕ). Contains z.tokens i) (sym there) iv) in
              let b = uses_in us r.0 hi i u r.6 later iu in
              absurd (omega (arith, a.1, b.0)))
          | inr more ↦ uses_once us r.0 hi r.6 u v later more xs ys zs ws i e f
        ]
      ]

  behind_rise : (bs : List (Behind ℕ)) (n lo hi : ℕ) → Are W R S n (flat_all (flat_behind class.Dot word) bs) → lo ≤ n → hi ≡ n + length (flat_all (flat_behind class.Dot word) bs) → Words lo hi (map (λ b. b.item) bs)
  behind_rise [] n lo hi a l e = omega (arith, l, e)
  behind_rise (b ∷ bs) n lo hi a l e = (omega (arith, l, a.2.0), omega (arith, a.2.0, e), a.2.1, behind_rise bs (n + 1 + 1) (b.item + 1) hi a.2.2 (omega (arith, a.2.0)) (omega (arith, e)))

  words_at : (dot : Option ℕ) (d : Separated ℕ) (n : ℕ) → Are W R S n (flat_words dot d) → (first_of dot d ≡ n) × Words n (n + length (flat_words dot d)) (dotted d)
  words_at None d n a =
      let hi = n + length (flat_words None d) in
      (a.0, (omega (arith, a.0), omega (arith, a.0), a.1, behind_rise d.rest (n + 1) (d.first + 1) hi a.2 (omega (arith, a.0)) (omega arith)))
  words_at (Some dot) d n a =
      let hi = n + length (flat_words (Some dot) d) in
      (a.0, (omega (arith, a.2.0), omega (arith, a.2.0), a.2.1, behind_rise d.rest (n + 1 + 1) (d.first + 1) hi a.2.2 (omega (arith, a.2.0)) (omega arith)))

  reference_rises : (scope : List (Source ℕ)) (what : Wants) (r : Reference) (n : ℕ) → Are W R S n (flat_reference r) → Uses n (n + length (flat_reference r)) (used_as scope what r ∷ [])
  reference_rises scope what r n a =
      let at = words_at r.dot r.words n a in
      let hi = n + length (flat_reference r) in
      let apart = words_stand_apart r n (are_numbered W R S n (flat_reference r) a) in (
        hi,
        omega (arith, at.0),
        omega arith,
        subst (λ (k : ℕ). Words k hi (dotted r.words)) (sym at.0) at.1,
        omega arith,
        subst (λ (k : ℕ). (number other : ℕ) → number < length (dotted r.words) → get_or (dotted r.words) number other ≡ word_token k (is_some r.dot) number) (sym apart.0) apart.1,
        omega arith,
      )

  type_rises : (scope : List (Source ℕ)) (t : FieldType) (n : ℕ) → Are W R S n (flat_type t) → Uses n (n + length (flat_type t)) (type_uses scope t)
  type_rises scope (field_type.Scalar i) n a = omega arith
  type_rises scope (field_type.Reference r) n a = reference_rises scope wants.Type r n a

  method_type_rises : (scope : List (Source ℕ)) (t : MethodType) (n : ℕ) → Are W R S n (flat_method_type t) → Uses n (n + length (flat_method_type t)) (used_as scope wants.Message t.reference ∷ [])
  method_type_rises scope t n a =
      let stream = flat_option (one class.Stream) t.stream in
      let behind = flat_reference t.reference ++ one class.RightParenthesis t.close in
      let k = n + 1 + length stream in
      let l1 = length-append stream behind in
      let l2 = length-append (flat_reference t.reference) (one class.RightParenthesis t.close) in
      let r = reference_rises scope wants.Message t.reference k (are_left W R S k (flat_reference t.reference) (one class.RightParenthesis t.close) (are_right W R S (n + 1) stream behind a.2)) in
      uses_law.within (used_as scope wants.Message t.reference ∷ []) k (k + length (flat_reference t.reference)) n (n + length (flat_method_type t)) (omega arith) (omega (arith, l1, l2)) r

  signature_rises : (scope : List (Source ℕ)) (s : Signature) (n : ℕ) → Are W R S n (flat_signature s) → Uses n (n + length (flat_signature s)) (signature_uses scope s)
  signature_rises scope s n a =
      let behind = one class.Returns s.returns ++ flat_method_type s.output in
      let k = n + 1 + 1 in
      let m = k + length (flat_method_type s.input) in
      let l = length-append (flat_method_type s.input) behind in
      let input = method_type_rises scope s.input k (are_left W R S k (flat_method_type s.input) behind a.2.2) in
      let rest = are_right W R S k (flat_method_type s.input) behind a.2.2 in
      let output = method_type_rises scope s.output (m + 1) rest.2 in
      uses_law.within (signature_uses scope s) k (m + 1 + length (flat_method_type s.output)) n (n + length (flat_signature s)) (omega arith) (omega (arith, l))
      (uses_law.append (used_as scope wants.Message s.input.reference ∷ []) (used_as scope wants.Message s.output.reference ∷ []) k m (m + 1) (m + 1 + length (flat_method_type s.output)) (omega arith) input output)

  -- ---- names of custom options

  -- the name of an extension is a reference whose first word may be a listed one
  name_at : (dot : Option ℕ) (d : Separated ℕ) (n : ℕ) → Are W R S n (flat_option (one class.Dot) dot ++ flat_dotted d) → Are W R S n (flat_words dot d)
  name_at None d n a = a
  name_at (Some dot) d n a = a

  as_long : (dot : Option ℕ) (d : Separated ℕ) → length (flat_words dot d) ≡ length (flat_option (one class.Dot) dot ++ flat_dotted d)
  as_long None d = refl
  as_long (Some dot) d = refl

  custom_rises : (scope : List (Source ℕ)) (c : Custom) (n : ℕ) → Are W R S n (flat_custom c) → Uses n (n + length (flat_custom c)) (used_as scope wants.Extension c.name ∷ [])
  custom_rises scope c n a =
      let behind = one class.RightParenthesis c.close ++ (flat_all (flat_behind class.Dot (only want.OptionName)) c.path ++ (one class.Equals c.equals ++ flat_custom_value c.value)) in
      let l1 = length-append (flat_extension_name c.name) behind in
      let l2 = as_long c.name.dot c.name.words in
      let r = reference_rises scope wants.Extension c.name (n + 1) (name_at c.name.dot c.name.words (n + 1) (are_left W R S (n + 1) (flat_extension_name c.name) behind a.2)) in
      uses_law.within (used_as scope wants.Extension c.name ∷ []) (n + 1) (n + 1 + length (flat_reference c.name)) n (n + length (flat_custom c)) (omega arith) (omega (arith, l1, l2)) r

  setting_rises : (scope : List (Source ℕ)) (s : Setting) (n : ℕ) → Are W R S n (flat_setting s) → Uses n (n + length (flat_setting s)) (setting_uses scope s)
  setting_rises scope (setting.Plain p) n a = omega arith
  setting_rises scope (setting.Custom c) n a = custom_rises scope c n a

  settings_behind : (scope : List (Source ℕ)) (bs : List (Behind Setting)) (n : ℕ) → Are W R S n (flat_all (flat_behind class.Comma flat_setting) bs) → Uses n (n + length (flat_all (flat_behind class.Comma flat_setting) bs)) (flat_map (λ b. setting_uses scope b.item) bs)
  settings_behind scope [] n a = omega arith
  settings_behind scope (b ∷ bs) n a =
      let first = flat_setting b.item in
      let more = flat_all (flat_behind class.Comma flat_setting) bs in
      let used = setting_uses scope b.item in
      let m = n + 1 + length first in
      let l = length-append first more in
      uses_law.within (used ++ flat_map (λ b. setting_uses scope b.item) bs) (n + 1) (m + length more) n (n + length (flat_all (flat_behind class.Comma flat_setting) (b ∷ bs))) (omega arith) (omega (arith, l))
      (uses_law.append used (flat_map (λ b. setting_uses scope b.item) bs) (n + 1) m m (m + length more) (omega arith)
      (setting_rises scope b.item (n + 1) (are_left W R S (n + 1) first more a.2)) (settings_behind scope bs m (are_right W R S (n + 1) first more a.2)))

  settings_rise : (scope : List (Source ℕ)) (o : Option Settings) (n : ℕ) → Are W R S n (flat_option flat_settings o) → Uses n (n + length (flat_option flat_settings o)) (settings_uses scope o)
  settings_rise scope None n a = omega arith
  settings_rise scope (Some s) n a =
      let first = flat_setting s.list.first in
      let more = flat_all (flat_behind class.Comma flat_setting) s.list.rest in
      let last = one class.RightBracket s.close in
      let used = setting_uses scope s.list.first in
      let rest = flat_map (λ b. setting_uses scope b.item) s.list.rest in
      let m = n + 1 + length first in
      let l1 = length-append first more in
      let l2 = length-append (first ++ more) last in
      let listed = are_left W R S (n + 1) (first ++ more) last a.2 in
      uses_law.within (used ++ rest) (n + 1) (m + length more) n (n + length (flat_settings s)) (omega arith) (omega (arith, l1, l2))
      (uses_law.append used rest (n + 1) m m (m + length more) (omega arith)
      (setting_rises scope s.list.first (n + 1) (are_left W R S (n + 1) first more listed)) (settings_behind scope s.list.rest m (are_right W R S (n + 1) first more listed)))

  -- a part of a stretch, and settings further on
  with_settings : (scope : List (Source ℕ)) (o : Option Settings) (used : List (Used ℕ)) (lo mid next hi : ℕ) → Uses lo mid used → mid ≤ next → Are W R S next (flat_option flat_settings o) → next + length (flat_option flat_settings o) ≤ hi → Uses lo hi (used ++ settings_uses scope o)
  with_settings scope o used lo mid next hi u l a le =
      let end = next + length (flat_option flat_settings o) in
      uses_law.within (used ++ settings_uses scope o) lo end lo hi (omega arith) le (uses_law.append used (settings_uses scope o) lo mid next end l u (settings_rise scope o next a))

  -- ---- statements

  option_rises : (scope : List (Source ℕ)) (s : Statement) (n : ℕ) → Are W R S n (flat_statement s) → Uses n (n + length (flat_statement s)) (option_uses scope s)
  option_rises scope (statement.Option o) n a =
      let last = one class.Semicolon o.semicolon in
      let l = length-append (flat_setting o.setting) last in
      uses_law.within (setting_uses scope o.setting) (n + 1) (n + 1 + length (flat_setting o.setting)) n (n + length (flat_option_statement o)) (omega arith) (omega (arith, l))
      (setting_rises scope o.setting (n + 1) (are_left W R S (n + 1) (flat_setting o.setting) last a.2))
  option_rises scope _ n a = omega arith

  statement_rises : (around scope : List (Source ℕ)) (s : Statement) (n : ℕ) → Are W R S n (flat_statement s) → Uses n (n + length (flat_statement s)) (statement_uses around scope s)
  statement_rises around scope (statement.Field f) n a =
      let label = flat_option (only want.Label) f.label in
      let last = one class.Semicolon f.semicolon in
      let tail = name f.name ++ (one class.Equals f.equals ++ (one class.Number f.number ++ (flat_option flat_settings f.settings ++ last))) in
      let k = n + length label in
      let m = k + length (flat_type f.kind) in
      let l1 = length-append label (flat_type f.kind ++ tail) in
      let l2 = length-append (flat_type f.kind) tail in
      let l3 = length-append (flat_option flat_settings f.settings) last in
      let typed = are_right W R S n label (flat_type f.kind ++ tail) a in
      let behind = are_right W R S k (flat_type f.kind) tail typed in
      uses_law.within (type_uses scope f.kind ++ settings_uses scope f.settings) k (n + length (flat_field f)) n (n + length (flat_field f)) (omega arith) (omega arith)
      (with_settings scope f.settings (type_uses scope f.kind) k m (m + 1 + 1 + 1) (n + length (flat_field f)) (type_rises scope f.kind k (are_left W R S k (flat_type f.kind) tail typed)) (omega arith)
      (are_left W R S (m + 1 + 1 + 1) (flat_option flat_settings f.settings) last behind.2.2.2) (omega (arith, l1, l2, l3)))
  statement_rises around scope (statement.MapField f) n a =
      let last = one class.Semicolon f.semicolon in
      let tail = one class.Greater f.close ++ (name f.name ++ (one class.Equals f.equals ++ (one class.Number f.number ++ (flat_option flat_settings f.settings ++ last)))) in
      let k = n + 1 + 1 + 1 + 1 in
      let m = k + length (flat_type f.value) in
      let l1 = length-append (flat_type f.value) tail in
      let l2 = length-append (flat_option flat_settings f.settings) last in
      let behind = are_right W R S k (flat_type f.value) tail a.2.2.2.2 in
      uses_law.within (type_uses scope f.value ++ settings_uses scope f.settings) k (n + length (flat_map_field f)) n (n + length (flat_map_field f)) (omega arith) (omega arith)
      (with_settings scope f.settings (type_uses scope f.value) k m (m + 1 + 1 + 1 + 1) (n + length (flat_map_field f)) (type_rises scope f.value k (are_left W R S k (flat_type f.value) tail a.2.2.2.2)) (omega arith)
      (are_left W R S (m + 1 + 1 + 1 + 1) (flat_option flat_settings f.settings) last behind.2.2.2.2) (omega (arith, l1, l2)))
  statement_rises around scope (statement.Value v) n a =
      let last = one class.Semicolon v.semicolon in
      let tail = flat_option flat_settings v.settings ++ last in
      let k = n + 1 + 1 + length (flat_signed v.number) in
      let l1 = length-append (flat_signed v.number) tail in
      let l2 = length-append (flat_option flat_settings v.settings) last in
      with_settings scope v.settings [] n n k (n + length (flat_value v)) (omega arith) (omega arith)
      (are_left W R S k (flat_option flat_settings v.settings) last (are_right W R S (n + 1 + 1) (flat_signed v.number) tail a.2.2)) (omega (arith, l1, l2))
  statement_rises around scope (statement.Method s end) n a =
      let l = length-append (flat_signature s) (one class.Semicolon end) in
      uses_law.within (signature_uses scope s) n (n + length (flat_signature s)) n (n + length (flat_signature s ++ one class.Semicolon end)) (omega arith) (omega (arith, l))
      (signature_rises scope s n (are_left W R S n (flat_signature s) (one class.Semicolon end) a))
  statement_rises around scope (statement.Option o) n a = option_rises around (statement.Option o) n a
  statement_rises around scope _ n a = omega arith

  header_rises : (scope : List (Source ℕ)) (h : Header) (n : ℕ) → Are W R S n (flat_header h) → Uses n (n + length (flat_header h)) (header_uses scope h)
  header_rises scope (header.Method s) n a = signature_rises scope s n a
  header_rises scope (header.Extend e) n a =
      uses_law.within (header_uses scope (header.Extend e)) (n + 1) (n + 1 + length (flat_reference e.extendee)) n (n + length (flat_header (header.Extend e))) (omega arith) (omega arith) (reference_rises scope wants.Message e.extendee (n + 1) a.2)
  header_rises scope _ n a = omega arith

  flat_rise : (t : Tree) (around scope : List (Source ℕ)) (n hi : ℕ) → Are W R S n (flat t) → hi ≡ n + length (flat t) → Uses n hi (flat_uses around scope t)
  flat_rise End around scope n hi a e = omega (arith, e)
  flat_rise (Leaf s rest) around scope n hi a e = leaf_step W R S Uses uses_law s rest n hi (statement_uses around scope s) (flat_uses around scope rest) a e (statement_rises around scope s n) (λ c b f. flat_rise rest around scope c hi b f)
  flat_rise (Block h i within j rest) around scope n hi a e =
      let head = header_uses scope h in
      let inner = flat_uses scope scope within in
      subst (Uses n hi) (append_assoc head inner (flat_uses around scope rest))
      (block_step W R S Uses uses_law h i within j rest n hi (head ++ inner) (flat_uses around scope rest) a e
      (λ x y first le within' f. uses_law.append head inner n (n + length (flat_header h)) x y le (header_rises scope h n first) (flat_rise within scope scope x y within' f))
      (λ c b f. flat_rise rest around scope c hi b f))

  -- what is used between the braces alone
  abbrev Inside : Header → Tree → List (Used ℕ) → Type 0
  Inside h within used = (n a b : ℕ) → Are W R S n (flat_header h) → n + length (flat_header h) ≤ a → Are W R S a (flat within) → b ≡ a + length (flat within) → Uses n b used

  inside : (h : Header) (within : Tree) (used : List (Used ℕ)) → ((a b : ℕ) → Are W R S a (flat within) → b ≡ a + length (flat within) → Uses a b used) → Inside h within used
  inside h within used r n a b head le inner f = uses_law.within used a b n b (omega (arith, le)) (omega arith) (r a b inner f)

  flat_inside : (h : Header) (within : Tree) (around scope : List (Source ℕ)) → Inside h within (flat_uses around scope within)
  flat_inside h within around scope = inside h within (flat_uses around scope within) (flat_rise within around scope)

  extending : (e : Extending) (within : Tree) (scope : List (Source ℕ)) → Inside (header.Extend e) within (block_uses scope (header.Extend e) [] within)
  extending e within scope n a b head le inner f =
      uses_law.append (header_uses scope (header.Extend e)) (flat_uses scope scope within) n (n + length (flat_header (header.Extend e))) a b le (header_rises scope (header.Extend e) n head) (flat_rise within scope scope a b inner f)

  nothing : (h : Header) (within : Tree) → Inside h within []
  nothing h within n a b head le inner f = omega (arith, le, f)

  members_rise : (t : Tree) (around scope : List (Source ℕ)) (n hi : ℕ) → Are W R S n (flat t) → hi ≡ n + length (flat t) → Uses n hi (member_uses around scope t)
  members_rise End around scope n hi a e = omega (arith, e)
  members_rise (Leaf s rest) around scope n hi a e = leaf_step W R S Uses uses_law s rest n hi (statement_uses around scope s) (member_uses around scope rest) a e (statement_rises around scope s n) (λ c b f. members_rise rest around scope c hi b f)
  members_rise (Block (header.Message h) i within j rest) around scope n hi a e =
      let used = member_uses scope (scope ++ Token h.name ∷ []) within in
      block_step W R S Uses uses_law (header.Message h) i within j rest n hi used (member_uses around scope rest) a e
      (inside (header.Message h) within used (members_rise within scope (scope ++ Token h.name ∷ [])) n) (λ c b f. members_rise rest around scope c hi b f)
  members_rise (Block (header.Oneof h) i within j rest) around scope n hi a e =
      block_step W R S Uses uses_law (header.Oneof h) i within j rest n hi (flat_uses scope scope within) (member_uses around scope rest) a e (flat_inside (header.Oneof h) within scope scope n) (λ c b f. members_rise rest around scope c hi b f)
  members_rise (Block (header.Enum h) i within j rest) around scope n hi a e =
      block_step W R S Uses uses_law (header.Enum h) i within j rest n hi (flat_uses scope scope within) (member_uses around scope rest) a e (flat_inside (header.Enum h) within scope scope n) (λ c b f. members_rise rest around scope c hi b f)
  members_rise (Block (header.Extend x) i within j rest) around scope n hi a e =
      block_step W R S Uses uses_law (header.Extend x) i within j rest n hi (block_uses scope (header.Extend x) [] within) (member_uses around scope rest) a e (extending x within scope n) (λ c b f. members_rise rest around scope c hi b f)
  members_rise (Block whole i within j rest) around scope n hi a e =
      block_step W R S Uses uses_law whole i within j rest n hi [] (member_uses around scope rest) a e (nothing whole within n) (λ c b f. members_rise rest around scope c hi b f)

  pub items_rise : (t : Tree) (scope : List (Source ℕ)) (n hi : ℕ) → Are W R S n (flat t) → hi ≡ n + length (flat t) → Uses n hi (item_uses scope t)
  items_rise End scope n hi a e = omega (arith, e)
  items_rise (Leaf s rest) scope n hi a e = leaf_step W R S Uses uses_law s rest n hi (option_uses scope s) (item_uses scope rest) a e (option_rises scope s n) (λ c b f. items_rise rest scope c hi b f)
  items_rise (Block (header.Message h) i within j rest) scope n hi a e =
      let used = member_uses scope (scope ++ Token h.name ∷ []) within in
      block_step W R S Uses uses_law (header.Message h) i within j rest n hi used (item_uses scope rest) a e
      (inside (header.Message h) within used (members_rise within scope (scope ++ Token h.name ∷ [])) n) (λ c b f. items_rise rest scope c hi b f)
  items_rise (Block (header.Enum h) i within j rest) scope n hi a e =
      block_step W R S Uses uses_law (header.Enum h) i within j rest n hi (flat_uses scope scope within) (item_uses scope rest) a e (flat_inside (header.Enum h) within scope scope n) (λ c b f. items_rise rest scope c hi b f)
  items_rise (Block (header.Service h) i within j rest) scope n hi a e =
      block_step W R S Uses uses_law (header.Service h) i within j rest n hi (flat_uses scope (scope ++ Token h.name ∷ []) within) (item_uses scope rest) a e (flat_inside (header.Service h) within scope (scope ++ Token h.name ∷ []) n) (λ c b f. items_rise rest scope c hi b f)
  items_rise (Block (header.Extend x) i within j rest) scope n hi a e =
      block_step W R S Uses uses_law (header.Extend x) i within j rest n hi (block_uses scope (header.Extend x) [] within) (item_uses scope rest) a e (extending x within scope n) (λ c b f. items_rise rest scope c hi b f)
  items_rise (Block h i within j rest) scope n hi a e =
      block_step W R S Uses uses_law h i within j rest n hi [] (item_uses scope rest) a e (nothing h within n) (λ c b f. items_rise rest scope c hi b f)

  -- ---- imports

  abbrev pub Imports : ℕ → ℕ → List Wanted → Type 0
  Imports = Rising (λ w. w.path) (λ w. S w.path)

  imports_law : Spreads Imports
  imports_law = rising_spreads (λ w. w.path) (λ w. S w.path)

  import_rises : (s : Statement) (n : ℕ) → Are W R S n (flat_statement s) → Imports n (n + length (flat_statement s)) (statement_imports s)
  import_rises (statement.Import i) n a =
      let behind = text_mark i.path ++ one class.Semicolon i.semicolon in
      let at = are_at W R S n (flat_import i) (mark want.Text i.path) a
      (Contains-append_right (one class.Import i.keyword) (flat_option flat_modifier i.modifier ++ behind) _ (Contains-append_right (flat_option flat_modifier i.modifier) behind _ (0, omega arith, refl))) in
      (at.0, at.1, at.2, omega (arith, at.1))
  import_rises _ n a = omega arith

  pub imports_rise : (t : Tree) (n hi : ℕ) → Are W R S n (flat t) → hi ≡ n + length (flat t) → Imports n hi (imports_in t)
  imports_rise End n hi a e = omega (arith, e)
  imports_rise (Leaf s rest) n hi a e = leaf_step W R S Imports imports_law s rest n hi (statement_imports s) (imports_in rest) a e (import_rises s n) (λ c b f. imports_rise rest c hi b f)
  imports_rise (Block h i within j rest) n hi a e =
      block_step W R S Imports imports_law h i within j rest n hi [] (imports_in rest) a e (λ x y head le inner f. omega (arith, le, f)) (λ c b f. imports_rise rest c hi b f)
