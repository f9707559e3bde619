-- The field that has a token as its default, among those of a file.
use Rattle.std.proofs.Common.{◌≡◌, ℕ, zero, suc, ◌+◌, ◌<◌, ◌≤◌, Bool, true, false, cond, if◌then◌else◌, List, [], ◌∷◌, length, get_or, drop, map, flat_map, filter, find, Option, Some, None, codes, refl, sym, ap, subst, ◌∙◌, inl, inr, arith, Contains, eqb-true, eq-eqb, true≢false}
use Rattle.proto_base.proofs.Common.{and_from, and_parts, any_from, any_to, cases_Bool, cond-true, cond-false, contains_cases, contains_head, contains_later, contains_map, drop_all, from_flat_map, from_map, front_element, none-some, option_or, same_Some, to_flat_map, Contains-append_cases, Contains-append_left, Contains-append_right}
use Rattle.proto_text.proofs.Common.{Lexeme, word_at}
use Rattle.proto_tree.specs.declared.piece.Header.{Header}
use Rattle.proto_tree.specs.declared.piece.Header.TheVariants as header
use Rattle.proto_tree.specs.declared.tree.Constant.{Constant}
use Rattle.proto_tree.specs.declared.tree.Constant.TheVariants as constant
use Rattle.proto_tree.specs.Tree.{Tree}
use Rattle.proto_files.proofs.Common.{AreRead, FileOf, IsTreeOf, ReadOf, file_at, read_at, same_tree}
use Rattle.proto_names_rules.specs.Grown.{At, at}
use Rattle.proto_names_imports.specs.Links.{text_of}
use Rattle.proto_ast.specs.Options.{is_named}
use Rattle.proto_ast.specs.Scenes.{Scene, text as text_in}
use Rattle.proto_ast.specs.Parts.{BlockOf, FieldOf, OptionOf, blocks_in}
use Rattle.proto_resolved.specs.Blocks.{holders_in, may_hold}
use Rattle.proto_edit_rename.specs.Members.{IsReadAs}
use Rattle.proto_edit_rename_laws.proofs.Common.{default_words, defaults_from, fields_of_block, fields_of_file, means_value, renamed_default, renamed_defaults, type_meaning, find_there}
use Rattle.proto_desc_checks_laws.specs.Renamed.{constant_tokens}
use Rattle.proto_names_at.specs.Defaults.{field_in, first_field, has_default, is_default, is_word}

-- ---- the option that is the default

word_is : (token : ℕ) (v : Constant) → is_word token v ≡ true → v ≡ constant.Word token
word_is token (constant.Word w) h = ap (λ (z : ℕ). constant.Word z) (eqb-true w token h)
word_is token (constant.Number n) h = absurd (true≢false (sym h))
word_is token (constant.Text j) h = absurd (true≢false (sym h))

is_its_word : (token : ℕ) (v : Constant) → Contains (constant_tokens v) token → is_word token v ≡ true
is_its_word token (constant.Word w) c = elim (contains_cases w token [] c) [
  | inl e ↦ eq-eqb w token e
  | inr d ↦ absurd (omega (arith, d.1))
]
is_its_word token (constant.Number n) c = absurd (omega (arith, c.1))
is_its_word token (constant.Text j) c = absurd (omega (arith, c.1))

then_is : (b : Bool) (xs : List ℕ) (y : ℕ) → Contains (if b then xs else []) y → (b ≡ true) × Contains xs y
then_is true xs y c = (refl, c)
then_is false xs y c = absurd (omega (arith, c.1))

pub none_found : {A : Type 0} (p : A → Bool) (xs : List A) → find p xs ≡ None → (x : A) → Contains xs x → p x ≡ true → ⊥
none_found p [] e x c h = omega (arith, c.1)
none_found p (y ∷ xs) e x c h = elim (cases_Bool (p y)) [
  | inl t ↦ none-some y (sym e ∙ cond-true (p y) (Some y) (find p xs) t)
  | inr f ↦ elim (contains_cases y x xs c) [
    | inl same ↦ true≢false (sym h ∙ ap p (sym same) ∙ f)
    | inr d ↦ none_found p xs (sym (cond-false (p y) (Some y) (find p xs) f) ∙ e) x d h
  ]
]

module _ (text : ℕ → List ℕ) (token : ℕ) where
  -- the option of a field that has the default
  pub record DefaultOption (f : FieldOf) : Type 0 where
    pub o : OptionOf
    pub option : Contains f.options o
    pub named : is_named text (codes "default") o ≡ true
    pub value : o.value ≡ constant.Word token

  pub default_option : (f : FieldOf) → has_default text token f ≡ true → DefaultOption f
  default_option f h =
      let x = any_to (is_default text token) f.options h in
      let p = and_parts (is_named text (codes "default") x.0) (is_word token x.0.value) x.2 in
      record { o = x.0; option = x.1; named = p.0; value = word_is token x.0.value p.1 }

  words_there : (f : FieldOf) → DefaultOption f → Contains (default_words text f) token
  words_there f x =
      let own : Contains (constant_tokens x.o.value) token = subst (λ (v : Constant). Contains (constant_tokens v) token) (sym x.value) (contains_head token []) in
      to_flat_map (λ o. if is_named text (codes "default") o then constant_tokens o.value else []) f.options x.o token x.option
      (subst (λ (b : Bool). Contains (if b then constant_tokens x.o.value else []) token) (sym x.named) own)

  -- a field with the word among its defaults has it as a default
  words_had : (f : FieldOf) → Contains (default_words text f) token → has_default text token f ≡ true
  words_had f c =
      let o = from_flat_map (λ (o : OptionOf). if is_named text (codes "default") o then constant_tokens o.value else []) f.options token c in
      let w = then_is (is_named text (codes "default") o.0) (constant_tokens o.0.value) token o.2 in
      any_from (is_default text token) f.options o.0 o.1 (and_from (is_named text (codes "default") o.0) (is_word token o.0.value) w.0 (is_its_word token o.0.value w.1))

  -- ---- the first field

  -- a block with the field that was found
  pub record FieldFound (bs : List BlockOf) (f : FieldOf) : Type 0 where
    pub b : BlockOf
    pub block : Contains bs b
    pub field : Contains (fields_of_block b.header b.within) f
    pub has : has_default text token f ≡ true

  pub field_found : (bs : List BlockOf) (f : FieldOf) → first_field text token bs ≡ Some f → FieldFound bs f
  field_found [] f e = absurd (none-some f e)
  field_found (b ∷ bs) f e = by (field_found bs f) (field_in text token b) refl e
    where
      by : (first_field text token bs ≡ Some f → FieldFound bs f) → (o : Option FieldOf) → field_in text token b ≡ o → option_or o (first_field text token bs) ≡ Some f → FieldFound (b ∷ bs) f
      by on (Some g) q h =
          let x = find_there (has_default text token) (fields_of_block b.header b.within) f (q ∙ h) in
          record { b = b; block = contains_head b bs; field = x.0; has = x.1 }
      by on None q h = let r = on h in record { b = r.b; block = contains_later b r.b bs r.block; field = r.field; has = r.has }

  pub no_field : (bs : List BlockOf) → first_field text token bs ≡ None → (b : BlockOf) (f : FieldOf) → Contains bs b → Contains (fields_of_block b.header b.within) f → has_default text token f ≡ true → ⊥
  no_field [] e b f cb cf h = omega (arith, cb.1)
  no_field (c ∷ bs) e b f cb cf h = by (λ n later. no_field bs n b f later cf h) (field_in text token c) refl e
    where
      by : (first_field text token bs ≡ None → Contains bs b → ⊥) → (o : Option FieldOf) → field_in text token c ≡ o → option_or o (first_field text token bs) ≡ None → ⊥
      by on (Some g) q n = none-some g (sym n)
      by on None q n = elim (contains_cases c b bs cb) [
        | inl same ↦ none_found (has_default text token) (fields_of_block c.header c.within) q f (subst (λ (z : BlockOf). Contains (fields_of_block z.header z.within) f) (sym same) cf) h
        | inr later ↦ on n later
      ]

  -- ---- the blocks that may hold fields

  holds_none : (h : Header) (within : Tree) → may_hold h ≡ false → fields_of_block h within ≡ []
  holds_none (header.Message h) within e = absurd (true≢false e)
  holds_none (header.Extend x) within e = absurd (true≢false e)
  holds_none other within e = refl

  among_holders : (bs : List BlockOf) → first_field text token (filter (λ b. may_hold b.header) bs) ≡ first_field text token bs
  among_holders [] = refl
  among_holders (b ∷ bs) = by (among_holders bs) (may_hold b.header) refl
    where
      by : first_field text token (filter (λ b. may_hold b.header) bs) ≡ first_field text token bs → (c : Bool) → may_hold b.header ≡ c → first_field text token (cond c (b ∷ filter (λ b. may_hold b.header) bs) (filter (λ b. may_hold b.header) bs)) ≡ option_or (field_in text token b) (first_field text token bs)
      by on true q = ap (option_or (field_in text token b)) on
      by on false q = on ∙ ap (λ (fs : List FieldOf). option_or (find (has_default text token) fs) (first_field text token bs)) (sym (holds_none b.header b.within q))

  pub in_holders : (tree : Tree) → first_field text token (holders_in tree) ≡ first_field text token (blocks_in tree)
  in_holders tree = among_holders (blocks_in tree)

-- ---- defaults of one file among those of all

module _ (files : List FileOf) (reads : List ReadOf) (enum : Option (List (List ℕ))) (old : List ℕ) where
  abbrev here : ℕ → ReadOf → List ℕ
  here file r = flat_map (renamed_default files reads enum old file) (fields_of_file r.tree)

  -- the file of a default
  record DefaultIn (n : ℕ) (rs : List ReadOf) (file token : ℕ) : Type 0 where
    k : ℕ
    inside : k < length rs
    file_is : file ≡ n + k
    within : Contains (here file (read_at rs k)) token

  default_in : (n : ℕ) (rs : List ReadOf) (file token : ℕ) → Contains (defaults_from files reads enum old n rs) (at file token) → DefaultIn n rs file token
  default_in n [] file token c = absurd (omega (arith, c.1))
  default_in n (r ∷ rs) file token c = elim (Contains-append_cases (map (at n) (here n r)) (defaults_from files reads enum old (suc n) rs) (at file token) c) [
    | inl a ↦
        let j = from_map (at n) (here n r) (at file token) a in
        let f : n ≡ file = ap (λ (z : At). z.file) {x = at n j.0} {y = at file token} j.2 in
        let t : j.0 ≡ token = ap (λ (z : At). z.token) {x = at n j.0} {y = at file token} j.2 in
        record { k = 0; inside = omega arith; file_is = omega (arith, f); within = subst (λ (z : ℕ). Contains (here z r) token) f (subst (Contains (here n r)) t j.1) }
    | inr b ↦
        let s = default_in (suc n) rs file token b in
        let l = s.inside in
        let f = s.file_is in
        record { k = suc s.k; inside = omega (arith, l); file_is = omega (arith, f); within = s.within }
  ]

  default_back : (n : ℕ) (rs : List ReadOf) (k file token : ℕ) → k < length rs → file ≡ n + k → Contains (here file (read_at rs k)) token → Contains (defaults_from files reads enum old n rs) (at file token)
  default_back n [] k file token l e c = absurd (omega (arith, l))
  default_back n (r ∷ rs) zero file token l e c =
      let f : file ≡ n = omega (arith, e) in
      Contains-append_left (map (at n) (here n r)) (defaults_from files reads enum old (suc n) rs) (at file token)
      (subst (λ (z : ℕ). Contains (map (at n) (here n r)) (at z token)) (sym f) (contains_map (at n) (here n r) token (subst (λ (z : ℕ). Contains (here z r) token) f c)))
  default_back n (r ∷ rs) (suc k) file token l e c =
      Contains-append_right (map (at n) (here n r)) (defaults_from files reads enum old (suc n) rs) (at file token) (default_back (suc n) rs k file token (omega (arith, l)) (omega (arith, e)) c)

  -- a field of the file that has the default, and means the value
  pub record FieldMeans (file token : ℕ) : Type 0 where
    pub inside : file < length reads
    pub b : BlockOf
    pub block : Contains (blocks_in (read_at reads file).tree) b
    pub f : FieldOf
    pub field : Contains (fields_of_block b.header b.within) f
    pub has : has_default (λ t. text_of files reads (at file t)) token f ≡ true
    pub means : means_value enum old (type_meaning files reads file f.kind) (text_of files reads (at file token)) ≡ true

  means_at : (file : ℕ) (f : FieldOf) (v w : ℕ) → v ≡ w → means_value enum old (type_meaning files reads file f.kind) (text_of files reads (at file v)) ≡ true → means_value enum old (type_meaning files reads file f.kind) (text_of files reads (at file w)) ≡ true
  means_at file f v w e h = subst (λ (x : ℕ). means_value enum old (type_meaning files reads file f.kind) (text_of files reads (at file x)) ≡ true) e h

  pub default_field : (file token : ℕ) → Contains (renamed_defaults files reads enum old) (at file token) → FieldMeans file token
  default_field file token c =
      let d = default_in 0 reads file token c in
      let is = d.file_is in
      let same : d.k ≡ file = omega (arith, is) in
      let l = d.inside in
      let there = subst (λ (k : ℕ). Contains (here file (read_at reads k)) token) same d.within in
      let f = from_flat_map (renamed_default files reads enum old file) (fields_of_file (read_at reads file).tree) token there in
      let b = from_flat_map (λ (x : BlockOf). fields_of_block x.header x.within) (blocks_in (read_at reads file).tree) f.0 f.1 in
      let w = from_flat_map (λ (v : ℕ). if means_value enum old (type_meaning files reads file f.0.kind) (text_of files reads (at file v)) then v ∷ [] else []) (default_words (λ v. text_of files reads (at file v)) f.0) token f.2 in
      let meant = then_is (means_value enum old (type_meaning files reads file f.0.kind) (text_of files reads (at file w.0))) (w.0 ∷ []) token w.2 in
      let one : w.0 ≡ token = single w.0 token meant.1 in
      record {
        inside = omega (arith, l, same);
        b = b.0;
        block = b.1;
        f = f.0;
        field = b.2;
        has = words_had (λ t. text_of files reads (at file t)) token f.0 (subst (Contains (default_words (λ v. text_of files reads (at file v)) f.0)) {x = w.0} one w.1);
        means = means_at file f.0 w.0 token one meant.0;
      }
    where
      single : (x y : ℕ) → Contains (x ∷ []) y → x ≡ y
      single x y c = elim (contains_cases x y [] c) [
        | inl e ↦ e
        | inr d ↦ absurd (omega (arith, d.1))
      ]

  pub field_default : (file token : ℕ) → FieldMeans file token → Contains (renamed_defaults files reads enum old) (at file token)
  field_default file token x =
      let o = default_option (λ t. text_of files reads (at file t)) token x.f x.has in
      let there = words_there (λ t. text_of files reads (at file t)) token x.f o in
      let own : Contains (renamed_default files reads enum old file x.f) token =
      to_flat_map (λ (v : ℕ). if means_value enum old (type_meaning files reads file x.f.kind) (text_of files reads (at file v)) then v ∷ [] else []) (default_words (λ v. text_of files reads (at file v)) x.f) token token there
      (subst (λ (b : Bool). Contains (if b then token ∷ [] else []) token) (sym x.means) (contains_head token [])) in
      let fields = to_flat_map (λ (y : BlockOf). fields_of_block y.header y.within) (blocks_in (read_at reads file).tree) x.b x.f x.block x.field in
      default_back 0 reads file file token x.inside (omega arith) (to_flat_map (renamed_default files reads enum old file) (fields_of_file (read_at reads file).tree) x.f token fields own)

-- ---- finding, as it goes on

pub find_here : {X Y : Type 0} (p : Y → Bool) (view : X → Y) (xs : List X) (i : ℕ) (x d : X) → i < length xs → x ≡ get_or xs i d → p (view x) ≡ true → find p (map view (drop i xs)) ≡ Some (view x)
find_here p view xs i x d lt is q = ap (λ (ys : List _). find p (map view ys)) (front_element xs i x d lt is) ∙ cond-true (p (view x)) (Some (view x)) (find p (map view (drop (i + 1) xs))) q

pub find_on : {X Y : Type 0} (p : Y → Bool) (view : X → Y) (xs : List X) (i : ℕ) (x d : X) → i < length xs → x ≡ get_or xs i d → p (view x) ≡ false → find p (map view (drop i xs)) ≡ find p (map view (drop (i + 1) xs))
find_on p view xs i x d lt is q = ap (λ (ys : List _). find p (map view ys)) (front_element xs i x d lt is) ∙ cond-false (p (view x)) (Some (view x)) (find p (map view (drop (i + 1) xs))) q

pub find_none : {X Y : Type 0} (p : Y → Bool) (view : X → Y) (xs : List X) (i : ℕ) → length xs ≤ i → find p (map view (drop i xs)) ≡ None
find_none p view xs i le = ap (λ (ys : List _). find p (map view ys)) (drop_all i xs le)

-- ---- blocks, as they are gone through

module _ (text : ℕ → List ℕ) (token : ℕ) where
  pub block_here : {X : Type 0} (view : X → BlockOf) (xs : List X) (i : ℕ) (x d : X) → i < length xs → x ≡ get_or xs i d → (f : FieldOf) → field_in text token (view x) ≡ Some f → first_field text token (map view (drop i xs)) ≡ Some f
  block_here view xs i x d lt is f q =
      ap (λ (ys : List _). first_field text token (map view ys)) (front_element xs i x d lt is) ∙ ap (λ (o : Option FieldOf). option_or o (first_field text token (map view (drop (i + 1) xs)))) q

  pub block_on : {X : Type 0} (view : X → BlockOf) (xs : List X) (i : ℕ) (x d : X) → i < length xs → x ≡ get_or xs i d → field_in text token (view x) ≡ None → first_field text token (map view (drop i xs)) ≡ first_field text token (map view (drop (i + 1) xs))
  block_on view xs i x d lt is q =
      ap (λ (ys : List _). first_field text token (map view ys)) (front_element xs i x d lt is) ∙ ap (λ (o : Option FieldOf). option_or o (first_field text token (map view (drop (i + 1) xs)))) q

  pub no_block : {X : Type 0} (view : X → BlockOf) (xs : List X) (i : ℕ) → length xs ≤ i → first_field text token (map view (drop i xs)) ≡ None
  no_block view xs i le = ap (λ (ys : List _). first_field text token (map view ys)) (drop_all i xs le)

-- the one enum at a token, as blocks are gone through
pub then_block : (p : BlockOf → Bool) (b c : BlockOf) → Some c ≡ (if p b then Some b else None) → (p b ≡ true) × (b ≡ c)
then_block p b c e = by (p b) refl e
  where
    by : (t : Bool) → p b ≡ t → Some c ≡ (if t then Some b else None) → (p b ≡ true) × (b ≡ c)
    by true q h = (q, same_Some b c (sym h))
    by false q h = absurd (none-some c (sym h))

pub else_none : (p : BlockOf → Bool) (b : BlockOf) → ◌≡◌ {A = Option BlockOf} None (if p b then Some b else None) → p b ≡ false
else_none p b e = by (p b) refl e
  where
    by : (t : Bool) → p b ≡ t → ◌≡◌ {A = Option BlockOf} None (if t then Some b else None) → p b ≡ false
    by true q h = absurd (none-some b h)
    by false q h = q

-- ---- as a file is read

pub fields_read : (files : List FileOf) (reads : List ReadOf) → AreRead files reads → (file : ℕ) → file < length files → (scene : Scene) → IsReadAs files reads file scene → (tree : Tree) → IsTreeOf (file_at files file) tree → (token : ℕ) (blocks : List BlockOf) → blocks ≡ holders_in tree
    → first_field (text_in scene) token blocks ≡ first_field (λ t. text_of files reads (at file t)) token (blocks_in (read_at reads file).tree)
fields_read files reads are file within scene as_read tree of_file token blocks is =
    ap (first_field (text_in scene) token) is
    ∙ in_holders (text_in scene) token tree
    ∙ ap (λ (ls : List Lexeme). first_field (word_at ls) token (blocks_in tree)) as_read.lexemes
    ∙ ap (λ (t : Tree). first_field (λ t. text_of files reads (at file t)) token (blocks_in t)) (sym (same_tree files reads file tree are within of_file))
