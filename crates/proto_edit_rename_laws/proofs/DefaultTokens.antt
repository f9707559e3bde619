-- The defaults that mean a value, by the fields that they are of (for the crates above).
use Rattle.std.proofs.Common.{◌≡◌, ℕ, suc, ◌+◌, ◌<◌, Bool, true, false, if◌then◌else◌, List, [], ◌∷◌, length, map, flat_map, Option, codes, refl, ap, subst, ◌∙◌, inl, inr, arith, Contains}
use Rattle.proto_base.proofs.Common.{Contains-append_cases, contains_cases, from_map}
use Rattle.proto_tree.specs.declared.piece.Header.{Header}
use Rattle.proto_tree.specs.declared.piece.Header.TheVariants as header
use Rattle.proto_tree.specs.declared.tree.Constant.{Constant}
use Rattle.proto_tree.specs.declared.tree.Constant.TheVariants as constant
use Rattle.proto_tree.specs.Tree.{Tree}
use Rattle.proto_files.proofs.Common.{ReadOf, read_at, FileOf}
use Rattle.proto_names_rules.specs.Grown.{At, at}
use Rattle.proto_names_imports.specs.Links.{text_of}
use Rattle.proto_ast.proofs.Common.{is_named, BlockOf, FieldOf, OptionOf, blocks_in, fields_in}
use Rattle.proto_desc_checks_laws.specs.Renamed.{constant_tokens}
use Rattle.proto_edit_rules.specs.Rename.{default_words, defaults_from, fields_of_block, fields_of_file, means_value, renamed_default, type_meaning}
use Rattle.proto_edit_rename_laws.proofs.Places.{from_flat_map}

-- the word of a default of a field of the tree that is read of its file, and it means the value
pub record IsDefaultOf (files : List FileOf) (reads : List ReadOf) (enum : Option (List (List ℕ))) (old : List ℕ) (tree : Tree) (a : At) : Type 0 where
  pub b : BlockOf
  pub block : Contains (blocks_in tree) b
  pub f : FieldOf
  pub field : Contains (fields_in b.within) f
  pub o : OptionOf
  pub option : Contains f.options o
  pub named : is_named (λ t. text_of files reads (at a.file t)) (codes "default") o ≡ true
  pub value : o.value ≡ constant.Word a.token
  pub means : means_value enum old (type_meaning files reads a.file f.kind) (text_of files reads a) ≡ true

then_is : {A : Type 0} (b : Bool) (xs : List A) (y : A) → Contains (if b then xs else []) y → (b ≡ true) × Contains xs y
then_is true xs y c = (refl, c)
then_is false xs y c = absurd (omega (arith, c.1))

single : (x y : ℕ) → Contains (x ∷ []) y → x ≡ y
single x y c = elim (contains_cases x y [] c) [
  | inl e ↦ e
  | inr d ↦ absurd (omega (arith, d.1))
]

word_of_constant : (v : Constant) (w : ℕ) → Contains (constant_tokens v) w → v ≡ constant.Word w
word_of_constant (constant.Word x) w c = ap (λ z. constant.Word z) (single x w c)
word_of_constant (constant.Number n) w c = absurd (omega (arith, c.1))
word_of_constant (constant.Text j) w c = absurd (omega (arith, c.1))

pub of_block : (h : Header) (within : Tree) (f : FieldOf) → Contains (fields_of_block h within) f → Contains (fields_in within) f
of_block (header.Message h) within f c = c
of_block (header.Extend e) within f c = c
of_block whole within f c = absurd (omega (arith, c.1))

module _ (files : List FileOf) (reads : List ReadOf) (enum : Option (List (List ℕ))) (old : List ℕ) where
  in_file : (n : ℕ) (tree : Tree) (w : ℕ) → Contains (flat_map (renamed_default files reads enum old n) (fields_of_file tree)) w → IsDefaultOf files reads enum old tree (at n w)
  in_file n tree w c =
      let f = from_flat_map (renamed_default files reads enum old n) (fields_of_file tree) w c in
      let b = from_flat_map (λ (x : BlockOf). fields_of_block x.header x.within) (blocks_in tree) f.0 f.1 in
      let d = from_flat_map (λ v. if means_value enum old (type_meaning files reads n f.0.kind) (text_of files reads (at n v)) then v ∷ [] else []) (default_words (λ v. text_of files reads (at n v)) f.0) w f.2 in
      let meant = then_is (means_value enum old (type_meaning files reads n f.0.kind) (text_of files reads (at n d.0))) (d.0 ∷ []) w d.2 in
      let same = single d.0 w meant.1 in
      let o = from_flat_map (λ (x : OptionOf). if is_named (λ v. text_of files reads (at n v)) (codes "default") x then constant_tokens x.value else []) f.0.options d.0 d.1 in
      let word = then_is (is_named (λ v. text_of files reads (at n v)) (codes "default") o.0) (constant_tokens o.0.value) d.0 o.2 in
      record {
        b = b.0;
        block = b.1;
        f = f.0;
        field = of_block b.0.header b.0.within f.0 b.2;
        o = o.0;
        option = o.1;
        named = word.0;
        value = word_of_constant o.0.value w (subst (λ v. Contains (constant_tokens o.0.value) v) same word.1);
        means = subst (λ v. means_value enum old (type_meaning files reads n f.0.kind) (text_of files reads (at n v)) ≡ true) same meant.0;
      }

  pub default_of_file : (n : ℕ) (rs : List ReadOf) (a : At) → Contains (defaults_from files reads enum old n rs) a → (k : ℕ) × (k < length rs) × (n + k ≡ a.file) × IsDefaultOf files reads enum old (read_at rs k).tree a
  default_of_file n [] a c = absurd (omega (arith, c.1))
  default_of_file n (r ∷ rs) a c = elim (Contains-append_cases (map (at n) (flat_map (renamed_default files reads enum old n) (fields_of_file r.tree))) (defaults_from files reads enum old (suc n) rs) a c) [
    | inl h ↦
        let w = from_map (at n) (flat_map (renamed_default files reads enum old n) (fields_of_file r.tree)) a h in
        let e : n + 0 ≡ n = omega arith in
        (0, omega arith, e ∙ ap (λ (z : At). z.file) w.2, subst (IsDefaultOf files reads enum old r.tree) w.2 (in_file n r.tree w.0 w.1))
    | inr h ↦
        let x = default_of_file (suc n) rs a h in
        let e : n + suc x.0 ≡ suc n + x.0 = omega arith in
        (suc x.0, omega (arith, x.1), e ∙ x.2, x.3)
  ]
