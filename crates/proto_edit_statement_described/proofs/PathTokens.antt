-- The token of an import's path is a string, whose value is the path.
use Rattle.std.proofs.Common.{◌≡◌, ℕ, List, [], ◌++◌, get_or, Option, Some, None, refl, sym, ap, subst, ◌∙◌, inl, inr, arith, slice_get, Contains}
use Rattle.proto_base.proofs.Common.{Contains-append_cases, Contains-append_left, Contains-append_right, slice_get-get_or, or_nothing, contains_cases, contains_head}
use Rattle.proto_text.specs.declared.kind.TokenKind.TheVariants.{Text}
use Rattle.proto_text.proofs.Common.{word_at, Lexeme, value_of}
use Rattle.proto_tree.specs.declared.class.Class.TheVariants as class
use Rattle.proto_tree.specs.Modifiers.{is_public, is_weak}
use Rattle.proto_tree.specs.declared.class.Expected.TheVariants as want
use Rattle.proto_tree.specs.declared.piece.Statement.{Statement}
use Rattle.proto_tree.specs.declared.piece.Statement.TheVariants as statement
use Rattle.proto_tree.proofs.Common.{Mark, flat_header, flat_import, flat_option, flat_statement, mark, one, text_mark, Tree, End, Leaf, Block, Spells, flat, classes_in, marks_fit_in, flat_modifier}
use Rattle.proto_names_outline.proofs.Common.{Wanted, imports_in, statement_imports, text_only}
use Rattle.proto_ast.specs.Scenes.{string_of, value_in, value_or_none as value_by_kind}
use Rattle.proto_edit_statement_described.proofs.MovedScenes.{text_in, word_by}
use Rattle.proto_base.specs.declared.profile.Profile.{Profile}
use Rattle.proto_tree.specs.Words.{class_by}
use Rattle.proto_names_outline.proofs.ReadTrees.{same_text}

-- ---- the paths of imports

own_mark : (s : Statement) (w : Wanted) → Contains (statement_imports s) w → Contains (flat_statement s) (mark want.Text w.path)
own_mark (statement.Import i) w c = elim (contains_cases (record { path = i.path; is_public = is_public i.modifier; is_weak = is_weak i.modifier }) w [] c) [
  | inl e ↦
      let m : Mark = mark want.Text i.path in
      subst (λ (v : Wanted). Contains (flat_import i) (mark want.Text v.path)) e
      (Contains-append_right (one class.Import i.keyword) (flat_option flat_modifier i.modifier ++ (text_mark i.path ++ one class.Semicolon i.semicolon)) m
      (Contains-append_right (flat_option flat_modifier i.modifier) (text_mark i.path ++ one class.Semicolon i.semicolon) m (contains_head m (one class.Semicolon i.semicolon))))
  | inr d ↦ absurd (omega (arith, d.1))
]
own_mark _ w c = absurd (omega (arith, c.1))

path_marked : (t : Tree) (w : Wanted) → Contains (imports_in t) w → Contains (flat t) (mark want.Text w.path)
path_marked End w c = absurd (omega (arith, c.1))
path_marked (Leaf s rest) w c = elim (Contains-append_cases (statement_imports s) (imports_in rest) w c) [
  | inl d ↦ Contains-append_left (flat_statement s) (flat rest) (mark want.Text w.path) (own_mark s w d)
  | inr d ↦ Contains-append_right (flat_statement s) (flat rest) (mark want.Text w.path) (path_marked rest w d)
]
path_marked (Block h i within j rest) w c =
    let m : Mark = mark want.Text w.path in
    Contains-append_right (flat_header h ++ one class.Open i) (flat within ++ (one class.Close j ++ flat rest)) m
    (Contains-append_right (flat within) (one class.Close j ++ flat rest) m (Contains-append_right (one class.Close j) (flat rest) m (path_marked rest w c)))

pub path_token : (profile : Profile) (t : Tree) (ls : List Lexeme) (w : Wanted) → Spells t (classes_in profile 0 ls) → Contains (imports_in t) w → (l : Lexeme) × (slice_get ls w.path ≡ Some l) × (l.kind ≡ Text)
path_token profile t ls w h c =
    let other : Lexeme = record { kind = Text; text = [] } in
    let f = marks_fit_in profile t ls (mark want.Text w.path) other h (path_marked t w c) in
    (get_or ls w.path other, slice_get-get_or ls w.path other f.0, text_only (get_or ls w.path other).kind (get_or ls w.path other).text (sym (same_text profile (class_by (get_or ls w.path other).kind (get_or ls w.path other).text)) ∙ f.1))

-- ---- their values

text_value : (o : Option (List ℕ)) → value_by_kind Text o ≡ or_nothing o
text_value None = refl
text_value (Some v) = refl

-- as the descriptors have it and as the links have it
pub path_value : (profile : Profile) (t : Tree) (ls : List Lexeme) (w : Wanted) → Spells t (classes_in profile 0 ls) → Contains (imports_in t) w → value_in ls w.path ≡ or_nothing (value_of (word_at ls w.path))
path_value profile t ls w h c =
    let l = path_token profile t ls w h c in
    let word : word_at ls w.path ≡ l.0.text = word_by ls w.path ∙ ap text_in l.1 in
    ap string_of l.1 ∙ ap (λ k. value_by_kind k (value_of l.0.text)) l.2 ∙ text_value (value_of l.0.text) ∙ ap (λ v. or_nothing (value_of v)) (sym word)
