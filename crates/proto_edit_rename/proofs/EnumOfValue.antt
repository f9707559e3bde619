-- The enum that has a value stands beside it.
use Rattle.std.proofs.Common.{◌≡◌, ℕ, ◌+◌, ◌<◌, ◌==◌, Bool, true, cond, List, [], ◌∷◌, ◌++◌, length, map, find, Option, Some, None, option_map, refl, sym, ap, ap₂, subst, ◌∙◌, inl, inr, arith, Contains, eqb-true, true≢false}
use Rattle.proto_base.proofs.Common.{cases_Bool, append_cancel_right, none-some, same_Some, any_to, contains_cases, from_map, contains_filter, from_filter}
use Rattle.proto_case.specs.Camel.{entry_name}
use Rattle.proto_text.proofs.Common.{lexeme_at, length_map}
use Rattle.proto_tree.specs.declared.piece.Header.{Header}
use Rattle.proto_tree.specs.declared.piece.Header.TheVariants as header
use Rattle.proto_tree.specs.declared.tree.Value.{Value as ValueParts}
use Rattle.proto_tree.proofs.Common.{Numbered, Tree, End, flat, trees_are_numbered_in}
use Rattle.proto_files.proofs.Common.{FileOf, file_at, AreRead, ReadOf, read_at, IsTreeOf, same_tree}
use Rattle.proto_names_rules.specs.declared.kind.Kind.TheVariants.{Enum, Value}
use Rattle.proto_names_rules.proofs.Common.{place_from, place_of, At, at, declared_of, joined, Token, name_of, shifted_declared, shifted_source, spell, Placed, file_placed, place, map_append}
use Rattle.proto_names_outline.specs.FromTree.{items_in}
use Rattle.proto_names_imports.specs.Links.{link_skeleton, names_in, text_of}
use Rattle.proto_ast.specs.Parts.{BlockOf, blocks_in, values_in}
use Rattle.proto_desc_checks_laws.proofs.Declarations.{values_are_declared}
use Rattle.proto_edit_captures.proofs.Common.{is_enum_at, HasEnum, IsEnumOf, Target, declared_there, ends_with_token, is_written, files_are_woven, place_last, IsFoundTarget}
use Rattle.proto_edit_captures.proofs.Blocks.{one_block}
use Rattle.proto_edit_captures.proofs.JoinedNames.{joined_last, lead}
use Rattle.proto_edit_captures.proofs.Scenes.{find_there, index_map}
use Rattle.proto_edit_captures.specs.declared.rename_target.RenameTarget.{RenameTarget}
use Rattle.proto_edit_rename.specs.MembersCommon.{holders_in, may_hold, has_value, holds_value, name_token}
use Rattle.proto_edit_rename.proofs.AimedAt.{aim_inside}
use Rattle.proto_edit_rename.proofs.MemberTests.{value_there}

-- ---- blocks

find_none : (p : BlockOf → Bool) (xs : List BlockOf) (x : BlockOf) → Contains xs x → p x ≡ true → find p xs ≡ None → ⊥
find_none p [] x c h e = omega (arith, c.1)
find_none p (y ∷ xs) x c h e = elim (cases_Bool (p y)) [
  | inl t ↦ none-some y (sym e ∙ ap (λ b. cond b (Some y) (find p xs)) t)
  | inr f ↦ elim (contains_cases y x xs c) [
    | inl same ↦ true≢false (sym h ∙ ap p (sym same) ∙ f)
    | inr d ↦ find_none p xs x d h (sym (ap (λ b. cond b (Some y) (find p xs)) f) ∙ e)
  ]
]

value_of_holder : (token : ℕ) (h : Header) (within : Tree) → holds_value token h within ≡ true → has_value token (values_in within) ≡ true
value_of_holder token (header.Enum h) within e = e
value_of_holder token whole within e = absurd cc

enum_holder : (n token : ℕ) (h : Header) (within : Tree) → is_enum_at n h ≡ true → has_value token (values_in within) ≡ true → (holds_value token h within ≡ true) × (may_hold h ≡ true)
enum_holder n token (header.Enum h) within q e = (e, refl)
enum_holder n token whole within q e = absurd cc

enum_token : (n : ℕ) (h : Header) → is_enum_at n h ≡ true → name_token h ≡ n
enum_token n (header.Enum h) e = eqb-true h.name n e
enum_token n whole e = absurd cc

module _ (files : List FileOf) (reads : List ReadOf) (are : AreRead files reads) (a : RenameTarget) (t : Target) (h : IsFoundTarget files reads a t) (tree : Tree) (of_file : IsTreeOf (file_at files a.file) tree) where
  inside : a.file < length files
  inside = aim_inside files reads are a t h

  tree_is : (read_at reads a.file).tree ≡ tree
  tree_is = same_tree files reads a.file tree are inside of_file

  declared_here : (p : Placed) → Contains (file_placed (items_in (read_at reads a.file).tree)) p → Contains (link_skeleton files reads).declared (shifted_declared (at a.file) (declared_of a.file p))
  declared_here p c =
      let zero_is : 0 + a.file ≡ a.file = omega arith in
      let n = length_map names_in reads in
      let w = inside in
      let s = are.same in
      let l : a.file < length reads = omega (arith, w, s) in
      subst (λ m. Contains (link_skeleton files reads).declared (shifted_declared (at m) (declared_of m p))) zero_is
      (declared_there 0 (map names_in reads) a.file (names_in (read_at reads a.file)) p (omega (arith, l, n)) (index_map names_in reads (record { tokens = []; tree = End }) (names_in (read_at reads a.file)) a.file l) c)

  -- the enum's name is the value's with the enum's word
  enum_is : (c : BlockOf) → find (λ (b : BlockOf). holds_value a.token b.header b.within) (holders_in tree) ≡ Some c → (enum : List (List ℕ)) → IsEnumOf files reads (at a.file a.token) enum
      → enum ≡ name_of (text_of files reads) entry_name t.above ++ text_of files reads (at a.file (name_token c.header)) ∷ []
  enum_is c found enum y =
      let fb = find_there (λ (x : BlockOf). is_enum_at (place_of y.d).token x.header) (blocks_in (read_at reads a.file).tree) y.b y.found in
      let fc = find_there (λ (b : BlockOf). holds_value a.token b.header b.within) (holders_in tree) c found in
      let there : Contains (blocks_in (read_at reads a.file).tree) c = subst (λ z. Contains (blocks_in z) c) (sym tree_is) (from_filter (λ b. may_hold b.header) (blocks_in tree) c fc.0).0 in
      let vb = from_map (λ (v : ValueParts). v.name) (values_in y.b.within) a.token y.within in
      let vc = any_to (λ (v : ValueParts). v.name == a.token) (values_in c.within) (value_of_holder a.token c.header c.within fc.1) in
      let named : vc.0.name ≡ a.token = eqb-true vc.0.name a.token vc.2 in
      let numbered : Numbered 0 (flat (read_at reads a.file).tree) = trees_are_numbered_in (file_at files a.file).profile (read_at reads a.file).tree (map (lexeme_at (file_at files a.file).bytes) (read_at reads a.file).tokens) (are.trees a.file inside).spells in
      let same : y.b ≡ c = one_block (read_at reads a.file).tree 0 y.b c vb.0 vc.0 numbered fb.0 there vb.1 vc.1 (vb.2 ∙ sym named) in
      let token : name_token c.header ≡ (place_of y.d).token = enum_token (place_of y.d).token c.header (subst (λ (z : BlockOf). is_enum_at (place_of y.d).token z.header ≡ true) same fb.1) in
      let pd = ends_with_token 0 reads y.d y.declared (ap is_written y.kind) in
      let id : place_of y.d ≡ at y.d.file pd.1 = ap (place_from (at y.d.file 0)) pd.2 ∙ place_last (at y.d.file 0) pd.0 (at y.d.file pd.1) in
      let last : at y.d.file pd.1 ≡ at a.file (name_token c.header) = ap₂ (λ (x z : ℕ). at x z) y.file_is (sym (ap (λ (z : At). z.token) id) ∙ sym token) in
      let w = values_are_declared (file_at files a.file).profile (read_at reads a.file).tree (map (lexeme_at (file_at files a.file).bytes) (read_at reads a.file).tokens) (are.trees a.file inside).spells c vc.0 there vc.1 in
      let de = declared_here (place w.1 (Token w.0.name) Enum) w.3 in
      let dv = declared_here (place w.1 (Token vc.0.name) Value) w.4 in
      let pe = map_append (shifted_source (at a.file)) w.1 (Token w.0.name ∷ []) in
      let pv = map_append (shifted_source (at a.file)) w.1 (Token vc.0.name ∷ []) in
      let name_is : w.0.name ≡ name_token c.header = sym (ap name_token w.2) in
      let woven = files_are_woven files reads are in
      let enum_above : pd.0 ≡ map (shifted_source (at a.file)) w.1 = woven.tokens y.d (shifted_declared (at a.file) (declared_of a.file (place w.1 (Token w.0.name) Enum))) y.declared de pd.0 (map (shifted_source (at a.file)) w.1) (at a.file (name_token c.header))
      (pd.2 ∙ ap (λ z. pd.0 ++ Token z ∷ []) last) (pe ∙ ap (λ n. map (shifted_source (at a.file)) w.1 ++ Token (at a.file n) ∷ []) name_is) in
      let value_above : t.above ≡ map (shifted_source (at a.file)) w.1 = woven.tokens t.aim (shifted_declared (at a.file) (declared_of a.file (place w.1 (Token vc.0.name) Value))) h.named.within dv t.above (map (shifted_source (at a.file)) w.1) t.token
      h.named.path (pv ∙ ap (λ n. map (shifted_source (at a.file)) w.1 ++ Token (at a.file n) ∷ []) named ∙ ap (λ z. map (shifted_source (at a.file)) w.1 ++ Token z ∷ []) h.token) in
      sym y.name_is
      ∙ ap (name_of (text_of files reads) entry_name) (pd.2 ∙ ap₂ (λ x z. x ++ Token z ∷ []) (enum_above ∙ sym value_above) last)
      ∙ map_append (spell (text_of files reads) entry_name) t.above (Token (at a.file (name_token c.header)) ∷ [])

  named_as : a.name.now ≡ lead (name_of (text_of files reads) entry_name t.above) ++ text_of files reads (at a.file a.token)
  named_as =
      sym h.named.name_is
      ∙ ap (λ p. joined (name_of (text_of files reads) entry_name p)) h.named.path
      ∙ ap joined (map_append (spell (text_of files reads) entry_name) t.above (Token t.token ∷ []))
      ∙ joined_last (name_of (text_of files reads) entry_name t.above) (text_of files reads t.token)
      ∙ ap (λ z. lead (name_of (text_of files reads) entry_name t.above) ++ text_of files reads z) (sym h.token)

  -- its name is a front, and its word behind that
  pub front_of : (word : List ℕ) → word ≡ text_of files reads (at a.file a.token) → (front : List ℕ) × (a.name.now ≡ front ++ word)
  front_of word is =
      let front = lead (name_of (text_of files reads) entry_name t.above) in
      (front, named_as ∙ ap (λ w. front ++ w) (sym is))

  pub enum_found : a.kind ≡ Value → (n : ℕ) → option_map (λ (b : BlockOf). name_token b.header) (find (λ (b : BlockOf). holds_value a.token b.header b.within) (holders_in tree)) ≡ Some n
      → (front : List ℕ) → a.name.now ≡ front ++ text_of files reads (at a.file a.token) → (name : List ℕ) → name ≡ front ++ text_of files reads (at a.file n) → Some name ≡ option_map joined t.enum
  enum_found kind n found front front_is name beside = go (find (λ (b : BlockOf). holds_value a.token b.header b.within) (holders_in tree)) refl found t.enum h.named.enum_is
    where
      go : (o : Option BlockOf) → find (λ (b : BlockOf). holds_value a.token b.header b.within) (holders_in tree) ≡ o → option_map (λ (b : BlockOf). name_token b.header) o ≡ Some n
          → (p : Option (List (List ℕ))) → HasEnum files reads t.aim t.token p → Some name ≡ option_map joined p
      go None f e p q = absurd (none-some n e)
      go (Some c) f e None q = absurd (q (sym h.kind ∙ kind))
      go (Some c) f e (Some enum) q =
          let is = enum_is c f enum (subst (λ z. IsEnumOf files reads z enum) (sym h.token) q.1) in
          ap (λ l. Some l)
          (beside
          ∙ ap (λ l. l ++ text_of files reads (at a.file n)) (append_cancel_right front (lead (name_of (text_of files reads) entry_name t.above)) (text_of files reads (at a.file a.token)) (sym front_is ∙ named_as))
          ∙ ap (λ m. lead (name_of (text_of files reads) entry_name t.above) ++ text_of files reads (at a.file m)) (sym (same_Some (name_token c.header) n e))
          ∙ sym (joined_last (name_of (text_of files reads) entry_name t.above) (text_of files reads (at a.file (name_token c.header))))
          ∙ sym (ap joined is))

  pub no_enum : option_map (λ (b : BlockOf). name_token b.header) (find (λ (b : BlockOf). holds_value a.token b.header b.within) (holders_in tree)) ≡ None → None ≡ option_map joined t.enum
  no_enum none = go (find (λ (b : BlockOf). holds_value a.token b.header b.within) (holders_in tree)) refl none t.enum h.named.enum_is
    where
      go : (o : Option BlockOf) → find (λ (b : BlockOf). holds_value a.token b.header b.within) (holders_in tree) ≡ o → option_map (λ (b : BlockOf). name_token b.header) o ≡ None
          → (p : Option (List (List ℕ))) → HasEnum files reads t.aim t.token p → None ≡ option_map joined p
      go (Some c) f e p q = absurd (none-some (name_token c.header) (sym e))
      go None f e None q = refl
      go None f e (Some enum) q =
          let y = subst (λ z. IsEnumOf files reads z enum) (sym h.token) q.1 in
          let fb = find_there (λ (x : BlockOf). is_enum_at (place_of y.d).token x.header) (blocks_in (read_at reads a.file).tree) y.b y.found in
          let k = enum_holder (place_of y.d).token a.token y.b.header y.b.within fb.1 (value_there (values_in y.b.within) a.token y.within) in
          absurd (find_none (λ (b : BlockOf). holds_value a.token b.header b.within) (holders_in tree) y.b (contains_filter (λ b. may_hold b.header) (blocks_in tree) y.b (subst (λ z. Contains (blocks_in z) y.b) tree_is fb.0) k.1) k.0 f)
