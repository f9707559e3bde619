-- A token names one field, or an option of one field (for the crates above).
use Rattle.std.proofs.Common.{◌≡◌, ℕ, suc, ◌+◌, List, [], ◌∷◌, ◌++◌, length, map, flat_map, Option, Some, None, refl, sym, subst, ◌∙◌, arith, inl, inr, Contains}
use Rattle.proto_base.proofs.Common.{Contains-append_cases, Contains-append_left, Contains-append_right, contains_cases, contains_head, contains_later, from_flat_map}
use Rattle.proto_tree.specs.declared.class.Class.TheVariants as class
use Rattle.proto_tree.specs.declared.class.Expected.TheVariants as want
use Rattle.proto_tree.specs.declared.piece.Header.TheVariants as header
use Rattle.proto_tree.specs.declared.piece.Statement.{Statement}
use Rattle.proto_tree.specs.declared.piece.Statement.TheVariants as statement
use Rattle.proto_tree.specs.declared.tree.Behind.{Behind}
use Rattle.proto_tree.specs.declared.tree.Field.{Field}
use Rattle.proto_tree.specs.declared.tree.MapField.{MapField}
use Rattle.proto_tree.specs.declared.tree.Setting.{Setting}
use Rattle.proto_tree.specs.declared.tree.Setting.TheVariants as setting
use Rattle.proto_tree.specs.Flat.{flat_plain}
use Rattle.proto_tree.specs.declared.tree.Settings.{Settings}
use Rattle.proto_tree.proofs.Common.{Mark, mark, name, one, only, flat_all, flat_behind, flat_constant, flat_field, flat_header, flat_map_field, flat_option, flat_separated, flat_setting, flat_settings, flat_statement, flat_type, Numbered, Tree, End, Leaf, Block, flat, numbered_append, numbered_at, trees_are_numbered_in}
use Rattle.proto_ast.specs.Parts.{BlockOf, FieldOf, OptionOf, blocks_in, fields_from, map_field, plain_field, separated, setting_options, settings_of, statement_fields, statements}
use Rattle.proto_desc_checks_laws.specs.OneField.{IsSameField, NamesAreOfOneField, OptionsAreOfOneField}

-- the statements of a tree, with those in its blocks
abbrev all_in : Tree → List Statement
all_in End = []
all_in (Leaf s rest) = s ∷ all_in rest
all_in (Block h i within j rest) = all_in within ++ all_in rest

-- ---- two places are two tokens

apart : (n : ℕ) (xs ys : List Mark) → Numbered n (xs ++ ys) → (m k : Mark) → Contains xs m → Contains ys k → m.at ≡ k.at → ⊥
apart n xs ys h m k cm ck e =
    let p = numbered_append n xs ys h in
    let i = numbered_at n xs m p.0 cm in
    let j = numbered_at (n + length xs) ys k p.1 ck in
    absurd (omega (arith, i, j, e, cm.1))

marks_in : (t : Tree) (s : Statement) → Contains (all_in t) s → (m : Mark) → Contains (flat_statement s) m → Contains (flat t) m
marks_in End s c m cm = absurd (omega (arith, c.1))
marks_in (Leaf x rest) s c m cm = elim (contains_cases x s (all_in rest) c) [
  | inl q ↦ Contains-append_left (flat_statement x) (flat rest) m (subst (λ z. Contains (flat_statement z) m) (sym q) cm)
  | inr d ↦ Contains-append_right (flat_statement x) (flat rest) m (marks_in rest s d m cm)
]
marks_in (Block h i within j rest) s c m cm = elim (Contains-append_cases (all_in within) (all_in rest) s c) [
  | inl d ↦
      Contains-append_right (flat_header h ++ one class.Open i) (flat within ++ (one class.Close j ++ flat rest)) m
      (Contains-append_left (flat within) (one class.Close j ++ flat rest) m (marks_in within s d m cm))
  | inr d ↦
      Contains-append_right (flat_header h ++ one class.Open i) (flat within ++ (one class.Close j ++ flat rest)) m
      (Contains-append_right (flat within) (one class.Close j ++ flat rest) m (Contains-append_right (one class.Close j) (flat rest) m (marks_in rest s d m cm)))
]

one_statement : (n : ℕ) (t : Tree) → Numbered n (flat t) → (s u : Statement) → Contains (all_in t) s → Contains (all_in t) u → (m k : Mark) → Contains (flat_statement s) m → Contains (flat_statement u) k → m.at ≡ k.at → s ≡ u
one_statement n End h s u cs cu m k cm ck e = absurd (omega (arith, cs.1))
one_statement n (Leaf x rest) h s u cs cu m k cm ck e = elim (contains_cases x s (all_in rest) cs) [
  | inl q ↦ elim (contains_cases x u (all_in rest) cu) [
    | inl r ↦ sym q ∙ r
    | inr d ↦ absurd (apart n (flat_statement x) (flat rest) h m k (subst (λ z. Contains (flat_statement z) m) (sym q) cm) (marks_in rest u d k ck) e)
  ]
  | inr f ↦ elim (contains_cases x u (all_in rest) cu) [
    | inl r ↦ absurd (apart n (flat_statement x) (flat rest) h k m (subst (λ z. Contains (flat_statement z) k) (sym r) ck) (marks_in rest s f m cm) (sym e))
    | inr d ↦ one_statement (n + length (flat_statement x)) rest (numbered_append n (flat_statement x) (flat rest) h).1 s u f d m k cm ck e
  ]
]
one_statement n (Block hd i within j rest) h s u cs cu m k cm ck e =
    let front = flat_header hd ++ one class.Open i in
    let inner = numbered_append n front (flat within ++ (one class.Close j ++ flat rest)) h in
    let parts = numbered_append (n + length front) (flat within) (one class.Close j ++ flat rest) inner.1 in
    let behind = numbered_append (n + length front + length (flat within)) (one class.Close j) (flat rest) parts.1 in
    elim (Contains-append_cases (all_in within) (all_in rest) s cs) [
      | inl f ↦ elim (Contains-append_cases (all_in within) (all_in rest) u cu) [
        | inl d ↦ one_statement (n + length front) within parts.0 s u f d m k cm ck e
        | inr d ↦ absurd (apart (n + length front) (flat within) (one class.Close j ++ flat rest) inner.1 m k (marks_in within s f m cm) (Contains-append_right (one class.Close j) (flat rest) k (marks_in rest u d k ck)) e)
      ]
      | inr f ↦ elim (Contains-append_cases (all_in within) (all_in rest) u cu) [
        | inl d ↦ absurd (apart (n + length front) (flat within) (one class.Close j ++ flat rest) inner.1 k m (marks_in within u d k ck) (Contains-append_right (one class.Close j) (flat rest) m (marks_in rest s f m cm)) (sym e))
        | inr d ↦ one_statement (n + length front + length (flat within) + length (one class.Close j)) rest behind.1 s u f d m k cm ck e
      ]
    ]

-- ---- the statement of a field

statements_in : (t : Tree) (s : Statement) → Contains (statements t) s → Contains (all_in t) s
statements_in End s c = absurd (omega (arith, c.1))
statements_in (Leaf x rest) s c = elim (contains_cases x s (statements rest) c) [
  | inl q ↦ subst (λ z. Contains (x ∷ all_in rest) z) q (contains_head x (all_in rest))
  | inr d ↦ contains_later x s (all_in rest) (statements_in rest s d)
]
statements_in (Block h i within j rest) s c = Contains-append_right (all_in within) (all_in rest) s (statements_in rest s c)

blocks_within : (t : Tree) (b : BlockOf) → Contains (blocks_in t) b → (s : Statement) → Contains (all_in b.within) s → Contains (all_in t) s
blocks_within End b c s cs = absurd (omega (arith, c.1))
blocks_within (Leaf x rest) b c s cs = contains_later x s (all_in rest) (blocks_within rest b c s cs)
blocks_within (Block h i within j rest) b c s cs = elim (contains_cases (let x : BlockOf = record { header = h; within = within } in x) b (blocks_in within ++ blocks_in rest) c) [
  | inl q ↦ Contains-append_left (all_in within) (all_in rest) s (subst (λ (z : BlockOf). Contains (all_in z.within) s) (sym q) cs)
  | inr d ↦ elim (Contains-append_cases (blocks_in within) (blocks_in rest) b d) [
    | inl f ↦ Contains-append_left (all_in within) (all_in rest) s (blocks_within within b f s cs)
    | inr f ↦ Contains-append_right (all_in within) (all_in rest) s (blocks_within rest b f s cs)
  ]
]

record IsFieldOf (t : Tree) (f : FieldOf) : Type 0 where
  s : Statement
  there : Contains (all_in t) s
  oneof : Option ℕ
  field : Contains (statement_fields oneof s) f

behind_block : (within rest : Tree) (f : FieldOf) → IsFieldOf rest f → (s : Statement) × Contains (all_in within ++ all_in rest) s × ((o : Option ℕ) × Contains (statement_fields o s) f)
behind_block within rest f r = (r.s, Contains-append_right (all_in within) (all_in rest) r.s r.there, (r.oneof, r.field))

field_statement : (n : ℕ) (t : Tree) (f : FieldOf) → Contains (fields_from n t) f → IsFieldOf t f
field_statement n End f c = absurd (omega (arith, c.1))
field_statement n (Leaf x rest) f c = elim (Contains-append_cases (statement_fields None x) (fields_from n rest) f c) [
  | inl d ↦ record { s = x; there = contains_head x (all_in rest); oneof = None; field = d }
  | inr d ↦ let r = field_statement n rest f d in record { s = r.s; there = contains_later x r.s (all_in rest) r.there; oneof = r.oneof; field = r.field }
]
field_statement n (Block (header.Oneof h) i within j rest) f c = elim (Contains-append_cases (flat_map (statement_fields (Some n)) (statements within)) (fields_from (suc n) rest) f c) [
  | inl d ↦
      let r = from_flat_map (statement_fields (Some n)) (statements within) f d in
      record { s = r.0; there = Contains-append_left (all_in within) (all_in rest) r.0 (statements_in within r.0 r.1); oneof = Some n; field = r.2 }
  | inr d ↦ let r = behind_block within rest f (field_statement (suc n) rest f d) in record { s = r.0; there = r.1; oneof = r.2.0; field = r.2.1 }
]
field_statement n (Block whole i within j rest) f c = let r = behind_block within rest f (field_statement n rest f c) in record { s = r.0; there = r.1; oneof = r.2.0; field = r.2.1 }

-- ---- its name and options

setting_mark : (y : Setting) (x : OptionOf) → Contains (setting_options y) x → Contains (flat_setting y) (mark want.OptionName x.name)
setting_mark (setting.Plain p) x c =
    let o : OptionOf = record { name = p.name; value = p.value } in
    elim (contains_cases o x [] c) [
      | inl e ↦ subst (λ (z : OptionOf). Contains (flat_plain p) (mark want.OptionName z.name)) e (contains_head (mark want.OptionName p.name) (one class.Equals p.equals ++ flat_constant p.value))
      | inr d ↦ absurd (omega (arith, d.1))
    ]
setting_mark (setting.Custom q) x c = absurd (omega (arith, c.1))

behind_mark : (bs : List (Behind Setting)) (y : Setting) (m : Mark) → Contains (map (λ b. b.item) bs) y → Contains (flat_setting y) m → Contains (flat_all (flat_behind class.Comma flat_setting) bs) m
behind_mark [] y m c h = absurd (omega (arith, c.1))
behind_mark (b ∷ bs) y m c h = elim (contains_cases b.item y (map (λ b. b.item) bs) c) [
  | inl e ↦
      Contains-append_left (flat_behind class.Comma flat_setting b) (flat_all (flat_behind class.Comma flat_setting) bs) m
      (Contains-append_right (one class.Comma b.separator) (flat_setting b.item) m (subst (λ (z : Setting). Contains (flat_setting z) m) (sym e) h))
  | inr d ↦ Contains-append_right (flat_behind class.Comma flat_setting b) (flat_all (flat_behind class.Comma flat_setting) bs) m (behind_mark bs y m d h)
]

settings_mark : (o : Option Settings) (x : OptionOf) → Contains (settings_of o) x → Contains (flat_option flat_settings o) (mark want.OptionName x.name)
settings_mark None x c = absurd (omega (arith, c.1))
settings_mark (Some s) x c =
    let y = from_flat_map setting_options (separated s.list) x c in
    let m : Mark = mark want.OptionName x.name in
    let here : Contains (flat_setting y.0) (mark want.OptionName x.name) = setting_mark y.0 x y.2 in
    let items : Contains (flat_separated class.Comma flat_setting s.list) (mark want.OptionName x.name) = elim (contains_cases s.list.first y.0 (map (λ b. b.item) s.list.rest) y.1) [
      | inl e ↦ Contains-append_left (flat_setting s.list.first) (flat_all (flat_behind class.Comma flat_setting) s.list.rest) m (subst (λ (z : Setting). Contains (flat_setting z) m) (sym e) here)
      | inr d ↦ Contains-append_right (flat_setting s.list.first) (flat_all (flat_behind class.Comma flat_setting) s.list.rest) m (behind_mark s.list.rest y.0 m d here)
    ] in
    Contains-append_right (one class.LeftBracket s.open) (flat_separated class.Comma flat_setting s.list ++ one class.RightBracket s.close) m
    (Contains-append_left (flat_separated class.Comma flat_setting s.list) (one class.RightBracket s.close) m items)

abbrev field_settings : Field → List Mark
field_settings f = flat_option flat_settings f.settings ++ one class.Semicolon f.semicolon

abbrev field_ends : Field → List Mark
field_ends f = one class.Equals f.equals ++ (one class.Number f.number ++ field_settings f)

-- from its name on
in_field : (f : Field) (m : Mark) → Contains (name f.name ++ field_ends f) m → Contains (flat_field f) m
in_field f m c =
    Contains-append_right (flat_option (only want.Label) f.label) (flat_type f.kind ++ (name f.name ++ field_ends f)) m (Contains-append_right (flat_type f.kind) (name f.name ++ field_ends f) m c)

abbrev map_settings : MapField → List Mark
map_settings f = flat_option flat_settings f.settings ++ one class.Semicolon f.semicolon

abbrev map_ends : MapField → List Mark
map_ends f = one class.Equals f.equals ++ (one class.Number f.number ++ map_settings f)

abbrev map_front : MapField → List Mark
map_front f = mark (want.One class.Map) f.keyword ∷ mark (want.One class.Less) f.open ∷ mark (want.One class.Scalar) f.key ∷ mark (want.One class.Comma) f.comma ∷ []

in_map : (f : MapField) (m : Mark) → Contains (name f.name ++ map_ends f) m → Contains (flat_map_field f) m
in_map f m c =
    Contains-append_right (map_front f) (flat_type f.value ++ (one class.Greater f.close ++ (name f.name ++ map_ends f))) m
    (Contains-append_right (flat_type f.value) (one class.Greater f.close ++ (name f.name ++ map_ends f)) m (Contains-append_right (one class.Greater f.close) (name f.name ++ map_ends f) m c))

-- behind its number
behind_number : (t e n : ℕ) (settings ends : List Mark) (m : Mark) → Contains settings m → Contains (name t ++ (one class.Equals e ++ (one class.Number n ++ (settings ++ ends)))) m
behind_number t e n settings ends m c =
    Contains-append_right (name t) (one class.Equals e ++ (one class.Number n ++ (settings ++ ends))) m
    (Contains-append_right (one class.Equals e) (one class.Number n ++ (settings ++ ends)) m (Contains-append_right (one class.Number n) (settings ++ ends) m (Contains-append_left settings ends m c)))

name_mark : (o : Option ℕ) (s : Statement) (f : FieldOf) → Contains (statement_fields o s) f → Contains (flat_statement s) (mark want.Name f.name)
name_mark o (statement.Field x) f c = elim (contains_cases (plain_field o x) f [] c) [
  | inl q ↦ subst (λ (z : FieldOf). Contains (flat_field x) (mark want.Name z.name)) q (in_field x (mark want.Name x.name) (contains_head (mark want.Name x.name) (field_ends x)))
  | inr d ↦ absurd (omega (arith, d.1))
]
name_mark o (statement.MapField x) f c = elim (contains_cases (map_field x) f [] c) [
  | inl q ↦ subst (λ (z : FieldOf). Contains (flat_map_field x) (mark want.Name z.name)) q (in_map x (mark want.Name x.name) (contains_head (mark want.Name x.name) (map_ends x)))
  | inr d ↦ absurd (omega (arith, d.1))
]
name_mark o _ f c = absurd (omega (arith, c.1))

option_mark : (o : Option ℕ) (s : Statement) (f : FieldOf) → Contains (statement_fields o s) f → (y : OptionOf) → Contains f.options y → Contains (flat_statement s) (mark want.OptionName y.name)
option_mark o (statement.Field x) f c y cy = elim (contains_cases (plain_field o x) f [] c) [
  | inl q ↦
      let here : Contains (settings_of x.settings) y = subst (λ (z : FieldOf). Contains z.options y) (sym q) cy in
      in_field x (mark want.OptionName y.name) (behind_number x.name x.equals x.number (flat_option flat_settings x.settings) (one class.Semicolon x.semicolon) (mark want.OptionName y.name) (settings_mark x.settings y here))
  | inr d ↦ absurd (omega (arith, d.1))
]
option_mark o (statement.MapField x) f c y cy = elim (contains_cases (map_field x) f [] c) [
  | inl q ↦
      let here : Contains (settings_of x.settings) y = subst (λ (z : FieldOf). Contains z.options y) (sym q) cy in
      in_map x (mark want.OptionName y.name) (behind_number x.name x.equals x.number (flat_option flat_settings x.settings) (one class.Semicolon x.semicolon) (mark want.OptionName y.name) (settings_mark x.settings y here))
  | inr d ↦ absurd (omega (arith, d.1))
]
option_mark o _ f c y cy = absurd (omega (arith, c.1))

same_field : (o p : Option ℕ) (s : Statement) (f g : FieldOf) → Contains (statement_fields o s) f → Contains (statement_fields p s) g → IsSameField f g
same_field o p (statement.Field x) f g c d = elim (contains_cases (plain_field o x) f [] c) [
  | inl q ↦ elim (contains_cases (plain_field p x) g [] d) [
    | inl r ↦ subst (λ (z : FieldOf). IsSameField z g) q (subst (λ (z : FieldOf). IsSameField (plain_field o x) z) r (record { name = refl; kind = refl; number = refl; options = refl }))
    | inr n ↦ absurd (omega (arith, n.1))
  ]
  | inr n ↦ absurd (omega (arith, n.1))
]
same_field o p (statement.MapField x) f g c d = elim (contains_cases (map_field x) f [] c) [
  | inl q ↦ elim (contains_cases (map_field x) g [] d) [
    | inl r ↦ subst (λ (z : FieldOf). IsSameField z g) q (subst (λ (z : FieldOf). IsSameField (map_field x) z) r (record { name = refl; kind = refl; number = refl; options = refl }))
    | inr n ↦ absurd (omega (arith, n.1))
  ]
  | inr n ↦ absurd (omega (arith, n.1))
]
same_field o p _ f g c d = absurd (omega (arith, c.1))

pub names_are_of_one_field : NamesAreOfOneField
names_are_of_one_field profile t ls spells b d f g cb cd cf cg e =
    let r = field_statement 0 b.within f cf in
    let u = field_statement 0 d.within g cg in
    let same =
    one_statement 0 t (trees_are_numbered_in profile t ls spells) r.s u.s (blocks_within t b cb r.s r.there) (blocks_within t d cd u.s u.there) (mark want.Name f.name) (mark want.Name g.name) (name_mark r.oneof r.s f r.field) (name_mark u.oneof u.s g u.field) e in
    same_field r.oneof u.oneof r.s f g r.field (subst (λ z. Contains (statement_fields u.oneof z) g) (sym same) u.field)

pub options_are_of_one_field : OptionsAreOfOneField
options_are_of_one_field profile t ls spells b d f g x y cb cd cf cg cx cy e =
    let r = field_statement 0 b.within f cf in
    let u = field_statement 0 d.within g cg in
    let same =
    one_statement 0 t (trees_are_numbered_in profile t ls spells) r.s u.s (blocks_within t b cb r.s r.there) (blocks_within t d cd u.s u.there) (mark want.OptionName x.name) (mark want.OptionName y.name)
    (option_mark r.oneof r.s f r.field x cx) (option_mark u.oneof u.s g u.field y cy) e in
    same_field r.oneof u.oneof r.s f g r.field (subst (λ z. Contains (statement_fields u.oneof z) g) (sym same) u.field)
