-- Services stand right in a file alone, so their methods are those of the whole file.
use Rattle.std.proofs.Common.{◌≡◌, ℕ, true, List, [], ◌∷◌, ◌++◌, flat_map, refl, sym, ap, ◌∙◌, append_assoc}
use Rattle.std.proofs.lemmas.Grind.{flat_map-append}
use Rattle.proto_tree.specs.declared.context.Context.{Context}
use Rattle.proto_tree.specs.declared.context.Context.TheVariants as context
use Rattle.proto_tree.specs.declared.context.Kind.TheVariants as kind
use Rattle.proto_tree.specs.declared.piece.Header.{Header}
use Rattle.proto_tree.specs.declared.piece.Header.TheVariants as header
use Rattle.proto_tree.proofs.Common.{Tree, End, Leaf, Block, IsWellFormed, after, allows, header_kind, inside, joined_trees, statement_kind, trees, after_inner, inside_inner}
use Rattle.proto_lint_names.specs.Readings.{LintFile}
use Rattle.proto_lint_names.specs.RulesCommon.{Scoped, scoped_blocks, scope_within, block_messages, file_messages, outer_messages}

no_service : (c : Context) → allows c kind.Close ≡ true → allows c kind.OpenService ≡ true → ⊥
no_service context.Start e a = cc
no_service _ e a = cc

module _ (r : LintFile) where
  abbrev one : Scoped → List (List ℕ)
  one b = block_messages r b.header b.within

  none_here : (c : Context) (h : Header) (within : Tree) → allows c kind.Close ≡ true → allows c (header_kind h) ≡ true → block_messages r h within ≡ []
  none_here c (header.Service h) within e a = absurd (no_service c e a)
  none_here c _ within e a = refl

  no_messages : (c : Context) (scope : List ℕ) (t : Tree) → allows c kind.Close ≡ true → IsWellFormed c t → flat_map one (scoped_blocks r scope t) ≡ []
  no_messages c scope End e w = refl
  no_messages c scope (Leaf s rest) e w = no_messages (after c (statement_kind s)) scope rest (ap (λ d. allows d kind.Close) (after_inner c (statement_kind s) e) ∙ e) w.1
  no_messages c scope (Block h i within j rest) e w =
      let inner = scoped_blocks r (scope_within r scope h) within in
      ap (λ (ms : List (List ℕ)). ms ++ flat_map one (inner ++ scoped_blocks r scope rest)) (none_here c h within e w.0)
      ∙ flat_map-append one inner (scoped_blocks r scope rest)
      ∙ ap (λ (ms : List (List ℕ)). ms ++ flat_map one (scoped_blocks r scope rest)) (no_messages (inside h) (scope_within r scope h) within (inside_inner h) w.1)
      ∙ no_messages (after c (header_kind h)) scope rest (ap (λ d. allows d kind.Close) (after_inner c (header_kind h) e) ∙ e) w.2

  outer_alone : (c : Context) (scope : List ℕ) (t : Tree) → IsWellFormed c t → flat_map one (scoped_blocks r scope t) ≡ outer_messages r t
  outer_alone c scope End w = refl
  outer_alone c scope (Leaf s rest) w = outer_alone (after c (statement_kind s)) scope rest w.1
  outer_alone c scope (Block h i within j rest) w =
      let own = block_messages r h within in
      let inner = scoped_blocks r (scope_within r scope h) within in
      ap (λ (ms : List (List ℕ)). own ++ ms)
      (flat_map-append one inner (scoped_blocks r scope rest)
      ∙ ap (λ (ms : List (List ℕ)). ms ++ flat_map one (scoped_blocks r scope rest)) (no_messages (inside h) (scope_within r scope h) within (inside_inner h) w.1)
      ∙ outer_alone (after c (header_kind h)) scope rest w.2)

  pub outer_is_all : (c : Context) (t : Tree) → IsWellFormed c t → outer_messages r t ≡ file_messages r t
  outer_is_all c t w = sym (outer_alone c _ t w)

  -- ---- item by item

  outer_joined : (t u : Tree) → outer_messages r (joined_trees t u) ≡ outer_messages r t ++ outer_messages r u
  outer_joined End u = refl
  outer_joined (Leaf s rest) u = outer_joined rest u
  outer_joined (Block h i within j rest) u =
      ap (λ (ms : List (List ℕ)). block_messages r h within ++ ms) (outer_joined rest u) ∙ sym (append_assoc (block_messages r h within) (outer_messages r rest) (outer_messages r u))

  pub outer_of_items : {A : Type 0} (view : A → Tree) (x : A) (xs : List A) → outer_messages r (trees view (x ∷ xs)) ≡ outer_messages r (view x) ++ outer_messages r (trees view xs)
  outer_of_items view x xs = outer_joined (view x) (trees view xs)
