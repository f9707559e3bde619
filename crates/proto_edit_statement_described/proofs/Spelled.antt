-- Declarations and references by other tokens with the same texts, and where they stand.
use Rattle.std.proofs.Common.{◌≡◌, ℕ, List, [], ◌∷◌, ◌++◌, map, refl, sym, ◌∙◌, ap, ap₂}
use Rattle.proto_case.specs.Camel.{entry_name}
use Rattle.proto_tree.specs.Moved.{Move}
use Rattle.proto_names_rules.proofs.Common.{place_from, place_of, At, at, declared_of, used_in, Reference, Declared, EntryOf, Given, Source, Token, Used, name_of, reference_of, shifted_declared, shifted_source, shifted_used, spell, Placed, map_agree, map_append, map_map}
use Rattle.proto_edit_statement_laws.specs.Trees.{move_placed}
use Rattle.proto_edit_statement_laws.proofs.Spelled.{name_by}

-- tokens with one text
name_agrees : {X : Type 0} (v w : X → List ℕ) → ((i : X) → v i ≡ w i) → (path : List (Source X)) → name_of v entry_name path ≡ name_of w entry_name path
name_agrees {X} v w e path = map_agree (spell v entry_name) (spell w entry_name) path (λ s c. each s)
  where
    each : (s : Source X) → spell v entry_name s ≡ spell w entry_name s
    each (Token i) = e i
    each (EntryOf i) = ap entry_name (e i)
    each (Given word) = refl

-- a declaration of a file
abbrev pub declared_at : ℕ → Placed → Declared At
declared_at file p = shifted_declared (at file) (declared_of file p)

module _ (file : ℕ) (m : Move) (text : At → List ℕ) (words : ℕ → List ℕ) (same : (i : ℕ) → text (at file (m i)) ≡ words i) where
  path_by : (path : List (Source ℕ)) → name_of text entry_name (map (shifted_source (at file)) (map (shifted_source m) path)) ≡ name_of words entry_name path
  path_by path = name_by text (at file) (map (shifted_source m) path) ∙ name_by (λ i. text (at file i)) m path ∙ name_agrees (λ i. text (at file (m i))) words same path

  pub named_by : (p : Placed) → name_of text entry_name (declared_at file (move_placed m p)).path ≡ name_of words entry_name (p.above ++ p.last ∷ [])
  named_by p = ap (λ (q : List (Source ℕ)). name_of text entry_name (map (shifted_source (at file)) q)) (sym (map_append (shifted_source m) p.above (p.last ∷ []))) ∙ path_by (p.above ++ p.last ∷ [])

  pub referred_by : (u : Used ℕ) → reference_of text entry_name (used_in file (shifted_used m u)) ≡ (let r : Reference = record { file = file; scope = name_of words entry_name u.scope; is_absolute = u.is_absolute; wants = u.wants; words = map words u.tokens } in r)
  referred_by u =
      ap₂ (λ (s ws : List (List ℕ)). let r : Reference = record { file = file; scope = s; is_absolute = u.is_absolute; wants = u.wants; words = ws } in r)
      (path_by u.scope)
      (map_map (at file) text (map m u.tokens) ∙ map_map m (λ i. text (at file i)) u.tokens ∙ map_agree (λ i. text (at file (m i))) words u.tokens (λ i c. same i))

-- where a declaration stands
place_shifted : {X Y : Type 0} (h : X → Y) (x : X) (path : List (Source X)) → place_from (h x) (map (shifted_source h) path) ≡ h (place_from x path)
place_shifted h x [] = refl
place_shifted h x (Token t ∷ rest) = place_shifted h t rest
place_shifted h x (EntryOf t ∷ rest) = place_shifted h t rest
place_shifted h x (Given w ∷ rest) = place_shifted h x rest

-- the token of a declaration; 0 where it has none
abbrev pub token_from : Placed → ℕ
token_from p = place_from 0 (p.above ++ p.last ∷ [])

pub placed_at : (file : ℕ) (p : Placed) → place_of (declared_at file p) ≡ at file (token_from p)
placed_at file p = place_shifted (at file) 0 (p.above ++ p.last ∷ [])

pub placed_moved : (file : ℕ) (m : Move) → m 0 ≡ 0 → (p : Placed) → place_of (declared_at file (move_placed m p)) ≡ at file (m (token_from p))
placed_moved file m first p =
    placed_at file (move_placed m p)
    ∙ ap (at file) (ap (place_from 0) (sym (map_append (shifted_source m) p.above (p.last ∷ []))) ∙ ap (λ (n : ℕ). place_from n (map (shifted_source m) (p.above ++ p.last ∷ []))) (sym first) ∙ place_shifted m 0 (p.above ++ p.last ∷ []))

-- a reference of a file whose texts stay
pub other_reference : (file : ℕ) (text now : At → List ℕ) → ((i : ℕ) → now (at file i) ≡ text (at file i)) → (u : Used ℕ) → reference_of now entry_name (used_in file u) ≡ reference_of text entry_name (used_in file u)
other_reference file text now e u =
    ap₂ (λ (s ws : List (List ℕ)). let r : Reference = record { file = file; scope = s; is_absolute = u.is_absolute; wants = u.wants; words = ws } in r)
    (name_by now (at file) u.scope ∙ name_agrees (λ i. now (at file i)) (λ i. text (at file i)) e u.scope ∙ sym (name_by text (at file) u.scope))
    (map_map (at file) now u.tokens ∙ map_agree (λ i. now (at file i)) (λ i. text (at file i)) u.tokens (λ i c. e i) ∙ sym (map_map (at file) text u.tokens))
