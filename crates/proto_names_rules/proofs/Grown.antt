-- A tree's names nest, and its declarations are woven: the premises above hold of what trees give (for the crates above).
use Rattle.std.proofs.Common.{◌≡◌, ℕ, List, [], ◌∷◌, ◌++◌, length, Some, refl, sym, ◌∙◌, ap, inl, inr, arith, map, Contains}
use Rattle.proto_names_rules.specs.Common.{holds, IsNested, Source, Token, EntryOf, Declared, spell, name_of, symbol_of, IsWoven, Members, all_placed, AllSpan, token_of, declared_of, skeleton_of}
use Rattle.proto_base.proofs.Lists.{contains_map, from_map}
use Rattle.proto_names_rules.proofs.Ren.{last_parts}
use Rattle.proto_names_rules.proofs.Edited.{map_append}
use Rattle.proto_names_rules.proofs.Tree.{all_stand, all_one_place}

pub snoc_parts : {X : Type 0} (a b : List X) (x y : X) → a ++ x ∷ [] ≡ b ++ y ∷ [] → (a ≡ b) × (x ≡ y)
snoc_parts [] [] x y h = (refl, cc)
snoc_parts [] (c ∷ []) x y h = absurd (none_here h)
  where
    none_here : x ∷ [] ≡ c ∷ y ∷ [] → ⊥
    none_here h = cc
snoc_parts [] (c ∷ d ∷ b) x y h = absurd (none_here h)
  where
    none_here : x ∷ [] ≡ c ∷ d ∷ (b ++ y ∷ []) → ⊥
    none_here h = cc
snoc_parts (c ∷ []) [] x y h = absurd (none_here h)
  where
    none_here : c ∷ x ∷ [] ≡ y ∷ [] → ⊥
    none_here h = cc
snoc_parts (c ∷ d ∷ a) [] x y h = absurd (none_here h)
  where
    none_here : c ∷ d ∷ (a ++ x ∷ []) ≡ y ∷ [] → ⊥
    none_here h = cc
snoc_parts (c ∷ a) (d ∷ b) x y h =
    let t : a ++ x ∷ [] ≡ b ++ y ∷ [] = cc in
    let e : c ≡ d = cc in
    let r = snoc_parts a b x y t in
    (ap (λ l. c ∷ l) r.0 ∙ ap (λ z. z ∷ b) e, r.1)

pub tree_nested : (text : ℕ → List ℕ) (entry : List ℕ → List ℕ) (file : ℕ) (ms : Members) → IsNested (map (symbol_of text entry) (skeleton_of file ms).declared)
tree_nested text entry file ms t ct a w h la =
    let d = from_map (symbol_of text entry) (map (declared_of file) (all_placed [] ms)) t ct in
    let p = from_map (declared_of file) (all_placed [] ms) d.0 d.1 in
    let q = p.0 in
    let name : name_of text entry q.above ++ spell text entry q.last ∷ [] ≡ a ++ w ∷ [] =
    sym (map_append (spell text entry) q.above (q.last ∷ [])) ∙ ap (λ z. name_of text entry z.path) p.2 ∙ ap (λ z. z.name) d.2 ∙ h in
    let parts = last_parts (name_of text entry q.above) a (spell text entry q.last) w name in
    elim (all_stand ms [] q p.1) [
      | inl none ↦ absurd (omega (arith, la, ap length (sym parts.0 ∙ ap (name_of text entry) none)))
      | inr u ↦ (
        symbol_of text entry (declared_of file u.0),
        contains_map (symbol_of text entry) (map (declared_of file) (all_placed [] ms)) (declared_of file u.0) (contains_map (declared_of file) (all_placed [] ms) u.0 u.1),
        ap (name_of text entry) (sym u.2) ∙ parts.0,
        ap (λ z. z.file) p.2 ∙ ap (λ z. z.file) d.2,
        ap (holds u.0.kind) (sym (ap (λ z. z.kind) p.2 ∙ ap (λ z. z.kind) d.2)) ∙ u.3,
      )
    ]

pub tree_woven : (file low high : ℕ) (ms : Members) → AllSpan low high ms → IsWoven (skeleton_of file ms)
tree_woven file low high ms span = record {
  fronts = λ s cs a x path ne. (
      let p = from_map (declared_of file) (all_placed [] ms) s cs in
      let parts = snoc_parts p.0.above a p.0.last x (ap (λ z. z.path) p.2 ∙ path) in
      elim (all_stand ms [] p.0 p.1) [
        | inl none ↦ absurd (ne (sym parts.0 ∙ none))
        | inr u ↦ (declared_of file u.0, contains_map (declared_of file) (all_placed [] ms) u.0 u.1, sym u.2 ∙ parts.0)
      ]);
  tokens = λ s t cs ct a b d ps pt. one_path s t cs ct a b d (Token d) (Token d) ps pt refl refl;
  entries = λ s t cs ct a b d ps pt. one_path s t cs ct a b d (EntryOf d) (Token d) ps pt refl refl;
  scopes = λ u cu. absurd (omega (arith, cu.1));
}
  where
    one_path : (s t : Declared ℕ) → Contains (map (declared_of file) (all_placed [] ms)) s → Contains (map (declared_of file) (all_placed [] ms)) t → (a b : List (Source ℕ)) (d : ℕ) (x y : Source ℕ) → s.path ≡ a ++ x ∷ [] → t.path ≡ b ++ y ∷ [] → token_of x ≡ Some d → token_of y ≡ Some d → a ≡ b
    one_path s t cs ct a b d x y ps pt hx hy =
        let p = from_map (declared_of file) (all_placed [] ms) s cs in
        let q = from_map (declared_of file) (all_placed [] ms) t ct in
        let pp = snoc_parts p.0.above a p.0.last x (ap (λ z. z.path) p.2 ∙ ps) in
        let qq = snoc_parts q.0.above b q.0.last y (ap (λ z. z.path) q.2 ∙ pt) in
        sym pp.0 ∙ all_one_place ms [] low high d span p.0 q.0 p.1 q.1 (ap token_of pp.1 ∙ hx) (ap token_of qq.1 ∙ hy) ∙ qq.0
