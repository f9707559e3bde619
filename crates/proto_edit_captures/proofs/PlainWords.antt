-- A reference stands in scopes that are declared, and so their words are plain.
use Rattle.std.proofs.Common.{◌≡◌, ◌≢◌, ℕ, zero, suc, List, [], ◌∷◌, ◌++◌, length, take, drop, refl, sym, ap, subst, ◌∙◌, arith, length-append, append_assoc, Contains, append-nil, take-append-drop, take_at}
use Rattle.proto_base.proofs.Common.{take-map, contains_map}
use Rattle.proto_names_rules.proofs.Common.{ArePlain, Reference, Symbol, Workspace, Source, Declared, Used, Skeleton, IsWoven, name_of, reference_of, spell, symbol_of, workspace_of}
use Rattle.proto_names_rules.proofs.Edited.{split_source}
use Rattle.proto_edit_rename_laws.specs.Captures.{HasScope}

module _ {X : Type 0} (text : X → List ℕ) (entry : List ℕ → List ℕ) (k : Skeleton X) (woven : IsWoven k) where
  front_there : (n : ℕ) (x y : List (Source X)) → length y ≡ n → x ≢ [] → (s : Declared X) × Contains k.declared s × (s.path ≡ x ++ y) → (u : Declared X) × Contains k.declared u × (u.path ≡ x)
  front_there zero x [] l some s = (s.0, s.1, s.2 ∙ append-nil x)
  front_there zero x (z ∷ y) l some s = absurd (omega (arith, l))
  front_there (suc n) x [] l some s = absurd (omega (arith, l))
  front_there (suc n) x (v ∷ y) l some s =
      let t = split_source (v ∷ y) not_nil in
      let path : s.0.path ≡ (x ++ t.0) ++ t.1 ∷ [] = s.2 ∙ ap (λ z. x ++ z) t.2 ∙ sym (append_assoc x t.0 (t.1 ∷ [])) in
      let u = woven.fronts s.0 s.1 (x ++ t.0) t.1 path (λ e. some (left_nil x t.0 e)) in
      let long = length-append t.0 (t.1 ∷ []) in
      let same = ap length t.2 in
      front_there n x t.0 (omega (arith, long, same, l)) some u
    where
      not_nil : v ∷ y ≡ [] → ⊥
      not_nil e = cc

      left_nil : (a b : List (Source X)) → a ++ b ≡ [] → a ≡ []
      left_nil [] b e = refl
      left_nil (c ∷ a) b e = absurd cc

  pub has_scope : (u : Used X) → Contains k.used u → HasScope (workspace_of text entry k) (reference_of text entry u)
  has_scope u cu a b parts some =
      let n = length a in
      let x = take n u.scope in
      let name_is : a ≡ name_of text entry x = sym (take_at a b n refl) ∙ ap (take n) parts ∙ take-map (spell text entry) n u.scope in
      let whole = take-append-drop n u.scope in
      let not_nil : x ≢ [] = λ e. some (name_is ∙ ap (name_of text entry) e) in
      let scope_some : u.scope ≢ [] = λ e. not_nil (ap (take n) e ∙ take_nil n) in
      let s = woven.scopes u cu scope_some in
      let d = front_there (length (drop n u.scope)) x (drop n u.scope) refl not_nil (s.0, s.1, s.2 ∙ sym whole) in
      (symbol_of text entry d.0, contains_map (symbol_of text entry) k.declared d.0 d.1, ap (name_of text entry) d.2 ∙ sym name_is)
    where
      take_nil : (n : ℕ) → ◌≡◌ {A = List (Source X)} (take n []) []
      take_nil zero = refl
      take_nil (suc n) = refl

-- the scope's words are plain, where those of symbols are
pub scope_plain : (w : Workspace) (r : Reference) → ((s : Symbol) → Contains w.symbols s → ArePlain s.name) → HasScope w r → ArePlain r.scope
scope_plain w r plain scoped = by r.scope refl
  where
    by : (x : List (List ℕ)) → r.scope ≡ x → ArePlain x
    by [] e = tt
    by (v ∷ x) e = let s = scoped (v ∷ x) [] (append-nil (v ∷ x) ∙ sym e) (λ z. cc) in subst ArePlain s.2 (plain s.0 s.1)
