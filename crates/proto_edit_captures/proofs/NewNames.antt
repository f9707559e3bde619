-- A collision is one of the new names.
use Rattle.std.proofs.Common.{◌≡◌, ℕ, ◌<◌, Bool, true, false, ◌&&◌, ◌||◌, List, [], ◌∷◌, ◌++◌, length, Option, refl, sym, ◌∙◌, ap, subst, inl, inr, arith, append_assoc, length-append, Contains, bytes_eq}
use Rattle.proto_base.proofs.Common.{cond-true, cond-false, false_from_ne_true, same_from_word, word_from_same}
use Rattle.proto_names_rules.proofs.Common.{Renaming, Collides, in_domain, is_below, moves, moves_by, ren, turn_below, turned, turned_by, EntryFits, IsLinked, IsRenaming, Symbol, Workspace, below_split, front_or_same, moves_to}
use Rattle.proto_edit_captures.specs.Collisions.{IsTakenName, IsNewNameTaken, CollisionsAreNewNames}

pub below_word : (ps : List (List ℕ)) (t : List ℕ → Bool) (v : List ℕ) (rest : List (List ℕ)) → is_below ps t (ps ++ v ∷ rest) ≡ t v
below_word [] t v rest = refl
below_word (p ∷ ps) t v rest = ap (λ (b : Bool). b && is_below ps t (ps ++ v ∷ rest)) (same_from_word p p refl) ∙ below_word ps t v rest

turn_word : (ps : List (List ℕ)) (f : List ℕ → List ℕ) (v : List ℕ) (rest : List (List ℕ)) → turn_below ps f (ps ++ v ∷ rest) ≡ ps ++ f v ∷ rest
turn_word [] f v rest = refl
turn_word (p ∷ ps) f v rest = ap (λ (l : List (List ℕ)). p ∷ l) (cond-true (bytes_eq p p) (turn_below ps f (ps ++ v ∷ rest)) (ps ++ v ∷ rest) (same_from_word p p refl) ∙ turn_word ps f v rest)

or_true : (b c : Bool) → c ≡ true → (b || c) ≡ true
or_true true c h = refl
or_true false c h = h

-- a symbol at or below a name beside the target has that name taken
taken : (e : Renaming) (w : Workspace) → IsLinked w → (t : Symbol) → Contains w.symbols t → in_domain e t.name ≡ false → (u : List ℕ) (rest : List (List ℕ)) → t.name ≡ e.parent ++ u ∷ rest → IsTakenName e w (e.parent ++ u ∷ [])
taken e w ok t ct out u rest named =
    let stays : in_domain e (e.parent ++ u ∷ []) ≡ false = below_word e.parent (moves e) u [] ∙ sym (below_word e.parent (moves e) u rest) ∙ ap (in_domain e) (sym named) ∙ out in
    let long : 0 < length (e.parent ++ u ∷ []) = omega (arith, length-append e.parent (u ∷ [])) in
    elim (front_or_same w.symbols ok.nested (e.parent ++ u ∷ []) rest t ct (named ∙ sym (append_assoc e.parent (u ∷ []) rest)) long) [
      | inl none ↦ record { symbol = t; within = ct; name_is = named ∙ ap (λ (l : List (List ℕ)). e.parent ++ u ∷ l) none; stays = stays }
      | inr f ↦ record { symbol = f.it; within = f.within; name_is = f.name; stays = stays }
    ]

new_name_taken : (e : Renaming) (w : Workspace) → IsLinked w → Collides e w → IsNewNameTaken e w
new_name_taken e w ok (s, t, cs, ct, s_in, t_out, h) =
    let b = below_split e.parent (moves e) s.name s_in in
    let named : t.name ≡ e.parent ++ turned e b.0 ∷ b.1 = sym h ∙ ap (ren e) b.2 ∙ turn_word e.parent (turned e) b.0 b.1 in
    elim (moves_to e b.0 b.3) [
      | inl a ↦ inl (taken e w ok t ct t_out e.new b.1 (named ∙ ap (λ (x : List ℕ). e.parent ++ x ∷ b.1) a.1))
      | inr a ↦ inr (a.0, a.1, taken e w ok t ct t_out a.0.1 b.1 (named ∙ ap (λ (x : List ℕ). e.parent ++ x ∷ b.1) a.3))
    ]

collision_from : (e : Renaming) (w : Workspace) → IsRenaming e w → IsNewNameTaken e w → Collides e w
collision_from e w is (inl k) =
    let s = is.target_is in
    let moving : moves e e.old ≡ true = ap (λ (b : Bool). b || moves_by e.entry e.old) (same_from_word e.old e.old refl) in
    let becomes : turned e e.old ≡ e.new = cond-true (bytes_eq e.old e.old) e.new (turned_by e.entry e.old) (same_from_word e.old e.old refl) in (
      s.0,
      k.symbol,
      s.1,
      k.within,
      ap (in_domain e) s.2 ∙ below_word e.parent (moves e) e.old [] ∙ moving,
      ap (in_domain e) k.name_is ∙ k.stays,
      ap (ren e) s.2 ∙ turn_word e.parent (turned e) e.old [] ∙ ap (λ (x : List ℕ). e.parent ++ x ∷ []) becomes ∙ sym k.name_is,
    )
collision_from e w is (inr (p, eo, k)) =
    let fits = subst (EntryFits w e) eo is.entry_is in
    let s = fits.2 in
    let moving : moves e p.0 ≡ true = or_true (bytes_eq p.0 e.old) (moves_by e.entry p.0) (ap (λ (o : Option (List ℕ × List ℕ)). moves_by o p.0) eo ∙ same_from_word p.0 p.0 refl) in
    let other : bytes_eq p.0 e.old ≡ false = false_from_ne_true (bytes_eq p.0 e.old) (λ q. fits.0 (word_from_same p.0 e.old q)) in
    let becomes : turned e p.0 ≡ p.1 = cond-false (bytes_eq p.0 e.old) e.new (turned_by e.entry p.0) other ∙ ap (λ (o : Option (List ℕ × List ℕ)). turned_by o p.0) eo ∙ cond-true (bytes_eq p.0 p.0) p.1 p.0 (same_from_word p.0 p.0 refl) in (
      s.0,
      k.symbol,
      s.1,
      k.within,
      ap (in_domain e) s.2 ∙ below_word e.parent (moves e) p.0 [] ∙ moving,
      ap (in_domain e) k.name_is ∙ k.stays,
      ap (ren e) s.2 ∙ turn_word e.parent (turned e) p.0 [] ∙ ap (λ (x : List ℕ). e.parent ++ x ∷ []) becomes ∙ sym k.name_is,
    )

pub collisions_are_new_names : CollisionsAreNewNames
collisions_are_new_names e w ok is = (new_name_taken e w ok, collision_from e w is)
