-- A declaration of a list stands right below the path that its entry says.
use Rattle.std.proofs.Common.{◌≡◌, ℕ, zero, suc, ◌+◌, ◌<◌, ◌≤◌, List, [], ◌∷◌, ◌++◌, length, get_or, map, refl, sym, ◌∙◌, ap, arith, append_assoc, length-append, reverse}
use Rattle.std.proofs.lemmas.List.{map-append, length-map, get_or_append_left, get_or_at, reverse-append}
use Rattle.proto_names_outline.specs.Listing.{needs, path_at, path_of, read, read_on, seen, source_of, whole}
use Rattle.proto_names_outline.specs.declared.listing.Above.{Above}
use Rattle.proto_names_outline.specs.declared.listing.Above.TheVariants.{Outermost, Below}
use Rattle.proto_names_outline.specs.declared.listing.Listed.{Listed}
use Rattle.proto_case.specs.Camel.{entry_name}
use Rattle.proto_names_rules.proofs.Common.{Source, name_of, spell, Placed}
use Rattle.proto_names_outline.specs.declared.listing.LastWord.TheVariants.{Text}
use Rattle.proto_names_rules.specs.declared.kind.Kind.TheVariants.{Package}
use Rattle.proto_names_table.proofs.SpelledNames.{read_on-front as read_front}

-- what is read past the end
abbrev pub no_entry : Listed
no_entry = record { above = Outermost; word = Text; token = 0; kind = Package }

path_more : (ds more : List Placed) (k : ℕ) → k < length ds → path_of (ds ++ more) k ≡ path_of ds k
path_more ds more k l =
    ap (λ (ps : List (List (Source ℕ))). get_or ps k []) (map-append whole ds more)
    ∙ get_or_append_left (map whole ds) (map whole more) [] k (let n = length-map ds whole in omega (arith, l, n))

above_more : (ds more : List Placed) (above : Above) → needs above ≤ length ds → path_at (ds ++ more) above ≡ path_at ds above
above_more ds more Outermost l = refl
above_more ds more (Below k) l = path_more ds more k (omega (arith, l))

path_here : (before : List Placed) (p : Placed) (rest : List Placed) (n : ℕ) → n ≡ length before → path_of (before ++ p ∷ rest) n ≡ whole p
path_here before p rest n e =
    ap (λ (ps : List (List (Source ℕ))). get_or ps n []) (map-append whole before (p ∷ rest))
    ∙ get_or_at (map whole before) (whole p) (map whole rest) [] n (length-map before whole ∙ sym e)

at_entry : (before : List Placed) (es : List Listed) (k n : ℕ) (d : Listed) → k < length es → n ≡ length before + k → needs (get_or es k d).above ≤ n
    → path_of (read_on before es) n ≡ path_at (read_on before es) (get_or es k d).above ++ source_of (get_or es k d).word (get_or es k d).token ∷ []
at_entry before [] k n d l e h = absurd (omega (arith, l))
at_entry before (x ∷ es) zero n d l e h =
    let p = seen (path_at before x.above) x in
    let r = read_front (before ++ p ∷ []) es in
    let all : read_on before (x ∷ es) ≡ before ++ (p ∷ r.0) = r.1 ∙ append_assoc before (p ∷ []) r.0 in
    ap (λ ds. path_of ds n) all ∙ path_here before p r.0 n (omega (arith, e))
    ∙ ap (λ (z : List (Source ℕ)). z ++ source_of x.word x.token ∷ []) (sym (above_more before (p ∷ r.0) x.above (omega (arith, h, e))))
    ∙ ap (λ (ds : List Placed). path_at ds x.above ++ source_of x.word x.token ∷ []) (sym all)
at_entry before (x ∷ es) (suc k) n d l e h =
    let p = seen (path_at before x.above) x in
    let longer = length-append before (p ∷ []) in
    at_entry (before ++ p ∷ []) es k n d (omega (arith, l)) (omega (arith, e, longer)) h

pub path_right_below : (es : List Listed) (k : ℕ) (d : Listed) → k < length es → needs (get_or es k d).above ≤ k
    → path_of (read es) k ≡ path_at (read es) (get_or es k d).above ++ source_of (get_or es k d).word (get_or es k d).token ∷ []
path_right_below es k d l h = at_entry [] es k k d l (omega arith) h

pub outermost : (a : Above) → ((k : ℕ) → a ≡ Below k → ⊥) → a ≡ Outermost
outermost Outermost h = refl
outermost (Below k) h = absurd (h k refl)

pub map_reverse : {X Y : Type 0} (f : X → Y) (xs : List X) → map f (reverse xs) ≡ reverse (map f xs)
map_reverse f [] = refl
map_reverse f (x ∷ xs) =
    ap (map f) (reverse-append (x ∷ []) xs) ∙ map-append f (reverse xs) (x ∷ []) ∙ ap (λ ys. ys ++ f x ∷ []) (map_reverse f xs) ∙ sym (reverse-append (f x ∷ []) (map f xs))

-- one word more of the name, outward
pub one_out : (text : ℕ → List ℕ) (es : List Listed) (k : ℕ) (d : Listed) (ws : List (List ℕ)) (word : List ℕ) → k < length es → needs (get_or es k d).above ≤ k
    → word ≡ spell text entry_name (source_of (get_or es k d).word (get_or es k d).token)
    → name_of text entry_name (path_at (read es) (get_or es k d).above) ++ reverse (ws ++ word ∷ []) ≡ name_of text entry_name (path_at (read es) (Below k)) ++ reverse ws
one_out text es k d ws word l h is =
    let above = path_at (read es) (get_or es k d).above in
    let last = source_of (get_or es k d).word (get_or es k d).token in
    ap (λ z. name_of text entry_name above ++ z) (reverse-append ws (word ∷ []))
    ∙ sym (append_assoc (name_of text entry_name above) (word ∷ []) (reverse ws))
    ∙ ap (λ z. (name_of text entry_name above ++ z ∷ []) ++ reverse ws) is
    ∙ ap (λ z. z ++ reverse ws) (sym (map-append (spell text entry_name) above (last ∷ [])))
    ∙ ap (λ z. name_of text entry_name z ++ reverse ws) (sym (path_right_below es k d l h))
