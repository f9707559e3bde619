-- Where the tokens that are listed stand, as they are gone through.
use Rattle.std.proofs.Common.{◌≡◌, ℕ, ◌+◌, ◌<◌, ◌≤◌, Bool, true, false, if◌then◌else◌, List, [], ◌∷◌, ◌++◌, append_assoc, append-nil, length, get_or, map, filter, take, take_all, Option, sym, ap, ◌∙◌}
use Rattle.proto_base.proofs.Common.{cond-false, cond-true, filter-append, flat_map-append, map-append, map_more, take_more}
use Rattle.proto_files.proofs.Common.{FileOf, ReadOf}
use Rattle.proto_names_rules.specs.Grown.{At, at}
use Rattle.proto_edit_rename.specs.declared.file_occurrences.FileOccurrences.{FileOccurrences}
use Rattle.proto_positions.specs.declared.encoding.Encoding.{Encoding}
use Rattle.proto_answers.specs.Common.{all_tokens, is_listed, location_of}
use Rattle.proto_answers.specs.declared.declaring.FileToken.{FileToken}
use Rattle.proto_answers.specs.declared.ranges.Location.{Location}

-- one token, where it passes
if_passes : (p : At → Bool) (f : At → Location) (x : At) (b : Bool) (y : Location) → b ≡ p x → y ≡ f x → (if b then y ∷ [] else []) ≡ map f (filter p (x ∷ []))
if_passes p f x true y passes is = ap (λ (z : Location). z ∷ []) is ∙ sym (ap (map f) (cond-true (p x) (x ∷ []) [] (sym passes)))
if_passes p f x false y passes is = sym (ap (map f) (cond-false (p x) (x ∷ []) [] (sym passes)))

passes_append : (p : At → Bool) (f : At → Location) (xs ys : List At) → map f (filter p (xs ++ ys)) ≡ map f (filter p xs) ++ map f (filter p ys)
passes_append p f xs ys = ap (map f) (filter-append p xs ys) ∙ map-append f (filter p xs) (filter p ys)

module _ (e : Encoding) (files : List FileOf) (reads : List ReadOf) (left_out : Option FileToken) where
  abbrev pub Located : List At → List Location
  Located tokens = map (location_of e files reads) (filter (is_listed left_out) tokens)

  -- one token more of a file
  pub token_more : (file : ℕ) (tokens : List ℕ) (i t : ℕ) → i < length tokens → t ≡ get_or tokens i 0 → (first before after : List Location) (listed : Bool) (l : Location)
      → before ≡ first ++ Located (map (at file) (take i tokens)) → listed ≡ is_listed left_out (at file t) → l ≡ location_of e files reads (at file t) → after ≡ before ++ (if listed then l ∷ [] else [])
      → after ≡ first ++ Located (map (at file) (take (i + 1) tokens))
  token_more file tokens i t lt is first before after listed l made passes stands grown =
      let xs : List At = map (at file) (take i tokens) in
      let more : xs ++ at file t ∷ [] ≡ map (at file) (take (i + 1) tokens) = ap (λ (z : ℕ). xs ++ at file z ∷ []) is ∙ sym (map_more (at file) tokens i 0 lt) in
      grown
      ∙ ap (λ (ls : List Location). ls ++ (if listed then l ∷ [] else [])) made
      ∙ append_assoc first (Located xs) (if listed then l ∷ [] else [])
      ∙ ap (λ (ls : List Location). first ++ (Located xs ++ ls)) (if_passes (is_listed left_out) (location_of e files reads) (at file t) listed l passes stands)
      ∙ ap (λ (ls : List Location). first ++ ls) (sym (passes_append (is_listed left_out) (location_of e files reads) xs (at file t ∷ [])) ∙ ap Located more)

  pub tokens_end : (file : ℕ) (tokens : List ℕ) (i : ℕ) → length tokens ≤ i → (first after : List Location) → after ≡ first ++ Located (map (at file) (take i tokens)) → after ≡ first ++ Located (map (at file) tokens)
  tokens_end file tokens i end first after made = made ∙ ap (λ (ts : List ℕ). first ++ Located (map (at file) ts)) (take_all i tokens end)

  -- one file more
  pub file_more : (found : List FileOccurrences) (i : ℕ) (o : FileOccurrences) → i < length found → o ≡ get_or found i o → (before after : List Location)
      → before ≡ Located (all_tokens (take i found)) → after ≡ before ++ Located (map (at o.file) o.tokens.items) → after ≡ Located (all_tokens (take (i + 1) found))
  file_more found i o lt is before after made grown =
      let f = λ (p : FileOccurrences). map (at p.file) p.tokens.items in
      let next : all_tokens (take i found) ++ map (at o.file) o.tokens.items ≡ all_tokens (take (i + 1) found) =
      ap (λ (xs : List At). all_tokens (take i found) ++ xs) (sym (append-nil (map (at o.file) o.tokens.items)))
      ∙ sym (flat_map-append f (take i found) (o ∷ []))
      ∙ ap all_tokens (ap (λ (z : FileOccurrences). take i found ++ z ∷ []) is ∙ sym (take_more found i o lt)) in
      grown
      ∙ ap (λ (ls : List Location). ls ++ Located (map (at o.file) o.tokens.items)) made
      ∙ sym (passes_append (is_listed left_out) (location_of e files reads) (all_tokens (take i found)) (map (at o.file) o.tokens.items))
      ∙ ap Located next
