-- The symbols of what is listed of a file, as it is gone through.
use Rattle.std.proofs.Common.{◌≡◌, ℕ, ◌+◌, ◌<◌, ◌≤◌, List, [], ◌∷◌, ◌++◌, append_assoc, append-nil, drop, length, get_or, map, take, take_all, Option, Some, None, refl, sym, ap, ◌∙◌, arith}
use Rattle.std.specs.List.{filter_map}
use Rattle.proto_base.proofs.Common.{filter_map-append, get_or-map, get_or_append_left, length-map, map-append, take_more}
use Rattle.std.proofs.lemmas.List.{length-take-le, take-append-drop}
use Rattle.proto_files.proofs.Common.{FileOf, ReadOf}
use Rattle.proto_names_outline.proofs.Common.{last_token, length-read, needs, path_at, path_of, read, read_on, seen, source_of, whole}
use Rattle.proto_names_outline.specs.declared.listing.Above.{Above}
use Rattle.proto_names_outline.specs.declared.listing.Above.TheVariants.{Below, Outermost}
use Rattle.proto_names_outline.specs.declared.listing.LastWord.{LastWord}
use Rattle.proto_names_outline.specs.declared.listing.LastWord.TheVariants.{EntryName, Key, Text, Value}
use Rattle.proto_names_outline.specs.declared.listing.Listed.{Listed}
use Rattle.proto_names_rules.specs.Grown.{at}
use Rattle.proto_names_rules.specs.Skeleton.{Source, Token}
use Rattle.proto_names_rules.specs.Tree.{Placed, place}
use Rattle.proto_names_rules.specs.declared.kind.Kind.{Kind}
use Rattle.proto_names_rules.specs.declared.kind.Kind.TheVariants.{Package}
use Rattle.proto_positions.specs.declared.encoding.Encoding.{Encoding}
use Rattle.proto_answers.specs.Common.{container_token, if_written, location_of, no_entry, symbol_at, symbol_if_written}
use Rattle.proto_answers.specs.declared.ranges.Location.{Location}
use Rattle.proto_answers.specs.declared.symbols.Symbol.{Symbol}

-- ---- reading what is listed, up to an entry

read_push : (before : List Placed) (es : List Listed) (e : Listed) → read_on before (es ++ e ∷ []) ≡ read_on before es ++ seen (path_at (read_on before es) e.above) e ∷ []
read_push before [] e = refl
read_push before (x ∷ es) e = read_push (before ++ seen (path_at before x.above) x ∷ []) es e

read_append : (before : List Placed) (es fs : List Listed) → read_on before (es ++ fs) ≡ read_on (read_on before es) fs
read_append before [] fs = refl
read_append before (x ∷ es) fs = read_append (before ++ seen (path_at before x.above) x ∷ []) es fs

read_begins : (before : List Placed) (es : List Listed) → (more : List Placed) × (read_on before es ≡ before ++ more)
read_begins before [] = ([], sym (append-nil before))
read_begins before (x ∷ es) =
    let r = read_begins (before ++ seen (path_at before x.above) x ∷ []) es in
    (seen (path_at before x.above) x ∷ r.0, r.1 ∙ append_assoc before (seen (path_at before x.above) x ∷ []) r.0)

-- the token of each entry is the last of its path
abbrev pub HaveTokens : List Listed → Type 0
HaveTokens declared = map (λ e. Some e.token) declared ≡ map (λ p. last_token (whole p)) (read declared)

container_is : (declared : List Listed) (i : ℕ) → i ≤ length declared → HaveTokens declared → (above : Above) → needs above ≤ i → last_token (path_at (read (take i declared)) above) ≡ container_token declared above
container_is declared i within tokens Outermost need = refl
container_is declared i within tokens (Below k) need = ap last_token (sym longer ∙ placed) ∙ sym at_k ∙ listed
  where
    below : k < length declared
    below = omega (arith, need, within)

    more : (rest : List Placed) × (read declared ≡ read (take i declared) ++ rest)
    more =
        let r = read_begins (read (take i declared)) (drop i declared) in
        (r.0, ap read (sym (take-append-drop i declared)) ∙ read_append [] (take i declared) (drop i declared) ∙ r.1)

    -- the path of the entry is the same in the longer list
    longer : path_of (read declared) k ≡ path_of (read (take i declared)) k
    longer =
        let count = length-read (take i declared) in
        let all = length-take-le i declared within in
        let paths = length-map (read (take i declared)) whole in
        let inside : k < length (map whole (read (take i declared))) = omega (arith, count, all, paths, need) in
        ap (λ (ps : List Placed). get_or (map whole ps) k []) more.1
        ∙ ap (λ (qs : List (List (Source ℕ))). get_or qs k []) (map-append whole (read (take i declared)) more.0)
        ∙ get_or_append_left (map whole (read (take i declared))) (map whole more.0) [] k inside

    in_all : k < length (read declared)
    in_all = let count = length-read declared in omega (arith, count, below)

    placed : path_of (read declared) k ≡ whole (get_or (read declared) k (record { above = []; last = Token 0; kind = Package }))
    placed = get_or-map whole (read declared) k (record { above = []; last = Token 0; kind = Package }) [] in_all

    at_k : get_or (map (λ (p : Placed). last_token (whole p)) (read declared)) k None ≡ last_token (whole (get_or (read declared) k (record { above = []; last = Token 0; kind = Package })))
    at_k = get_or-map (λ (p : Placed). last_token (whole p)) (read declared) k (record { above = []; last = Token 0; kind = Package }) None in_all

    listed : get_or (map (λ (p : Placed). last_token (whole p)) (read declared)) k None ≡ Some (get_or declared k no_entry).token
    listed = ap (λ (os : List (Option ℕ)). get_or os k None) (sym tokens) ∙ get_or-map (λ (e : Listed). Some e.token) declared k no_entry None below

-- ---- the symbols of what is read

module _ (e : Encoding) (files : List FileOf) (reads : List ReadOf) (file : ℕ) where
  abbrev pub Symbols : List Placed → List Symbol
  Symbols places = filter_map (symbol_if_written e files reads file) places

  -- of one entry
  one_symbol_is : (word : LastWord) (token : ℕ) (kind : Kind) (path : List (Source ℕ)) (s : Symbol) → s ≡ symbol_at e files reads file (place path (source_of word token) kind) token
      → if_written word s ≡ Symbols (place path (source_of word token) kind ∷ [])
  one_symbol_is Text token kind path s is = ap (λ (z : Symbol). z ∷ []) is
  one_symbol_is EntryName token kind path s is = refl
  one_symbol_is Key token kind path s is = refl
  one_symbol_is Value token kind path s is = refl

  -- a symbol is made of its parts
  pub symbol_made : (declared : List Listed) (x : Listed) (s : Symbol) (container : Option ℕ) (location : Location) → s ≡ record { kind = x.kind; token = x.token; container = container; location = location }
      → container ≡ container_token declared x.above → location ≡ location_of e files reads (at file x.token)
      → s ≡ record { kind = x.kind; token = x.token; container = container_token declared x.above; location = location_of e files reads (at file x.token) }
  symbol_made declared x s container location is c l =
      is
      ∙ ap (λ (z : Option ℕ). let y : Symbol = record { kind = x.kind; token = x.token; container = z; location = location } in y) c
      ∙ ap (λ (z : Location). let y : Symbol = record { kind = x.kind; token = x.token; container = container_token declared x.above; location = z } in y) l

  -- one entry more
  pub symbol_more : (declared : List Listed) (i : ℕ) (x : Listed) → i < length declared → x ≡ get_or declared i no_entry → needs x.above ≤ i → HaveTokens declared → (before after : List Symbol) (s : Symbol)
      → before ≡ Symbols (read (take i declared)) → s ≡ record { kind = x.kind; token = x.token; container = container_token declared x.above; location = location_of e files reads (at file x.token) }
      → after ≡ before ++ if_written x.word s → after ≡ Symbols (read (take (i + 1) declared))
  symbol_more declared i x lt is need tokens before after s made symbol grown =
      let path = path_at (read (take i declared)) x.above in
      let container : container_token declared x.above ≡ last_token path = sym (container_is declared i (omega (arith, lt)) tokens x.above need) in
      let mine : s ≡ symbol_at e files reads file (seen path x) x.token =
      symbol ∙ ap (λ (c : Option ℕ). let z : Symbol = record { kind = x.kind; token = x.token; container = c; location = location_of e files reads (at file x.token) } in z) container in
      let next : read (take i declared) ++ seen path x ∷ [] ≡ read (take (i + 1) declared) =
      sym (read_push [] (take i declared) x) ∙ ap read (ap (λ (z : Listed). take i declared ++ z ∷ []) is ∙ sym (take_more declared i no_entry lt)) in
      grown
      ∙ ap (λ (ss : List Symbol). ss ++ if_written x.word s) made
      ∙ ap (λ (ss : List Symbol). Symbols (read (take i declared)) ++ ss) (one_symbol_is x.word x.token x.kind path s mine)
      ∙ sym (filter_map-append (symbol_if_written e files reads file) (read (take i declared)) (seen path x ∷ []))
      ∙ ap Symbols next

  pub symbols_end : (declared : List Listed) (i : ℕ) → length declared ≤ i → (all : List Symbol) → all ≡ Symbols (read (take i declared)) → all ≡ Symbols (read declared)
  symbols_end declared i end all made = made ∙ ap (λ (es : List Listed). Symbols (read es)) (take_all i declared end)
