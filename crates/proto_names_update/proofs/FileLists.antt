-- The lists of one file that was read (for the crates above).
use Rattle.std.proofs.Common.{◌≡◌, ℕ, ◌<◌, false, List, [], ◌∷◌, ◌++◌, length, get_or, map, string_bytes, Some, refl, sym, ◌∙◌, ap, subst, arith, append_assoc, All, Contains, append-nil}
use Rattle.proto_base.proofs.Common.{map-append, Contains-get_or, get_or-map, length-map, or_nothing, contains_map}
use Rattle.proto_text.specs.declared.lexer.Token.{Token}
use Rattle.proto_text.proofs.Common.{IsString, word_at, words, Lexeme, value_of}
use Rattle.proto_tree.proofs.Common.{ReadsIn, Tree}
use Rattle.proto_files.proofs.Common.{FileOf, file_at, ReadOf, AreRead, read_at, AreWordsAt, IsTreeOf, same_tree, same_words}
use Rattle.proto_names_outline.proofs.Common.{Wanted, file_names, imports_in, items_in, IsSound, last_token, package_first, path_at, read, read_on, seen, uses_in, wanted_of, whole, names_plain, declared_rising, packages_first, imports_are_strings, imports_rising}
use Rattle.proto_names_rules.proofs.Common.{At, at, Token as TokenOf, Placed, place, map_map}
use Rattle.proto_names_imports.proofs.Common.{asked_by, TokensAreRising, IsListing, text_of, asked_as, AreWritten}
use Rattle.proto_names_table.proofs.Common.{AreListed, named_as, named_in}
use Rattle.proto_names_rules.specs.declared.kind.Kind.{Kind}
use Rattle.proto_names_rules.specs.declared.kind.Kind.TheVariants.{Package}
use Rattle.proto_names_imports.specs.declared.import.WrittenImport.{WrittenImport}
use Rattle.proto_names_outline.specs.declared.listing.Listed.{Listed}
use Rattle.proto_names_outline.specs.declared.listing.Listing.{Listing}
use Rattle.proto_names_table.specs.declared.spelled.Spelled.{Spelled}
use Rattle.proto_names_outline.specs.declared.wanted.Wanted.{Wanted as WantedAt}
use Rattle.proto_base.specs.declared.profile.Profile.{Profile}

-- lists with the same images agree at each place
pub same_at : {X Y Z : Type 0} (f : X → Z) (g : Y → Z) (xs : List X) (ys : List Y) → map f xs ≡ map g ys → (k : ℕ) (d : X) (e : Y) → k < length xs → (k < length ys) × (f (get_or xs k d) ≡ g (get_or ys k e))
same_at {Z = Z} f g xs ys h k d e l =
    let n : length xs ≡ length ys = sym (length-map xs f) ∙ ap length h ∙ length-map ys g in
    let m : k < length ys = omega (arith, l, n) in
    (m, sym (get_or-map f xs k d (f d) l) ∙ ap (λ (zs : List Z). get_or zs k (f d)) h ∙ get_or-map g ys k e (f d) m)

-- ---- imports

-- they name files by strings
wanted_strings : (profile : Profile) (text : List ℕ) (tokens : List Token) (tree : Tree) → ReadsIn profile text tokens tree → (wanted : List WantedAt) → map wanted_of wanted ≡ imports_in tree → All (λ w. IsString (words text tokens w.path)) wanted
wanted_strings profile text tokens tree reads wanted e k d l =
    let c : Contains (imports_in tree) (wanted_of (get_or wanted k d)) = subst (λ (ws : List Wanted). Contains ws (wanted_of (get_or wanted k d))) e (contains_map wanted_of wanted (get_or wanted k d) (Contains-get_or wanted k d l)) in
    imports_are_strings profile text tokens tree reads (wanted_of (get_or wanted k d)) c

asked_here : (text : At → List ℕ) (file : ℕ) (wanted : List WantedAt) (ws : List WrittenImport) → AreWritten (λ i. text (at file i)) wanted ws → map (asked_by file) ws ≡ map (asked_as text file) (map wanted_of wanted)
asked_here text file [] [] h = refl
asked_here text file [] (x ∷ ws) h = absurd (let t = h.tokens in cc)
asked_here text file (w ∷ wanted) [] h = absurd (let t = h.tokens in cc)
asked_here text file (w ∷ wanted) (x ∷ ws) h =
    let tokens = h.tokens in
    let publics = h.publics in
    let paths = h.paths in
    let token : x.token ≡ w.path = cc in
    let is_public : x.is_public ≡ w.is_public = cc in
    let path : Some (string_bytes x.path) ≡ value_of (text (at file w.path)) = cc in
    let rest : AreWritten (λ i. text (at file i)) wanted ws = record { tokens = cc; publics = cc; paths = cc } in
    λ i. record { place = at file (token i); path = or_nothing (path i); is_public = is_public i } ∷ asked_here text file wanted ws rest i

no_import : Wanted
no_import = record { path = 0; is_public = false; is_weak = false }

written_rising : (profile : Profile) (text : List ℕ) (tokens : List Token) (tree : Tree) → ReadsIn profile text tokens tree → (wanted : List WantedAt) (ws : List WrittenImport) → map wanted_of wanted ≡ imports_in tree → map (λ i. i.token) ws ≡ map (λ w. w.path) wanted → TokensAreRising ws
written_rising profile text tokens tree reads wanted ws e t = λ i j d l m.
    (let same : map (λ x. x.token) ws ≡ map (λ w. w.path) (imports_in tree) = t ∙ sym (map_map wanted_of (λ w. w.path) wanted) ∙ ap (map (λ w. w.path)) e in
    let a = same_at (λ x. x.token) (λ w. w.path) ws (imports_in tree) same i d no_import (omega (arith, l, m)) in
    let b = same_at (λ x. x.token) (λ w. w.path) ws (imports_in tree) same j d no_import m in
    subst (λ (n : ℕ). n < (get_or ws j d).token) (sym a.1) (subst (λ (n : ℕ). (get_or (imports_in tree) i no_import).path < n) (sym b.1) (imports_rising profile text tokens tree reads i j no_import l b.0)))

-- ---- declarations

kinds_kept : (before : List Placed) (es : List Listed) → map (λ p. p.kind) (read_on before es) ≡ map (λ p. p.kind) before ++ map (λ e. e.kind) es
kinds_kept before [] = sym (append-nil (map (λ p. p.kind) before))
kinds_kept before (e ∷ es) =
    let p = seen (path_at before e.above) e in
    kinds_kept (before ++ p ∷ []) es
    ∙ ap (λ (ks : List Kind). ks ++ map (λ x. x.kind) es) (map-append (λ x. x.kind) before (p ∷ []))
    ∙ append_assoc (map (λ x. x.kind) before) (e.kind ∷ []) (map (λ x. x.kind) es)

nothing : Placed
nothing = place [] (TokenOf 0) Package

listed : (profile : Profile) (text : List ℕ) (tokens : List Token) (tree : Tree) → ReadsIn profile text tokens tree → (es : List Listed) → read es ≡ package_first (items_in tree)
    → map (λ e. Some e.token) es ≡ map (λ p. last_token (whole p)) (read es) → AreListed (words text tokens) es
listed profile text tokens tree reads es r t =
    let ps : List Placed = package_first (items_in tree) in
    let last : map (λ e. Some e.token) es ≡ map (λ p. last_token (whole p)) ps = t ∙ ap (map (λ p. last_token (whole p))) r in
    let kinds : map (λ e. e.kind) es ≡ map (λ p. p.kind) ps = sym (kinds_kept [] es) ∙ ap (map (λ p. p.kind)) r in
    let token_at : (k : ℕ) (d : Listed) → k < length es → (k < length ps) × (Some (get_or es k d).token ≡ last_token (whole (get_or ps k nothing))) =
    λ k d l. same_at (λ e. Some e.token) (λ p. last_token (whole p)) es ps last k d nothing l in
    let kind_at : (k : ℕ) (d : Listed) → k < length es → (get_or es k d).kind ≡ (get_or ps k nothing).kind =
    λ k d l. (same_at (λ e. e.kind) (λ p. p.kind) es ps kinds k d nothing l).1 in
    record {
      plain = λ k d l.
          (let a = token_at k d l in
          names_plain profile text tokens tree reads (get_or ps k nothing) (Contains-get_or ps k nothing a.0) (get_or es k d).token (sym a.1));
      packages = λ i j d l m h.
          (kind_at i d (omega (arith, l, m)) ∙ packages_first profile text tokens tree reads i j nothing l (token_at j d m).0 (sym (kind_at j d m) ∙ h));
      rising = λ i j d l m h.
          (let a = token_at i d (omega (arith, l, m)) in
          let b = token_at j d m in
          declared_rising profile text tokens tree reads i j nothing l b.0 (λ e. h (kind_at i d (omega (arith, l, m)) ∙ e)) (get_or es i d).token (get_or es j d).token (sym a.1) (sym b.1));
    }

-- ---- a file

pub listing_at : (files : List FileOf) (reads : List ReadOf) (k : ℕ) (tree : Tree) (l : Listing) → AreRead files reads → k < length files → IsTreeOf (file_at files k) tree
    → IsSound l → read l.declared.items ≡ package_first (items_in tree) → uses_in l ≡ (file_names tree).used → IsListing (read_at reads k) l
listing_at files reads k tree l are within t sound declared used =
    let same : tree ≡ (read_at reads k).tree = sym (same_tree files reads k tree are within t) in
    record {
      sound = sound;
      declared = declared ∙ ap (λ (x : Tree). package_first (items_in x)) same;
      used = used ∙ ap (λ (x : Tree). (file_names x).used) same;
    }

module _ (files : List FileOf) (k : ℕ) (tokens : List Token) (ls : List Lexeme) (f : AreWordsAt files k tokens ls) where
  -- ---- its imports

  module _ (tree : Tree) (t : IsTreeOf (file_at files k) tree) (wanted : List WantedAt) (e : map wanted_of wanted ≡ imports_in tree) where
    pub strings_at : All (λ w. IsString (word_at ls w.path)) wanted
    strings_at = subst (λ (x : List Lexeme). All (λ w. IsString (word_at x w.path)) wanted) (sym f.words) (wanted_strings (file_at files k).profile (file_at files k).bytes tokens tree (t tokens f.tokens_are) wanted e)

    pub rising_at : (ws : List WrittenImport) → AreWritten (word_at ls) wanted ws → TokensAreRising ws
    rising_at ws h = written_rising (file_at files k).profile (file_at files k).bytes tokens tree (t tokens f.tokens_are) wanted ws e h.tokens

    pub asked_at : (reads : List ReadOf) → AreRead files reads → (ws : List WrittenImport) → AreWritten (word_at ls) wanted ws → map (asked_by k) ws ≡ map (asked_as (text_of files reads) k) (imports_in (read_at reads k).tree)
    asked_at reads are ws h =
        asked_here (text_of files reads) k wanted ws (subst (λ (x : List Lexeme). AreWritten (word_at x) wanted ws) (same_words files reads k tokens ls are f) h)
        ∙ ap (map (asked_as (text_of files reads) k)) (e ∙ ap imports_in (sym (same_tree files reads k tree are f.within t)))

  -- ---- its declarations

  module _ (reads : List ReadOf) (are : AreRead files reads) (l : Listing) (listing : IsListing (read_at reads k) l) where
    pub listed_at : AreListed (word_at ls) l.declared.items
    listed_at =
        let text : List ℕ = (file_at files k).bytes in
        subst (λ (x : List Lexeme). AreListed (word_at x) l.declared.items) (sym (same_words files reads k tokens ls are f))
        (listed (file_at files k).profile text (read_at reads k).tokens (read_at reads k).tree (are.trees k f.within) l.declared.items listing.declared listing.sound.tokens)

    pub named_at : (ss : List Spelled) → named_in k ss ≡ map (named_as k (word_at ls)) (read l.declared.items) → named_in k ss ≡ map (named_as k (λ i. text_of files reads (at k i))) (package_first (items_in (read_at reads k).tree))
    named_at ss h =
        h
        ∙ ap (λ (x : List Lexeme). map (named_as k (word_at x)) (read l.declared.items)) (same_words files reads k tokens ls are f)
        ∙ ap (map (named_as k (λ i. text_of files reads (at k i)))) listing.declared
