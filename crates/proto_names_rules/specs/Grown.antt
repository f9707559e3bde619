-- The declarations of one file from its tree, and of many files.
use Rattle.std.specs.Prelude.{◌≡◌, ◌≢◌, ℕ, suc, List, [], ◌∷◌, ◌++◌, flat_map, length, map}
use Rattle.std.specs.List.{Contains}
use Rattle.proto_names_rules.specs.Names.{Import}
use Rattle.proto_names_rules.specs.Skeleton.{Declared, Used, Skeleton, shifted_source, shifted_declared}
use Rattle.proto_names_rules.specs.Tree.{Items, Members, Placed, all_placed, file_placed, ItemsSpan}

-- a declaration of the file with this number: its path is the one above it, and its own word
abbrev pub declared_of : ℕ → Placed → Declared ℕ
declared_of file p = record { path = p.above ++ p.last ∷ []; kind = p.kind; file = file }

-- what the members of one file declare, without a package, imports and references
abbrev pub skeleton_of : ℕ → Members → Skeleton ℕ
skeleton_of file ms = record {
  files = 1;
  declared = map (declared_of file) (all_placed [] ms);
  imports = [];
  used = [];
}

-- what one file declares and uses (which file it is, the list of files says)
pub record FileNames : Type 0 where
  pub items : Items
  pub used : List (Used ℕ)

-- its tokens are numbered in order, and the scope of each reference is a declaration of it, or none
pub record IsGrown (f : FileNames) : Type 0 where
  pub low : ℕ
  pub high : ℕ
  pub span : ItemsSpan low high f.items
  pub scopes : (u : Used ℕ) → Contains f.used u → u.scope ≢ []
      → (p : Placed) × Contains (file_placed f.items) p × (p.above ++ p.last ∷ [] ≡ u.scope)

-- a token among many files: the number of its file, and its index there, both from 0
pub record At : Type 0 where
  pub file : ℕ
  pub token : ℕ

-- the token of the file with the first number that has the second as its index
abbrev pub at : ℕ → ℕ → At
at file token = record { file = file; token = token }

-- what the file with this number declares, below its package, by tokens among many files
abbrev pub file_declared : ℕ → FileNames → List (Declared At)
file_declared file f =
    map (λ p. shifted_declared (at file) (declared_of file p)) (file_placed f.items)

-- a reference in the file with this number, by tokens among many files
abbrev pub used_in : ℕ → Used ℕ → Used At
used_in file u = record {
  file = file;
  scope = map (shifted_source (at file)) u.scope;
  is_absolute = u.is_absolute;
  wants = u.wants;
  first = at file u.first;
  tokens = map (at file) u.tokens;
}

-- the references in the file with this number, by tokens among many files
abbrev pub file_used : ℕ → FileNames → List (Used At)
file_used file f = map (used_in file) f.used

-- each element with its number, of which the first is this one
abbrev pub numbered : {A : Type 0} → ℕ → List A → List (ℕ × A)
numbered n [] = []
numbered n (x ∷ xs) = (n, x) ∷ numbered (suc n) xs

-- the declarations of all files from this number on, file after file
abbrev pub all_declared : ℕ → List FileNames → List (Declared At)
all_declared file fs = flat_map (λ p. file_declared p.0 p.1) (numbered file fs)

-- the references in all files from this number on, file after file
abbrev pub all_used : ℕ → List FileNames → List (Used At)
all_used file fs = flat_map (λ p. file_used p.0 p.1) (numbered file fs)

-- the names of many files, numbered from 0, by their tokens, with these imports between them
abbrev pub skeleton_of_files : List Import → List FileNames → Skeleton At
skeleton_of_files imports fs = record {
  files = length fs;
  declared = flat_map (λ p. file_declared p.0 p.1) (numbered 0 fs);
  imports = imports;
  used = flat_map (λ p. file_used p.0 p.1) (numbered 0 fs);
}
