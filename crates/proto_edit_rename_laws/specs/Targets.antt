-- What a rename aims at, the name map that it gives, and the tokens that it changes.
use Rattle.std.specs.Prelude.{◌≡◌, ℕ, List, find, map, Some}
use Rattle.std.specs.List.{Contains}
use Rattle.proto_files.specs.GivenFiles.{FileOf}
use Rattle.proto_files.specs.FilesRead.{ReadOf, read_at}
use Rattle.proto_names_rules.specs.Faults.{place_of}
use Rattle.proto_names_rules.specs.Grown.{At}
use Rattle.proto_names_rules.specs.Skeleton.{Declared}
use Rattle.proto_names_imports.specs.Links.{link_skeleton}
use Rattle.proto_ast.specs.Parts.{BlockOf, blocks_in, values_in}
use Rattle.proto_resolved.specs.SceneOf.{is_enum_at}

-- the block of a declared enum has a value with this name token
pub record HasValue
    (files : List FileOf) (reads : List ReadOf) (d : Declared At) (v : ℕ) : Type 0 where
  pub b : BlockOf
  pub declared : Contains (link_skeleton files reads).declared d
  pub found : find (λ (x : BlockOf). is_enum_at (place_of d).token x.header)
      (blocks_in (read_at reads (place_of d).file).tree) ≡ Some b
  pub within : Contains (map (λ v. v.name) (values_in b.within)) v
