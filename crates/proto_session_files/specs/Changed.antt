-- Files beside others with the same paths.
use Rattle.std.specs.Prelude.{◌≡◌, ◌⊎◌, All, List}
use Rattle.std.specs.List.{Contains}
use Rattle.proto_base.specs.GivenFiles.{FileOf, paths_of}

-- files with the paths of others, and those of them that are not as they were
pub record AreChanged (clean files changed : List FileOf) : Type 0 where
  pub paths : paths_of files ≡ paths_of clean
  pub within : All (Contains files) changed
  pub others : All (λ f. Contains clean f ⊎ Contains changed f) files
