pub mod OptionFiles
