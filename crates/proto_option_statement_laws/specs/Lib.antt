pub mod OptionLaws
