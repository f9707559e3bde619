pub mod Items
pub mod Reports
