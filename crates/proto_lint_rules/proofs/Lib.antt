pub mod RuleOrder
