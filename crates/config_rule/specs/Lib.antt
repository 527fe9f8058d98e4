pub mod RuleText
pub mod SourceText
