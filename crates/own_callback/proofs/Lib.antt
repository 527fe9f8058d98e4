pub mod Cased
pub mod Commanded
pub mod Names
pub mod PlainText
