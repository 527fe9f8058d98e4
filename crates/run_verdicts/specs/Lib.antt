pub mod Audits
pub mod Verdicts
pub mod Texts
pub mod Judged
