pub mod AckLaws
pub mod EndsLaws
