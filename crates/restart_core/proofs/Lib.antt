pub mod LastRestarts
