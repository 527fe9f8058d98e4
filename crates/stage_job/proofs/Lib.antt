pub mod CallCounts
pub mod CalmRules
pub mod ChunkSteps
pub mod KindCounts
pub mod LawfulSteps
pub mod OneMessage
pub mod ToldSteps
