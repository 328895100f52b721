pub mod Parts
pub mod SegmentFacts
pub mod Prefixes
pub mod Sent
