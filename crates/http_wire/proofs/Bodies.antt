pub mod MovedLemmas
pub mod LineLemmas
pub mod ChunkLemmas
pub mod LineReadLemmas
pub mod ChunkReadLemmas
