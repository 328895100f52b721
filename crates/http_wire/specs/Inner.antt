-- How the code gets there: what its own steps find and hold. Nothing here is part of what it promises.
pub mod Gathering
pub mod HeadReading
pub mod HeadSpans
pub mod FieldReading
pub mod BodyReading
pub mod SizeLines
pub mod ChunkReading
pub mod ChunksRead
pub mod BodyFinding
pub mod ResponseBodyFinding
