pub mod Name
pub mod NameBytes
pub mod NamePass
pub mod NameFaults
pub mod Digest
pub mod Sum
pub mod ByteRange
pub mod Reference
