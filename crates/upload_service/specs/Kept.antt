-- What the tables, the segments and the hashes of a service stand for. Nothing here is part of what it promises.
pub mod Entries
pub mod Holders
pub mod Stock
pub mod Tables
