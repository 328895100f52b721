pub mod ServedPool
pub mod KeptPool
pub mod Stations
pub mod Working
