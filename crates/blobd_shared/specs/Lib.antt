pub mod Connections
pub mod Status
