pub mod Runs
pub mod Sweeps
