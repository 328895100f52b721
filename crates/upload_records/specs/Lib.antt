pub mod Census
pub mod Counted
pub mod Names
