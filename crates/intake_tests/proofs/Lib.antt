pub mod OneCall
pub mod Sent
