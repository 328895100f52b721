pub mod Endings
pub mod Hints
pub mod Line
pub mod Opened
pub mod Worth
