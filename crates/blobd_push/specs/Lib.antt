pub mod Answered
pub mod Dials
pub mod Pauses
pub mod Pushed
pub mod Sights
pub mod Trouble
