pub mod Gets
pub mod Looks
pub mod Marks
pub mod Network
pub mod Dialing
pub mod OneWorker
