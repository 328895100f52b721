pub mod Complaints
pub mod Size
pub mod Words
