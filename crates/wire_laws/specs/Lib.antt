pub mod WrittenAsks
pub mod WrittenReplies
pub mod WrittenExchanges
pub mod Joined
