pub mod PlaceFronts
pub mod PlaceLemmas
pub mod AskTextLemmas
pub mod CodeLemmas
pub mod AnswerLemmas
pub mod TransportLemmas
pub mod UnambiguousReplies
