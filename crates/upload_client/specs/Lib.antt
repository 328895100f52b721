pub mod Heard
pub mod AskText
pub mod AnswerText
pub mod TransportText
pub mod FaultTexts
pub mod UnambiguousReplies
pub mod Inner
