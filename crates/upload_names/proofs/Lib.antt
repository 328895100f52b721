pub mod NameFacts
pub mod DigestFacts
pub mod RangeFacts
pub mod ReferenceFacts
pub mod TextFacts
pub mod ReferenceTexts
