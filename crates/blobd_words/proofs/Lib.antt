pub mod SizeTexts
pub mod WordFacts
