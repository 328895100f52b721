pub mod FileTexts
pub mod PlainTexts
pub mod UriTexts
