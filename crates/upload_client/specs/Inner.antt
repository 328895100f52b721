-- How the code gets there: what its own steps find. Nothing here is part of what it promises.
pub mod AnswerReading
