-- How the code gets there: what its own steps find and hold. Nothing here is part of what it promises.
pub mod ConversationSteps
pub mod ToldSteps
pub mod Coming
pub mod RequestReading
pub mod RequestInputState
