pub mod OnceFacts
