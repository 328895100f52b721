pub mod HeadTextLemmas
pub mod HeadLemmas
pub mod HeadLaws
pub mod ElementLemmas
pub mod FieldLemmas
pub mod FirstFieldLemmas
pub mod FrontLemmas
pub mod ReadLemmas
