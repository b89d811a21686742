pub mod ProfileLemmas
