pub mod TwentyLemmas
