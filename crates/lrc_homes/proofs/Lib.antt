pub mod MaskLemmas
pub mod RankLemmas
pub mod HomesLemmas
